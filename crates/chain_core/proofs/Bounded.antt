-- How a run with a bound ends, and its services, by the moves that were made and the one that is due after them.
use Rattle.std.proofs.Common.{◌≡◌, ℕ, suc, ◌+◌, ◌<◌, ◌≤◌, ⊎_elim, Bool, true, false, List, [], ◌∷◌, length, refl, sym, ap, ◌∙◌, subst, arith}
use Rattle.std.specs.Prelude.{nat_le}
use Rattle.std.proofs.lemmas.Bool.{le-leb, leb-true, cases_eq, cases_lt}
use Rattle.chain_moves.specs.Machine.{When, Before, Within, After, Moved, Makes, Breaks, Ends, Machine}
use Rattle.chain_moves.specs.Run.{Made, Run, On, Broke, Over, run_to, Leads, IsRun}
use Rattle.chain_moves.specs.Cost.{cost}
use Rattle.chain_core.specs.End.{steps_before, steps_needed, end_by, end_of, end_at, services_within, IsListed}
use Rattle.chain_moves.specs.declared.broken.Broken.{Broken}
use Rattle.chain_moves.specs.declared.dispatcher.Dispatcher.{Dispatcher}
use Rattle.chain_core.specs.declared.chain_end.ChainEnd.{ChainEnd}
use Rattle.chain_core.specs.declared.chain_end.ChainEnd.TheVariants.{Done, BudgetSpent, Broken as BrokenOff}
use Rattle.chain_moves.proofs.Leading.{list_is_run, is_run}
use Rattle.chain_core.proofs.Ends.{over_at, broke_at, only_so, needed_more}
use Rattle.chain_core.proofs.Listing.{listed_so}

module _ {K S E : Type 0} (x : Machine K S E) (d : Dispatcher) (s : S) where
  pub more_cost : (m : Made K) (made : List (Made K)) → cost x d made ≤ cost x d (m ∷ made)
  unfolding cost
  more_cost m made = omega arith

  -- ---- two lists of moves from one state

  pub record Same (made other : List (Made K)) (t u : S) : Type 0 where
    pub moves : made ≡ other
    pub state : t ≡ u

  same_run : (made other : List (Made K)) (t u : S) → On made t ≡ On other u → Same made other t u
  same_run made other t u e = record { moves = cc; state = cc }

  same : (made other : List (Made K)) (t u : S) → Leads x made s t → Leads x other s u → length made ≡ length other → Same made other t u
  same made other t u h g l = same_run made other t u (sym (list_is_run x s made t h) ∙ (ap (run_to x s) l ∙ list_is_run x s other u g))

  -- the move after the shorter one is made, and the longer one costs that much at least
  record Goes (made longer : List (Made K)) (t : S) : Type 0 where
    kind : K
    next : S
    moves : x.move t ≡ Makes kind next
    costs : cost x d (record { kind = kind; claims = x.claims next } ∷ made) ≤ cost x d longer

  goes : (made longer : List (Made K)) (t u : S) → Leads x made s t → Leads x longer s u → length made < length longer → Goes made longer t
  goes made [] t u h g l = absurd (omega arith)
  goes made (m ∷ rest) t u h (v, g, e, c) l =
      ⊎_elim
      (λ (q : length made ≡ length rest).
      let z = same made rest t v h g q in
      let costs : cost x d (record { kind = m.kind; claims = x.claims u } ∷ made) ≡ cost x d (m ∷ rest) = ap (λ b. cost x d (record { kind = m.kind; claims = b } ∷ made)) c ∙ ap (λ l. cost x d (m ∷ l)) z.moves in
      record { kind = m.kind; next = u; moves = ap x.move z.state ∙ e; costs = omega (arith, costs) })
      (λ (ne : length made ≡ length rest → ⊥).
      let a = goes made rest t v h g (omega (arith, ne, l)) in
      record { kind = a.kind; next = a.next; moves = a.moves; costs = omega (arith, a.costs, more_cost m rest) })
      (cases_eq (length made) (length rest))

  shorter : (made other : List (Made K)) (t u : S) → Leads x made s t → Leads x other s u → length made ≤ length other → cost x d made ≤ cost x d other
  shorter made other t u h g l =
      ⊎_elim
      (λ (q : length made ≡ length other). let z = ap (cost x d) (same made other t u h g q).moves in omega (arith, z))
      (λ (ne : length made ≡ length other → ⊥).
      let a = goes made other t u h g (omega (arith, ne, l)) in
      omega (arith, a.costs, more_cost (record { kind = a.kind; claims = x.claims a.next }) made))
      (cases_eq (length made) (length other))

  -- ---- what is due after some moves

  no_end : {kind : K} {u : S} (moved : Moved K S) → moved ≡ Makes kind u → moved ≡ Ends → ⊥
  no_end moved e f = absurd cc

  no_break : {kind : K} {u : S} {when : When} {broken : Broken} {n : ℕ} (moved : Moved K S) → moved ≡ Makes kind u → moved ≡ Breaks when broken n → ⊥
  no_break moved e f = absurd cc

  -- it is beyond the bound
  abbrev pub Late : ℕ → List (Made K) → Moved K S → Type 0
  Late bound made (Makes kind u) = bound < cost x d (record { kind = kind; claims = x.claims u } ∷ made)
  Late bound made (Breaks when kind n) = bound < steps_needed when (cost x d made)
  Late bound made Ends = bound < cost x d made

  -- where it is, the bound is reached first
  late_ends : (bound : ℕ) (made other : List (Made K)) (t u : S) → Leads x made s t → Late bound made (x.move t) → Leads x other s u → x.move u ≡ Ends → bound < cost x d other
  late_ends bound made other t u h late g e =
      ⊎_elim
      (λ (l : length other < length made). let a = goes other made u t g h l in absurd (no_end (x.move u) a.moves e))
      (λ (n : length made ≤ length other). ⊎_elim
      (λ (q : length made ≡ length other).
      let z = same made other t u h g q in
      let c = ap (cost x d) z.moves in
      let l : bound < cost x d made = subst (Late bound made) (ap x.move z.state ∙ e) late in
      omega (arith, c, l))
      (λ (ne : length made ≡ length other → ⊥).
      let a = goes made other t u h g (omega (arith, ne, n)) in
      let l : bound < cost x d (record { kind = a.kind; claims = x.claims a.next } ∷ made) = subst (Late bound made) a.moves late in
      omega (arith, a.costs, l))
      (cases_eq (length made) (length other)))
      (cases_lt (length other) (length made))

  late_breaks : (bound : ℕ) (made other : List (Made K)) (t u : S) (when : When) (kind : Broken) (k : ℕ) → Leads x made s t → Late bound made (x.move t) → Leads x other s u → x.move u ≡ Breaks when kind k → bound < steps_needed when (cost x d other)
  late_breaks bound made other t u when kind k h late g e =
      ⊎_elim
      (λ (l : length other < length made). let a = goes other made u t g h l in absurd (no_break (x.move u) a.moves e))
      (λ (n : length made ≤ length other). ⊎_elim
      (λ (q : length made ≡ length other).
      let z = same made other t u h g q in
      let c = ap (λ l. steps_needed when (cost x d l)) z.moves in
      let l : bound < steps_needed when (cost x d made) = subst (Late bound made) (ap x.move z.state ∙ e) late in
      omega (arith, c, l))
      (λ (ne : length made ≡ length other → ⊥).
      let a = goes made other t u h g (omega (arith, ne, n)) in
      let l : bound < cost x d (record { kind = a.kind; claims = x.claims a.next } ∷ made) = subst (Late bound made) a.moves late in
      omega (arith, a.costs, l, needed_more x d when (cost x d other)))
      (cases_eq (length made) (length other)))
      (cases_lt (length other) (length made))

  -- ---- ends

  spent_by : (bound : ℕ) (end : ChainEnd) (n steps : ℕ) → (end ≡ BudgetSpent → ⊥) → (end_by (nat_le n bound) end steps bound).end ≡ BudgetSpent → end_by (nat_le n bound) end steps bound ≡ record { end = BudgetSpent; steps = bound }
  spent_by bound end n steps not e = by (nat_le n bound) refl
    where
      by : (b : Bool) → nat_le n bound ≡ b → end_by (nat_le n bound) end steps bound ≡ record { end = BudgetSpent; steps = bound }
      by true q = absurd (not (sym (ap (λ b. (end_by b end steps bound).end) q) ∙ e))
      by false q = ap (λ b. end_by b end steps bound) q

  spent_of : (bound : ℕ) (r : Run K S) → (end_of x d bound r).end ≡ BudgetSpent → end_of x d bound r ≡ record { end = BudgetSpent; steps = bound }
  spent_of bound (On made t) e = refl
  spent_of bound (Broke made when kind n) e = spent_by bound (BrokenOff kind n) (steps_needed when (cost x d made)) (steps_before when (cost x d made)) (λ q. absurd cc) e
  spent_of bound (Over made t) e = spent_by bound (Done (cost x d made) (x.bodies t) (length (x.services t))) (cost x d made) (cost x d made) (λ q. absurd cc) e

  pub spent_end : (bound : ℕ) (made : List (Made K)) (t : S) → Leads x made s t → Late bound made (x.move t) → end_at x d bound s ≡ record { end = BudgetSpent; steps = bound }
  unfolding end_at
  spent_end bound made t h late =
      spent_of bound (run_to x s (suc bound))
      (only_so x d bound s BudgetSpent (λ other u g. record { halt = late_ends bound made other t u h late g; test = λ when kind k. late_breaks bound made other t u when kind k h late g }))

  pub done_end : (bound : ℕ) (made : List (Made K)) (t : S) → Leads x made s t → x.move t ≡ Ends → cost x d made ≤ bound → end_at x d bound s ≡ record { end = Done (cost x d made) (x.bodies t) (length (x.services t)); steps = cost x d made }
  unfolding end_at
  done_end bound made t h e l =
      ap (end_of x d bound) (over_at x d bound s t made h e l)
      ∙ ap (λ b. end_by b (Done (cost x d made) (x.bodies t) (length (x.services t))) (cost x d made) bound) (le-leb (cost x d made) bound l)

  pub broken_end : (bound : ℕ) (made : List (Made K)) (t : S) (when : When) (kind : Broken) (n : ℕ) → Leads x made s t → x.move t ≡ Breaks when kind n → steps_needed when (cost x d made) ≤ bound → end_at x d bound s ≡ record { end = BrokenOff kind n; steps = steps_before when (cost x d made) }
  unfolding end_at
  broken_end bound made t when kind n h e l =
      ap (end_of x d bound) (broke_at x d bound s t made when kind n h e l)
      ∙ ap (λ b. end_by b (BrokenOff kind n) (steps_before when (cost x d made)) bound) (le-leb (steps_needed when (cost x d made)) bound l)

  -- the steps of moves within the bound are made before the end
  before_more : (when : When) (n : ℕ) → n ≤ steps_before when n
  before_more Before n = omega arith
  before_more Within n = omega arith
  before_more After n = omega arith

  not_longer_over : (made other : List (Made K)) (t u : S) → Leads x made s t → Leads x other s u → x.move u ≡ Ends → length made ≤ length other
  not_longer_over made other t u h g e =
      ⊎_elim
      (λ (l : length other < length made). let a = goes other made u t g h l in absurd (no_end (x.move u) a.moves e))
      (λ (n : length made ≤ length other). n)
      (cases_lt (length other) (length made))

  not_longer_broke : (made other : List (Made K)) (t u : S) (when : When) (kind : Broken) (n : ℕ) → Leads x made s t → Leads x other s u → x.move u ≡ Breaks when kind n → length made ≤ length other
  not_longer_broke made other t u when kind n h g e =
      ⊎_elim
      (λ (l : length other < length made). let a = goes other made u t g h l in absurd (no_break (x.move u) a.moves e))
      (λ (n : length made ≤ length other). n)
      (cases_lt (length other) (length made))

  -- two runs that are over are one
  pub same_over : (made other : List (Made K)) (t u : S) → Leads x made s t → Leads x other s u → x.move t ≡ Ends → x.move u ≡ Ends → Same made other t u
  same_over made other t u h g e f =
      let l = not_longer_over made other t u h g f in
      let r = not_longer_over other made u t g h e in
      same made other t u h g (omega arith)

  breaks_alike : (a b : Moved K S) (when when' : When) (kind kind' : Broken) (n n' : ℕ) → a ≡ b → a ≡ Breaks when kind n → b ≡ Breaks when' kind' n' → (kind ≡ kind') × (n ≡ n')
  breaks_alike a b when when' kind kind' n n' same e f = (cc, cc)

  -- two runs that break, break alike
  pub same_break : (made other : List (Made K)) (t u : S) (when when' : When) (kind kind' : Broken) (n n' : ℕ) → Leads x made s t → Leads x other s u → x.move t ≡ Breaks when kind n → x.move u ≡ Breaks when' kind' n' → (kind ≡ kind') × (n ≡ n')
  same_break made other t u when when' kind kind' n n' h g e f =
      let l = not_longer_broke made other t u when' kind' n' h g f in
      let r = not_longer_broke other made u t when kind n g h e in
      breaks_alike (x.move t) (x.move u) when when' kind kind' n n' (ap x.move (same made other t u h g (omega arith)).state) e f

  reaches : (n bound c : ℕ) (b : Bool) (end : ChainEnd) → n ≤ bound → n ≤ c → n ≤ (end_by b end c bound).steps
  reaches n bound c true end l m = m
  reaches n bound c false end l m = l

  end_reaches : (bound : ℕ) (made : List (Made K)) (t : S) (r : Run K S) → IsRun x s r → Leads x made s t → cost x d made ≤ bound → cost x d made ≤ (end_of x d bound r).steps
  end_reaches bound made t (On other u) g h l = l
  end_reaches bound made t (Broke other when kind n) (u, g, e) h l =
      let c = shorter made other t u h g (not_longer_broke made other t u when kind n h g e) in
      reaches (cost x d made) bound (steps_before when (cost x d other)) (nat_le (steps_needed when (cost x d other)) bound) (BrokenOff kind n) l (omega (arith, c, before_more when (cost x d other)))
  end_reaches bound made t (Over other u) (g, e) h l =
      let c = shorter made other t u h g (not_longer_over made other t u h g e) in
      reaches (cost x d made) bound (cost x d other) (nat_le (cost x d other) bound) (Done (cost x d other) (x.bodies u) (length (x.services u))) l c

  pub made_before_end : (bound : ℕ) (made : List (Made K)) (t : S) → Leads x made s t → cost x d made ≤ bound → cost x d made ≤ (end_at x d bound s).steps
  unfolding end_at
  made_before_end bound made t h l = end_reaches bound made t (run_to x s (suc bound)) (is_run x s (suc bound)) h l

  -- the steps of an end are within the bound
  end_within : (bound : ℕ) (r : Run K S) → (end_of x d bound r).steps ≤ bound
  end_within bound (On made t) = omega arith
  end_within bound (Broke made when kind n) = broke_within when (cost x d made) (nat_le (steps_needed when (cost x d made)) bound) refl
    where
      broke_within : (when : When) (c : ℕ) (reaches : Bool) → nat_le (steps_needed when c) bound ≡ reaches → (end_by reaches (BrokenOff kind n) (steps_before when c) bound).steps ≤ bound
      broke_within when c false e = omega arith
      broke_within Before c true e = leb-true c bound e
      broke_within Within c true e = let l = leb-true (c + 1) bound e in omega arith
      broke_within After c true e = leb-true (c + 1) bound e
  end_within bound (Over made t) = over_within (cost x d made) (nat_le (cost x d made) bound) refl (Done (cost x d made) (x.bodies t) (length (x.services t)))
    where
      over_within : (c : ℕ) (reaches : Bool) → nat_le c bound ≡ reaches → (end : ChainEnd) → (end_by reaches end c bound).steps ≤ bound
      over_within c false e end = omega arith
      over_within c true e end = leb-true c bound e

  pub steps_within : (bound : ℕ) → (end_at x d bound s).steps ≤ bound
  unfolding end_at
  steps_within bound = end_within bound (run_to x s (suc bound))

  -- ---- services

  listed_once : (bound : ℕ) (a b : List E) → (p : IsListed x d bound s a) (q : IsListed x d bound s b) → length p.made < length q.made → ⊥
  listed_once bound a b p q l =
      let g = goes p.made q.made p.state q.state p.leads q.leads l in
      omega (arith, p.last g.kind g.next g.moves, g.costs, q.within)

  listed_only : (bound : ℕ) (a b : List E) → IsListed x d bound s a → IsListed x d bound s b → a ≡ b
  listed_only bound a b p q =
      ⊎_elim
      (λ (l : length p.made < length q.made). absurd (listed_once bound a b p q l))
      (λ (n : length q.made ≤ length p.made). ⊎_elim
      (λ (e : length p.made ≡ length q.made). p.listed_are ∙ (ap x.services (same p.made q.made p.state q.state p.leads q.leads e).state ∙ sym q.listed_are))
      (λ (ne : length p.made ≡ length q.made → ⊥). absurd (listed_once bound b a q p (omega (arith, n, ne))))
      (cases_eq (length p.made) (length q.made)))
      (cases_lt (length p.made) (length q.made))

  -- after moves within the bound, where the next one is made beyond it or not at all
  pub services_are : (bound : ℕ) (made : List (Made K)) (t : S) → Leads x made s t → cost x d made ≤ bound → ((kind : K) (u : S) → x.move t ≡ Makes kind u → bound < cost x d (record { kind = kind; claims = x.claims u } ∷ made)) → services_within x d bound s ≡ x.services t
  services_are bound made t h l last = listed_only bound (services_within x d bound s) (x.services t) (listed_so x d bound s) (record { made = made; state = t; leads = h; within = l; last = last; listed_are = refl })

  pub late_last : (bound : ℕ) (made : List (Made K)) (moved : Moved K S) → Late bound made moved → (kind : K) (u : S) → moved ≡ Makes kind u → bound < cost x d (record { kind = kind; claims = x.claims u } ∷ made)
  late_last bound made moved late kind u e = subst (Late bound made) e late

  pub over_last : (bound : ℕ) (made : List (Made K)) (moved : Moved K S) → moved ≡ Ends → (kind : K) (u : S) → moved ≡ Makes kind u → bound < cost x d (record { kind = kind; claims = x.claims u } ∷ made)
  over_last bound made moved e kind u f = absurd (no_end moved f e)

  pub broke_last : (bound : ℕ) (made : List (Made K)) (moved : Moved K S) (when : When) (broken : Broken) (n : ℕ) → moved ≡ Breaks when broken n → (kind : K) (u : S) → moved ≡ Makes kind u → bound < cost x d (record { kind = kind; claims = x.claims u } ∷ made)
  broke_last bound made moved when broken n e kind u f = absurd (no_break moved f e)
