-- The walk, and the same in words.
use Rattle.std.proofs.Common.{◌≡◌, ℕ, zero, suc, ◌+◌, ◌-◌, ◌<◌, ◌≤◌, max, ◌⊎◌, inl, inr, ⊎_elim, List, [], ◌∷◌, length, Some, refl, sym, ap, ap₂, ◌∙◌, subst, arith}
use Rattle.std.proofs.lemmas.Bool.{cases_lt}
use Rattle.std.proofs.lemmas.Option.{none-some}
use Rattle.chain_flow.specs.Flow.{Flow, flow_at_start, value_of}
use Rattle.chain_flow.specs.Rules.{Looked, Refused, Passed, looked}
use Rattle.chain_flow.specs.Walk.{Reached, all_arrived, depth_of, walk_on, walk, max_addresses, verdict}
use Rattle.chain_flow.specs.Survey.{Visit, with_arrivals, known_at, IsVisited, IsNext, AreVisits, deepest, IsVerdict}
use Rattle.chain_flow.specs.declared.region.Region.{Region}
use Rattle.chain_flow.specs.declared.lint_why.LintWhy.{LintWhy}
use Rattle.chain_flow.specs.declared.lint_why.LintWhy.TheVariants.{TooLong}
use Rattle.chain_flow.specs.declared.verdict.Verdict.{Verdict}
use Rattle.chain_flow.specs.declared.verdict.Verdict.TheVariants.{Yes, No}
use Rattle.chain_flow.proofs.Rising.{Rising, in_list, nowhere, only_one, in_here, in_past, below_none, all_rising, all_in, no_arrival}
use Rattle.chain_flow.proofs.Stepping.{walk_empty, walk_ended}
use Rattle.chain_flow.proofs.Targets.{targets_above}

-- the next address leaves no choice
next_same : (handler : ℕ) (vs : List Visit) (a b : ℕ) (f g : Flow) → IsNext handler vs a f → IsNext handler vs b g → (a ≡ b) × (f ≡ g)
next_same handler vs a b f g x y =
    let low : a ≤ b = ⊎_elim (λ (v : IsVisited b vs). absurd (below b (y.above b v))) (λ (l : a ≤ b). l) (x.least b g y.known) in
    let high : b ≤ a = ⊎_elim (λ (v : IsVisited a vs). absurd (below a (x.above a v))) (λ (l : b ≤ a). l) (y.least a f x.known) in
    let is : a ≡ b = omega arith in
    (is, same_flow (sym x.known ∙ (ap (λ i. known_at handler i vs) is ∙ y.known)))
  where
    below : (n : ℕ) → n < n → ⊥
    below n l = omega arith

    same_flow : Some f ≡ Some g → f ≡ g
    same_flow e = cc

module _ (code : List ℕ) (region : Region) (handler : ℕ) where
  -- what is still to be visited, after these visits
  record Stands (vs : List Visit) (pending : List Reached) : Type 0 where
    from : ℕ
    rising : Rising from pending
    below : (a : ℕ) (g : Flow) → a < from → known_at handler a vs ≡ Some g → IsVisited a vs
    ahead : (a : ℕ) → from ≤ a → in_list a pending ≡ known_at handler a vs
    visited : (a : ℕ) → IsVisited a vs → a < from

  start : Stands [] (record { at = handler; flow = flow_at_start } ∷ [])
  unfolding known_at
  start = record {
    from = 0;
    rising = (omega arith, tt);
    below = λ a g l k. absurd (omega arith);
    ahead = λ a l. only_one a (record { at = handler; flow = flow_at_start });
    visited = λ a v. absurd v;
  }

  -- the first of them is the next one
  first_next : (vs : List Visit) (p : Reached) (qs : List Reached) → Stands vs (p ∷ qs) → IsNext handler vs p.at p.flow
  first_next vs p qs s =
      let low = s.rising.0 in
      record {
        known = sym (s.ahead p.at low) ∙ in_here p.at p qs refl;
        above = λ a v. let l = s.visited a v in omega arith;
        least = λ a g k. ⊎_elim
            (λ (l : a < s.from). inl (s.below a g l k))
            (λ (l : s.from ≤ a). ⊎_elim
            (λ (h : a < p.at). absurd (none-some g (sym (below_none p.at a (p ∷ qs) (omega arith, s.rising.1) h) ∙ (s.ahead a l ∙ k))))
            (λ (h : p.at ≤ a). inr h)
            (cases_lt a p.at))
            (cases_lt a s.from);
      }

  -- and nothing is next where nothing is left
  none_next : (vs : List Visit) (at : ℕ) (f : Flow) → Stands vs [] → IsNext handler vs at f → ⊥
  none_next vs at f s n =
      ⊎_elim
      (λ (l : at < s.from). let b = n.above at (s.below at f l n.known) in omega arith)
      (λ (l : s.from ≤ at). none-some f (sym (nowhere at) ∙ (s.ahead at l ∙ n.known)))
      (cases_lt at s.from)

  known_more : (v : Visit) (vs : List Visit) (a : ℕ) → known_at handler a (v ∷ vs) ≡ with_arrivals a v.targets v.after (known_at handler a vs)
  unfolding known_at
  known_more v vs a = refl

  -- after one more visit
  step : (v : Visit) (vs : List Visit) (qs : List Reached) → Stands vs (record { at = v.at; flow = v.flow } ∷ qs) → looked code region v.at v.flow ≡ Passed v.after v.targets → Stands (v ∷ vs) (all_arrived v.targets v.after qs)
  step v vs qs s e =
      let p : Reached = record { at = v.at; flow = v.flow } in
      let low = s.rising.0 in
      let up = targets_above code region v.at v.flow v.after v.targets e in
      let next = first_next vs p qs s in
      record {
        from = suc v.at;
        rising = all_rising (suc v.at) v.targets v.after qs s.rising.1 up;
        below = λ a g l k. ⊎_elim
            (λ (old : IsVisited a vs). inr old)
            (λ (h : v.at ≤ a). inl (omega arith))
            (next.least a g (sym (known_more v vs a ∙ no_arrival (suc v.at) a v.targets v.after (known_at handler a vs) up l) ∙ k));
        ahead = λ a l. all_in (suc v.at) a v.targets v.after qs s.rising.1 up ∙ (ap (with_arrivals a v.targets v.after) (sym (in_past a p qs (λ z. omega arith)) ∙ s.ahead a (omega arith)) ∙ sym (known_more v vs a));
        visited = λ a h. ⊎_elim (λ (q : v.at ≡ a). omega arith) (λ (old : IsVisited a vs). let b = s.visited a old in omega arith) h;
      }

  -- ---- the walk after these visits
  record Comes (vs : List Visit) : Type 0 where
    pending : List Reached
    stands : Stands vs pending
    goes_on : verdict code handler region ≡ walk code region (max_addresses - length vs) pending (deepest vs)

  comes_first : Comes []
  unfolding verdict
  comes_first = record { pending = record { at = handler; flow = flow_at_start } ∷ []; stands = start; goes_on = refl }

  walk_more : (n k : ℕ) (at : ℕ) (f after : Flow) (ts : List ℕ) (qs : List Reached) (uses : ℕ) → n ≡ suc k → looked code region at f ≡ Passed after ts
      → walk code region n (record { at = at; flow = f } ∷ qs) uses ≡ walk code region k (all_arrived ts after qs) (max uses (depth_of (value_of after.values 2)))
  unfolding walk
  walk_more n k at f after ts qs uses more e = ap (λ m. walk code region m (record { at = at; flow = f } ∷ qs) uses) more ∙ ap (walk_on (λ rs u. walk code region k rs u) at qs uses) e

  walk_refuses : (n k : ℕ) (p : Reached) (qs : List Reached) (uses : ℕ) (why : LintWhy) → n ≡ suc k → looked code region p.at p.flow ≡ Refused why → walk code region n (p ∷ qs) uses ≡ No why p.at
  unfolding walk
  walk_refuses n k p qs uses why more e = ap (λ m. walk code region m (p ∷ qs) uses) more ∙ ap (walk_on (λ rs u. walk code region k rs u) p.at qs uses) e

  comes_on : (v : Visit) (vs : List Visit) (qs : List Reached) → Stands vs (record { at = v.at; flow = v.flow } ∷ qs) → verdict code handler region ≡ walk code region (max_addresses - length vs) (record { at = v.at; flow = v.flow } ∷ qs) (deepest vs)
      → looked code region v.at v.flow ≡ Passed v.after v.targets → length vs < max_addresses → Comes (v ∷ vs)
  comes_on v vs qs s g e few = record {
    pending = all_arrived v.targets v.after qs;
    stands = step v vs qs s e;
    goes_on = g ∙ walk_more (max_addresses - length vs) (max_addresses - length (v ∷ vs)) v.at v.flow v.after v.targets qs (deepest vs) (omega arith) e;
  }

  -- the first of what is left is the one that is visited
  comes_by : (v : Visit) (vs : List Visit) (pending : List Reached) → Stands vs pending → verdict code handler region ≡ walk code region (max_addresses - length vs) pending (deepest vs) → IsNext handler vs v.at v.flow
      → looked code region v.at v.flow ≡ Passed v.after v.targets → length vs < max_addresses → Comes (v ∷ vs)
  comes_by v vs [] s g n e few = absurd (none_next vs v.at v.flow s n)
  comes_by v vs (p ∷ qs) s g n e few =
      let same = next_same handler vs p.at v.at p.flow v.flow (first_next vs p qs s) n in
      let is : p ≡ record { at = v.at; flow = v.flow } = ap₂ (λ (a : ℕ) (f : Flow). record { at = a; flow = f }) same.0 same.1 in
      comes_on v vs qs (subst (λ (r : Reached). Stands vs (r ∷ qs)) is s) (g ∙ ap (λ (r : Reached). walk code region (max_addresses - length vs) (r ∷ qs) (deepest vs)) is) e few

  comes : (vs : List Visit) → AreVisits code region handler vs → length vs ≤ max_addresses → Comes vs
  comes [] h few = comes_first
  comes (v ∷ vs) h few = let c = comes vs h.0 (omega arith) in comes_by v vs c.pending c.stands c.goes_on h.1 h.2 (omega arith)

  -- ---- from words to the verdict
  yes_by : (vs : List Visit) (pending : List Reached) (uses : ℕ) → Stands vs pending → verdict code handler region ≡ walk code region (max_addresses - length vs) pending (deepest vs)
      → ((a : ℕ) (g : Flow) → known_at handler a vs ≡ Some g → IsVisited a vs) → uses ≡ deepest vs → verdict code handler region ≡ Yes uses
  yes_by vs [] uses s g closed most = g ∙ (empty (max_addresses - length vs) ∙ ap Yes (sym most))
    where
      empty : (n : ℕ) → walk code region n [] (deepest vs) ≡ Yes (deepest vs)
      empty n = walk_empty code region n [] (deepest vs) refl
  yes_by vs (p ∷ qs) uses s g closed most =
      let n = first_next vs p qs s in
      let l = n.above p.at (closed p.at p.flow n.known) in
      absurd (omega arith)

  no_by : (vs : List Visit) (pending : List Reached) (at : ℕ) (f : Flow) (why : LintWhy) → Stands vs pending → verdict code handler region ≡ walk code region (max_addresses - length vs) pending (deepest vs) → IsNext handler vs at f
      → ((length vs ≡ max_addresses) × (why ≡ TooLong)) ⊎ ((length vs < max_addresses) × (looked code region at f ≡ Refused why)) → verdict code handler region ≡ No why at
  no_by vs [] at f why s g n rule = absurd (none_next vs at f s n)
  no_by vs (p ∷ qs) at f why s g n rule =
      let same = next_same handler vs p.at at p.flow f (first_next vs p qs s) n in
      ⊎_elim
      (λ (full : (length vs ≡ max_addresses) × (why ≡ TooLong)).
      let all : max_addresses - length vs ≡ 0 = omega (arith, full.0) in
      g ∙ (walk_ended code region (max_addresses - length vs) (p ∷ qs) (deepest vs) all ∙ ap₂ (λ w a. No w a) (sym full.1) same.0))
      (λ (refuses : (length vs < max_addresses) × (looked code region at f ≡ Refused why)).
      let more : max_addresses - length vs ≡ suc (max_addresses - length vs - 1) = omega (arith, refuses.0) in
      let looks : looked code region p.at p.flow ≡ Refused why = ap₂ (looked code region) same.0 same.1 ∙ refuses.1 in
      g ∙ (walk_refuses (max_addresses - length vs) (max_addresses - length vs - 1) p qs (deepest vs) why more looks ∙ ap (No why) same.0))
      rule

  pub only_so : (v : Verdict) → IsVerdict code region handler v → verdict code handler region ≡ v
  only_so (Yes uses) h = let c = comes h.visits h.are_visits h.few in yes_by h.visits c.pending uses c.stands c.goes_on h.closed h.most
  only_so (No why at) h = let c = comes h.visits h.are_visits (few h.rule) in no_by h.visits c.pending at h.flow why c.stands c.goes_on h.next h.rule
    where
      few : ((length h.visits ≡ max_addresses) × (why ≡ TooLong)) ⊎ ((length h.visits < max_addresses) × (looked code region at h.flow ≡ Refused why)) → length h.visits ≤ max_addresses
      few (inl full) = omega (arith, full.0)
      few (inr more) = omega (arith, more.0)

  -- ---- from the verdict to words
  closed_by : (vs : List Visit) → Stands vs [] → (a : ℕ) (g : Flow) → known_at handler a vs ≡ Some g → IsVisited a vs
  closed_by vs s a g k = ⊎_elim (λ (l : a < s.from). s.below a g l k) (λ (l : s.from ≤ a). absurd (none-some g (sym (nowhere a) ∙ (s.ahead a l ∙ k)))) (cases_lt a s.from)

  told_by : (n : ℕ) (vs : List Visit) (p : Reached) (qs : List Reached) (l : Looked) → AreVisits code region handler vs → Stands vs (p ∷ qs) → suc n + length vs ≡ max_addresses → looked code region p.at p.flow ≡ l → ((v : Visit) → AreVisits code region handler (v ∷ vs) → Stands (v ∷ vs) (all_arrived v.targets v.after qs) → IsVerdict code region handler (walk code region n (all_arrived v.targets v.after qs) (deepest (v ∷ vs)))) → IsVerdict code region handler (walk_on (λ rs u. walk code region n rs u) p.at qs (deepest vs) l)
  told_by n vs p qs (Refused why) h s all e next = record { visits = vs; are_visits = h; flow = p.flow; next = first_next vs p qs s; rule = inr (omega arith, e) }
  told_by n vs p qs (Passed after ts) h s all e next =
      let v : Visit = record { at = p.at; flow = p.flow; after = after; targets = ts } in
      next v (h, first_next vs p qs s, e) (step v vs qs s e)

  told : (n : ℕ) (vs : List Visit) (pending : List Reached) → AreVisits code region handler vs → Stands vs pending → n + length vs ≡ max_addresses → IsVerdict code region handler (walk code region n pending (deepest vs))
  unfolding walk
  told zero vs [] h s all = record { visits = vs; are_visits = h; few = omega arith; closed = closed_by vs s; most = refl }
  told zero vs (p ∷ qs) h s all = record { visits = vs; are_visits = h; flow = p.flow; next = first_next vs p qs s; rule = inl (omega arith, refl) }
  told (suc n) vs [] h s all = record { visits = vs; are_visits = h; few = omega arith; closed = closed_by vs s; most = refl }
  told (suc n) vs (p ∷ qs) h s all = told_by n vs p qs (looked code region p.at p.flow) h s all refl (λ v are stands. told n (v ∷ vs) (all_arrived v.targets v.after qs) are stands (omega arith))

  pub is_so : IsVerdict code region handler (verdict code handler region)
  unfolding verdict
  is_so = told max_addresses [] (record { at = handler; flow = flow_at_start } ∷ []) tt start refl
