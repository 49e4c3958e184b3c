-- Where the servicing machine meets no hardware-vectored top, no direct service begins, and the runs are the same.
use Rattle.std.proofs.Common.{◌≡◌, ℕ, zero, suc, ◌+◌, ◌<◌, ◌≤◌, ◌⊎◌, inl, inr, ⊎_elim, Bool, true, false, List, [], ◌∷◌, ◌++◌, length, Option, Some, None, refl, sym, ap, ap₂, ◌∙◌, subst, arith}
use Rattle.std.specs.Prelude.{nat_le}
use Rattle.std.proofs.lemmas.Bool.{leb-true, le-leb, true≢false, cases_lt}
use Rattle.device_model.specs.Meanings.{Meanings}
use Rattle.clic_select.specs.Top.{top}
use Rattle.clic_select.specs.declared.choice.Choice.{Choice}
use Rattle.hart_board.specs.declared.event.Event.{Event}
use Rattle.chain_moves.specs.Servicing.{Service, Servicing, marks}
use Rattle.chain_moves.specs.Tests.{first_broken, enter_tests}
use Rattle.chain_moves.specs.Enter.{is_enter_due, new_frame, table_address, entered}
use Rattle.chain_moves.specs.Machine.{Before, Moved, Makes, Breaks, Ends, Machine, unless_broken}
use Rattle.chain_moves.specs.Run.{Made, Run, On, Broke, Over, moved_on, gone_on, run_to, Leads, IsRun}
use Rattle.chain_moves.specs.Cost.{is_fused, is_halfway, price, cost}
use Rattle.chain_core.specs.End.{steps_before, steps_needed, end_by, end_of, end_at}
use Rattle.chain_moves.specs.Moves.{move, move_unless_halted, move_by, enter, claims, servicing_machine}
use Rattle.chain_moves.specs.Kinds.{IsMove, LeaveLeaves, BodyLeaves}
use Rattle.chain_moves.specs.declared.broken.Broken.TheVariants.{HardVectored}
use Rattle.chain_moves.specs.declared.dispatcher.Dispatcher.{Dispatcher}
use Rattle.chain_core.specs.declared.chain_end.ChainEnd.{ChainEnd}
use Rattle.chain_core.specs.declared.chain_end.ChainEnd.TheVariants.{Done, BudgetSpent, Broken as BrokenOff}
use Rattle.chain_moves.specs.declared.moves.Move.{Move}
use Rattle.chain_moves.specs.declared.moves.Move.TheVariants.{Enter, Leave, Body}
use Rattle.chain_moves.proofs.OneOfThree.{is_one}
use Rattle.chain_moves.proofs.Alone.{leaves_alone}
use Rattle.chain_moves.proofs.Leading.{is_run, run_is_list, list_is_run}
use Rattle.chain_core.proofs.Ends.{needed_more}
use Rattle.chain_core.proofs.Bounded.{Late, more_cost, spent_end}
use Rattle.chain_direct.specs.Kind.{Kind, Plain}
use Rattle.chain_direct.specs.Directed.{Listed, Directed, as_chained, all_chained, listed_after, beside_none}
use Rattle.chain_direct.specs.DirectMoves.{with_move, entering_by, moved_alone, moved_by, direct_move, direct_claims, direct_machine}

-- ---- the same moves beside no direct service
abbrev pub lifted : Moved Move Servicing → Moved Kind Directed
lifted (Makes kind t) = Makes (Plain kind) (beside_none t)
lifted (Breaks when kind n) = Breaks when kind n
lifted Ends = Ends

-- a state with no direct service, and these services so far
abbrev pub alone : Servicing → List Listed → Directed
alone s l = record { chained = s; direct = None; services = l }

abbrev pub plain : Made Move → Made Kind
plain k = record { kind = Plain k.kind; claims = k.claims }

unfoldable pub all_plain : List (Made Move) → List (Made Kind)
all_plain [] = []
all_plain (k ∷ made) = plain k ∷ all_plain made

abbrev pub lifted_run : Run Move Servicing → Run Kind Directed
lifted_run (On made s) = On (all_plain made) (beside_none s)
lifted_run (Broke made when kind n) = Broke (all_plain made) when kind n
lifted_run (Over made s) = Over (all_plain made) (beside_none s)

all_added : (a : List Service) (e : Service) → all_chained (a ++ e ∷ []) ≡ all_chained a ++ as_chained e ∷ []
unfolding all_chained
all_added [] e = refl
all_added (x ∷ a) e = ap (λ l. as_chained x ∷ l) (all_added a e)

pub all_as_many : (a : List Service) → length (all_chained a) ≡ length a
unfolding all_chained
all_as_many [] = refl
all_as_many (x ∷ a) = ap suc (all_as_many a)

module _ (m : Meanings) (es : List Event) where
  abbrev chain_machine : Machine Move Servicing Service
  chain_machine = servicing_machine m es

  abbrev machine : Machine Kind Directed Listed
  machine = direct_machine m es

  -- what an Enter lists is its service
  entered_listed : (s : Servicing) (t : Choice) → listed_after Enter (all_chained s.services) (entered s t).live ≡ all_chained (entered s t).services
  unfolding entered
  entered_listed s t = sym (all_added s.services _)

  listed_so : (s t : Servicing) (kind : Move) → IsMove m es s kind t → listed_after kind (all_chained s.services) t.live ≡ all_chained t.services
  listed_so s t Enter (runs, h) = ap (λ (u : Servicing). listed_after Enter (all_chained s.services) u.live) h.made ∙ (entered_listed s h.choice ∙ ap (λ (u : Servicing). all_chained u.services) (sym h.made))
  listed_so s t Leave (runs, h) = let x : LeaveLeaves s t = leaves_alone m es s Leave t h in ap all_chained (sym x.counts.1)
  listed_so s t Body (runs, h) = let x : BodyLeaves s t = leaves_alone m es s Body t h in ap all_chained (sym x.services)

  with_same : (s : Servicing) (moved : Moved Move Servicing) → move m es s ≡ moved → with_move (beside_none s) moved ≡ lifted moved
  with_same s (Makes kind t) e = ap (λ l. Makes (Plain kind) (record { chained = t; direct = None; services = l })) (listed_so s t kind (is_one m es s kind t e))
  with_same s (Breaks when kind n) e = refl
  with_same s Ends e = refl

  -- ---- a hardware-vectored top, or the same move
  enter_by : (s : Servicing) (t : Choice) (shv : Bool) → shv ≡ true → unless_broken Before (first_broken (enter_tests (marks s.live) s.dead shv s.vector (new_frame s) (table_address s.table t.id))) s.bodies (Makes Enter (entered s t)) ≡ Breaks Before HardVectored s.bodies
  unfolding first_broken
  enter_by s t true e = refl
  enter_by s t false e = absurd (true≢false (sym e))

  hard_breaks : (s : Servicing) (t : Choice) → t.shv ≡ true → enter s t ≡ Breaks Before HardVectored s.bodies
  hard_breaks s t hard = enter_by s t t.shv hard

  -- beside no direct service it makes the servicing machine's move, or that has met a hardware-vectored top
  abbrev Meets : Servicing → List Listed → Type 0
  Meets s l = (move m es s ≡ Breaks Before HardVectored s.bodies) ⊎ (direct_move m es (alone s l) ≡ with_move (alone s l) (move m es s))

  same_alone : (s : Servicing) (l : List Listed) (o : Option Choice) (is_due : Bool) → m.halted s.outside.device ≡ None → top s.outside.clic ≡ o → is_enter_due s o ≡ is_due
      → (move m es s ≡ Breaks Before HardVectored s.bodies) ⊎ (moved_alone m es (alone s l) o is_due ≡ with_move (alone s l) (move m es s))
  unfolding move
  same_alone s l (Some t) true runs e due = by_shv t.shv refl
    where
      by_shv : (shv : Bool) → t.shv ≡ shv → (move m es s ≡ Breaks Before HardVectored s.bodies) ⊎ (entering_by m es (alone s l) t t.shv ≡ with_move (alone s l) (move m es s))
      by_shv true hard = inl (ap (move_unless_halted m es s) runs ∙ (ap₂ (move_by m es s) e (ap (is_enter_due s) e ∙ due) ∙ hard_breaks s t hard))
      by_shv false soft = inr (ap (entering_by m es (alone s l) t) soft)
  same_alone s l (Some t) false runs e due = inr refl
  same_alone s l None is_due runs e due = inr refl

  pub moves_alone : (s : Servicing) (l : List Listed) → Meets s l
  unfolding direct_move
  moves_alone s l = by_halt (m.halted s.outside.device) refl
    where
      by_halt : (o : Option ℕ) → m.halted s.outside.device ≡ o → (move m es s ≡ Breaks Before HardVectored s.bodies) ⊎ (moved_by m es (alone s l) None (m.halted s.outside.device) ≡ with_move (alone s l) (move m es s))
      by_halt (Some code) h = inr (ap (moved_by m es (alone s l) None) h)
      by_halt None h =
          ⊎_elim
          (λ (e : move m es s ≡ Breaks Before HardVectored s.bodies). inl e)
          (λ (e : moved_alone m es (alone s l) (top s.outside.clic) (is_enter_due s (top s.outside.clic)) ≡ with_move (alone s l) (move m es s)). inr (ap (moved_by m es (alone s l) None) h ∙ e))
          (same_alone s l (top s.outside.clic) (is_enter_due s (top s.outside.clic)) h refl refl)

  same_move : (s : Servicing) → (move m es s ≡ Breaks Before HardVectored s.bodies) ⊎ (direct_move m es (beside_none s) ≡ lifted (move m es s))
  same_move s =
      ⊎_elim
      (λ (e : move m es s ≡ Breaks Before HardVectored s.bodies). inl e)
      (λ (e : direct_move m es (beside_none s) ≡ with_move (beside_none s) (move m es s)). inr (e ∙ with_same s (move m es s) refl))
      (moves_alone s (all_chained s.services))

  -- ---- runs
  same_claims : (t : Servicing) → direct_claims (beside_none t) ≡ claims t
  unfolding direct_claims
  same_claims t = refl

  next_same : (made : List (Made Move)) (t : Servicing) (moved : Moved Move Servicing) → moved_on machine (all_plain made) (beside_none t) (lifted moved) ≡ lifted_run (moved_on chain_machine made t moved)
  unfolding all_plain
  next_same made t (Makes kind u) = ap (λ c. On (record { kind = Plain kind; claims = c } ∷ all_plain made) (beside_none u)) (same_claims u)
  next_same made t (Breaks when kind n) = refl
  next_same made t Ends = refl

  -- the servicing machine has met a hardware-vectored top
  pub record Hard (r : Run Move Servicing) : Type 0 where
    pub made : List (Made Move)
    pub bodies : ℕ
    pub is : r ≡ Broke made Before HardVectored bodies

  abbrev pub Lifts : Run Move Servicing → Run Kind Directed → Type 0
  Lifts r q = Hard r ⊎ (q ≡ lifted_run r)

  lifts_on : (r : Run Move Servicing) (q : Run Kind Directed) → Lifts r q → Lifts (gone_on chain_machine r) (gone_on machine q)
  lifts_on r q (inl h) = inl (record { made = h.made; bodies = h.bodies; is = ap (gone_on chain_machine) h.is })
  lifts_on (On made t) q (inr e) =
      ⊎_elim
      (λ (h : move m es t ≡ Breaks Before HardVectored t.bodies). inl (record { made = made; bodies = t.bodies; is = ap (moved_on chain_machine made t) h }))
      (λ (h : direct_move m es (beside_none t) ≡ lifted (move m es t)). inr (ap (gone_on machine) e ∙ (ap (moved_on machine (all_plain made) (beside_none t)) h ∙ next_same made t (move m es t))))
      (same_move t)
  lifts_on (Broke made when kind n) q (inr e) = inr (ap (gone_on machine) e)
  lifts_on (Over made t) q (inr e) = inr (ap (gone_on machine) e)

  pub lifts : (s : Servicing) (n : ℕ) → Lifts (run_to chain_machine s n) (run_to machine (beside_none s) n)
  unfolding run_to all_plain
  lifts s zero = inr refl
  lifts s (suc n) = lifts_on (run_to chain_machine s n) (run_to machine (beside_none s) n) (lifts s n)

  not_both : (made other : List (Made Move)) (t : Servicing) (n : ℕ) → On made t ≡ Broke other Before HardVectored n → ⊥
  not_both made other t n e = absurd cc

  leads_plain : (s t : Servicing) (made : List (Made Move)) → Leads chain_machine made s t → Leads machine (all_plain made) (beside_none s) (beside_none t)
  leads_plain s t made h =
      let e = list_is_run chain_machine s made t h in
      ⊎_elim
      (λ (b : Hard (run_to chain_machine s (length made))). absurd (not_both made b.made t b.bodies (sym e ∙ b.is)))
      (λ (q : run_to machine (beside_none s) (length made) ≡ lifted_run (run_to chain_machine s (length made))). run_is_list machine (beside_none s) (length made) (all_plain made) (beside_none t) (q ∙ ap lifted_run e))
      (lifts s (length made))

  -- ---- ends
  pub same_halfway : (d : Dispatcher) (made : List (Made Move)) → is_halfway machine d (all_plain made) ≡ is_halfway chain_machine d made
  unfolding all_plain
  same_halfway d [] = refl
  same_halfway d (k ∷ made) = refl

  pub same_cost : (d : Dispatcher) (made : List (Made Move)) → cost machine d (all_plain made) ≡ cost chain_machine d made
  unfolding all_plain cost
  same_cost d [] = refl
  same_cost d (k ∷ made) = ap₂ (λ n h. n + price k.kind h (is_fused d k.kind k.claims)) (same_cost d made) (same_halfway d made)

  same_ended : (d : Dispatcher) (bound : ℕ) (r : Run Move Servicing) → end_of machine d bound (lifted_run r) ≡ end_of chain_machine d bound r
  same_ended d bound (On made t) = refl
  same_ended d bound (Broke made when kind n) = ap (λ c. end_by (nat_le (steps_needed when c) bound) (BrokenOff kind n) (steps_before when c) bound) (same_cost d made)
  same_ended d bound (Over made t) = ap₂ (λ c k. end_by (nat_le c bound) (Done c t.bodies k) c bound) (same_cost d made) (all_as_many t.services)

  abbrev NotHard : ChainEnd → Type 0
  NotHard end = (n : ℕ) → end ≡ BrokenOff HardVectored n → ⊥

  -- the top is met beyond the bound
  late_by : (d : Dispatcher) (bound : ℕ) (made : List (Made Move)) (n : ℕ) → NotHard (end_of chain_machine d bound (Broke made Before HardVectored n)).end → bound < cost chain_machine d made
  late_by d bound made n not = by_bound (nat_le (cost chain_machine d made) bound) refl
    where
      by_bound : (b : Bool) → nat_le (cost chain_machine d made) bound ≡ b → bound < cost chain_machine d made
      by_bound true e = absurd (not n (ap (λ q. (end_by q (BrokenOff HardVectored n) (cost chain_machine d made) bound).end) e))
      by_bound false e = ⊎_elim (λ (l : bound < cost chain_machine d made). l) (λ (g : cost chain_machine d made ≤ bound). absurd (true≢false (sym (le-leb (cost chain_machine d made) bound g) ∙ e))) (cases_lt bound (cost chain_machine d made))

  spent_by : (d : Dispatcher) (bound : ℕ) (made : List (Made Move)) (n : ℕ) → bound < cost chain_machine d made → end_of chain_machine d bound (Broke made Before HardVectored n) ≡ record { end = BudgetSpent; steps = bound }
  spent_by d bound made n l = by_bound (nat_le (cost chain_machine d made) bound) refl
    where
      by_bound : (b : Bool) → nat_le (cost chain_machine d made) bound ≡ b → end_by (nat_le (cost chain_machine d made) bound) (BrokenOff HardVectored n) (cost chain_machine d made) bound ≡ record { end = BudgetSpent; steps = bound }
      by_bound true e = let g = leb-true (cost chain_machine d made) bound e in absurd (omega (arith, g, l))
      by_bound false e = ap (λ b. end_by b (BrokenOff HardVectored n) (cost chain_machine d made) bound) e

  -- whatever is due after moves beyond the bound is beyond it
  pub all_late : (d : Dispatcher) (bound : ℕ) (s : Directed) (made : List (Made Kind)) (moved : Moved Kind Directed) → bound < cost machine d made → Late machine d s bound made moved
  all_late d bound s made (Makes kind u) l = omega (arith, l, more_cost machine d s (record { kind = kind; claims = direct_claims u }) made)
  all_late d bound s made (Breaks when kind n) l = omega (arith, l, needed_more machine d when (cost machine d made))
  all_late d bound s made Ends l = l

  hard_ended : (d : Dispatcher) (bound : ℕ) (s : Servicing) → ((n : ℕ) → (end_at chain_machine d bound s).end ≡ BrokenOff HardVectored n → ⊥) → Hard (run_to chain_machine s (suc bound)) → end_at machine d bound (beside_none s) ≡ end_at chain_machine d bound s
  unfolding end_at
  hard_ended d bound s not h =
      let late = late_by d bound h.made h.bodies (λ n e. not n (ap (λ r. (end_of chain_machine d bound r).end) h.is ∙ e)) in
      let at : IsRun chain_machine s (Broke h.made Before HardVectored h.bodies) = subst (IsRun chain_machine s) h.is (is_run chain_machine s (suc bound)) in
      let leads = leads_plain s at.0 h.made at.1 in
      let same = same_cost d h.made in
      let beyond : bound < cost machine d (all_plain h.made) = omega (arith, late, same) in
      spent_end machine d (beside_none s) bound (all_plain h.made) (beside_none at.0) leads (all_late d bound (beside_none s) (all_plain h.made) (direct_move m es (beside_none at.0)) beyond)
      ∙ sym (ap (end_of chain_machine d bound) h.is ∙ spent_by d bound h.made h.bodies late)

  -- where the chain doesn't end at a hardware-vectored top, both machines end alike
  pub same_end : (d : Dispatcher) (bound : ℕ) (s : Servicing) → ((n : ℕ) → (end_at chain_machine d bound s).end ≡ BrokenOff HardVectored n → ⊥) → end_at machine d bound (beside_none s) ≡ end_at chain_machine d bound s
  unfolding end_at
  same_end d bound s not =
      ⊎_elim
      (λ (h : Hard (run_to chain_machine s (suc bound))). hard_ended d bound s not h)
      (λ (e : run_to machine (beside_none s) (suc bound) ≡ lifted_run (run_to chain_machine s (suc bound))). ap (end_of machine d bound) e ∙ same_ended d bound (run_to chain_machine s (suc bound)))
      (lifts s (suc bound))
