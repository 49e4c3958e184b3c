-- How a bounded run ends, in words.
use Rattle.std.proofs.Common.{◌≡◌, ℕ, zero, suc, ◌+◌, ◌-◌, ◌<◌, ◌≤◌, ⊎_elim, Bool, true, false, List, [], ◌∷◌, length, refl, sym, ap, ap₂, ◌∙◌, arith}
use Rattle.std.specs.Prelude.{nat_le}
use Rattle.std.proofs.lemmas.Bool.{le-leb, leb-true, true≢false, cases_lt}
use Rattle.chain_moves.specs.Machine.{When, Before, Within, After, Breaks, Ends, Machine}
use Rattle.chain_moves.specs.Run.{Made, Run, On, Broke, Over, moved_on, gone_on, run_to, Leads, IsRun}
use Rattle.chain_moves.specs.Cost.{cost, price, is_halfway}
use Rattle.chain_core.specs.End.{end_at, end_of, end_by, steps_needed, steps_before, EndsAs}
use Rattle.chain_moves.specs.declared.broken.Broken.{Broken}
use Rattle.chain_moves.specs.declared.dispatcher.Dispatcher.{Dispatcher}
use Rattle.chain_moves.specs.declared.moves.Move.{Move}
use Rattle.chain_moves.specs.declared.moves.Move.TheVariants.{Enter, Leave, Body}
use Rattle.chain_core.specs.declared.chain_end.ChainEnd.{ChainEnd}
use Rattle.chain_core.specs.declared.chain_end.ChainEnd.TheVariants.{Done, BudgetSpent, SinkFailed, Broken as BrokenOff}
use Rattle.chain_moves.proofs.Leading.{list_is_run, is_run}

-- each move costs a step at least
price_some : (kind : Move) (b c : Bool) → 1 ≤ price kind b c
price_some Body b c = omega arith
price_some Enter true c = omega arith
price_some Enter false c = omega arith
price_some Leave b true = omega arith
price_some Leave b false = omega arith

module _ {K S E : Type 0} (x : Machine K S E) (d : Dispatcher) where
  pub moves_below : (made : List (Made K)) → length made ≤ cost x d made
  unfolding cost
  moves_below [] = omega arith
  moves_below (m ∷ made) = omega (arith, moves_below made, price_some (x.costs_as m.kind) (is_halfway x d made) (is_halfway x d (m ∷ made)))

  -- ---- a run that has ended stays
  more : (s : S) (n k : ℕ) (r : Run K S) → run_to x s n ≡ r → gone_on x r ≡ r → run_to x s (n + k) ≡ r
  unfolding run_to
  more s n zero r e stays = let none : n + 0 ≡ n = omega arith in ap (run_to x s) none ∙ e
  more s n (suc k) r e stays = let step : n + suc k ≡ suc (n + k) = omega arith in ap (run_to x s) step ∙ (ap (gone_on x) (more s n k r e stays) ∙ stays)

  pub next_run : (s : S) (n : ℕ) → run_to x s (suc n) ≡ gone_on x (run_to x s n)
  unfolding run_to
  next_run s n = refl

  pub over_at : (bound : ℕ) (s t : S) (made : List (Made K)) → Leads x made s t → x.move t ≡ Ends → cost x d made ≤ bound → run_to x s (suc bound) ≡ Over made t
  over_at bound s t made h e l =
      let n : suc (length made) + (bound - length made) ≡ suc bound = omega (arith, moves_below made) in
      ap (run_to x s) (sym n) ∙ more s (suc (length made)) (bound - length made) (Over made t)
      (next_run s (length made) ∙ (ap (gone_on x) (list_is_run x s made t h) ∙ ap (moved_on x made t) e)) refl

  pub needed_more : (when : When) (n : ℕ) → n ≤ steps_needed when n
  needed_more Before n = omega arith
  needed_more Within n = omega arith
  needed_more After n = omega arith

  pub broke_at : (bound : ℕ) (s t : S) (made : List (Made K)) (when : When) (kind : Broken) (bodies : ℕ) → Leads x made s t → x.move t ≡ Breaks when kind bodies → steps_needed when (cost x d made) ≤ bound → run_to x s (suc bound) ≡ Broke made when kind bodies
  broke_at bound s t made when kind bodies h e l =
      let n : suc (length made) + (bound - length made) ≡ suc bound = omega (arith, moves_below made, needed_more when (cost x d made), l) in
      ap (run_to x s) (sym n) ∙ more s (suc (length made)) (bound - length made) (Broke made when kind bodies)
      (next_run s (length made) ∙ (ap (gone_on x) (list_is_run x s made t h) ∙ ap (moved_on x made t) e)) refl

  -- ---- what it needs to come to the end of a run, and that there is one
  needed_of : Run K S → ℕ
  needed_of (On made t) = 0
  needed_of (Broke made when kind n) = suc (steps_needed when (cost x d made))
  needed_of (Over made t) = suc (cost x d made)

  below_if : (bound n : ℕ) → (n ≤ bound → ⊥) → bound < n
  below_if bound n h = ⊎_elim (λ (l : bound < n). l) (λ (g : n ≤ bound). absurd (h g)) (cases_lt bound n)

  -- where the run isn't within the bound, none is
  spent : (bound : ℕ) (s : S) (r : Run K S) → run_to x s (suc bound) ≡ r → (needed_of r ≤ suc bound → needed_of r ≡ 0) → EndsAs x d bound s BudgetSpent
  unfolding needed_of
  spent bound s r e out made t h =
      record {
        halt = λ ends. below_if bound (cost x d made) (λ l.
            let same : needed_of r ≡ suc (cost x d made) = ap needed_of (sym e ∙ over_at bound s t made h ends l) in
            let none = out (omega (arith, same, l)) in
            omega (arith, same, none));
        test = λ when kind bodies breaks. below_if bound (steps_needed when (cost x d made)) (λ l.
            let same : needed_of r ≡ suc (steps_needed when (cost x d made)) = ap needed_of (sym e ∙ broke_at bound s t made when kind bodies h breaks l) in
            let none = out (omega (arith, same, l)) in
            omega (arith, same, none));
      }

  ends_of : (bound : ℕ) (s : S) (r : Run K S) → run_to x s (suc bound) ≡ r → IsRun x s r → EndsAs x d bound s (end_of x d bound r).end
  unfolding needed_of
  ends_of bound s (On made t) e h = spent bound s (On made t) e (λ l. refl)
  ends_of bound s (Broke made when kind bodies) e (t, h, breaks) = by_bound (nat_le (steps_needed when (cost x d made)) bound) refl
    where
      by_bound : (b : Bool) → nat_le (steps_needed when (cost x d made)) bound ≡ b → EndsAs x d bound s (end_by b (BrokenOff kind bodies) (steps_before when (cost x d made)) bound).end
      by_bound true q = record { made = made; state = t; when = when; leads = h; breaks = breaks; within = leb-true (steps_needed when (cost x d made)) bound q }
      by_bound false q = spent bound s (Broke made when kind bodies) e (λ l. absurd (true≢false (sym (le-leb (steps_needed when (cost x d made)) bound (omega (arith, l))) ∙ q)))
  ends_of bound s (Over made t) e (h, ends) = by_bound (nat_le (cost x d made) bound) refl
    where
      by_bound : (b : Bool) → nat_le (cost x d made) bound ≡ b → EndsAs x d bound s (end_by b (Done (cost x d made) (x.bodies t) (length (x.services t))) (cost x d made) bound).end
      by_bound true q = record { made = made; state = t; leads = h; ends = ends; within = leb-true (cost x d made) bound q; steps_are = refl; bodies_are = refl; services_are = refl }
      by_bound false q = spent bound s (Over made t) e (λ l. absurd (true≢false (sym (le-leb (cost x d made) bound (omega (arith, l))) ∙ q)))

  pub ends_so : (bound : ℕ) (s : S) → EndsAs x d bound s (end_at x d bound s).end
  unfolding end_at
  ends_so bound s = ends_of bound s (run_to x s (suc bound)) refl (is_run x s (suc bound))

  -- ---- and only so
  not_by : (bound n : ℕ) (end : ChainEnd) (steps : ℕ) → bound < n → (end_by (nat_le n bound) end steps bound).end ≡ BudgetSpent
  not_by bound n end steps l = by_bound (nat_le n bound) refl
    where
      by_bound : (b : Bool) → nat_le n bound ≡ b → (end_by b end steps bound).end ≡ BudgetSpent
      by_bound true q = let g = leb-true n bound q in absurd (omega arith)
      by_bound false q = refl

  no_end : (bound : ℕ) (s : S) (r : Run K S) → IsRun x s r → EndsAs x d bound s BudgetSpent → (end_of x d bound r).end ≡ BudgetSpent
  no_end bound s (On made t) h out = refl
  no_end bound s (Broke made when kind bodies) (t, h, breaks) out = not_by bound (steps_needed when (cost x d made)) _ _ ((out made t h).test when kind bodies breaks)
  no_end bound s (Over made t) (h, ends) out = not_by bound (cost x d made) _ _ ((out made t h).halt ends)

  pub only_so : (bound : ℕ) (s : S) (end : ChainEnd) → EndsAs x d bound s end → (end_at x d bound s).end ≡ end
  unfolding end_at
  only_so bound s (Done steps bodies services) h =
      ap (λ r. (end_of x d bound r).end) (over_at bound s h.state h.made h.leads h.ends h.within)
      ∙ (ap (λ q. (end_by q (Done (cost x d h.made) (x.bodies h.state) (length (x.services h.state))) (cost x d h.made) bound).end) (le-leb (cost x d h.made) bound h.within)
      ∙ (ap (λ n. Done n (x.bodies h.state) (length (x.services h.state))) (sym h.steps_are)
      ∙ ap₂ (Done steps) (sym h.bodies_are) (sym h.services_are)))
  only_so bound s (BrokenOff kind bodies) h =
      ap (λ r. (end_of x d bound r).end) (broke_at bound s h.state h.made h.when kind bodies h.leads h.breaks h.within)
      ∙ ap (λ q. (end_by q (BrokenOff kind bodies) (steps_before h.when (cost x d h.made)) bound).end) (le-leb (steps_needed h.when (cost x d h.made)) bound h.within)
  only_so bound s BudgetSpent out = no_end bound s (run_to x s (suc bound)) (is_run x s (suc bound)) out
  only_so bound s SinkFailed h = absurd h
