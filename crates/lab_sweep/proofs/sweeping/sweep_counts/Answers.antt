use Rattle.std.proofs.Common.{◌≡◌, ◌+◌, ◌-◌, ℕ, List, Bool, true, false, ap, sym, subst, ◌∙◌, arith}
use Rattle.std.specs.Prelude.{◌||◌, filter}
use Rattle.std.specs.List.{list_any}
use Rattle.std.proofs.lemmas.Bool.Decides.{nat_tests}
use Rattle.hart_board.specs.State.{State}
use Rattle.chain_moves.specs.Words.{HasDispatcher}
use Rattle.chain_core.specs.declared.chain_end.ChainEnd.{ChainEnd}
use Rattle.lab_sweep.specs.declared.swept.Swept.{Swept}
use Rattle.lab_sweep.specs.Sweep.{Row, outcome_at, end_at, outcomes_from, with_outcome, is_broken, is_spent, is_mine, counts_from}
use Rattle.lab_sweep.proofs.Loops.{count_taken, count_passed}
use Rattle.lab_sweep.proofs.Chains.{any_taken, any_passed, outcome_alone, end_alone}
use Rattle.lab_sweep.proofs.sweeping.sweep_counts.Goals.{then-count-counts+in_ok-sweep_count, else-count-counts}
use Rattle.lab_sweep.proofs.sweeping.sweep_counts.Goals as goal

pub sweep_count-requires-clause-has : goal.sweep_count-requires-clause-has
sweep_count-requires-clause-has g c = subst (λ (b : State). HasDispatcher c.args.how.now.dispatcher b.memory.rom) (sym c.loop-count.invariant.own) c.requires.has

pub loop-count-preserved : goal.loop-count-preserved
loop-count-preserved g c =
    let m = g.D.Device.means in
    let es = c.args.events.now.list in
    let how = c.args.how.now in
    let b = c.args.board.now in
    let counts = how.counts in
    let f : ℕ → List ℕ = λ count. outcome_at m es how b count in
    let p : ℕ → Bool = λ count. is_broken (end_at m es how b count) in
    let q : ℕ → Bool = λ count. is_spent (end_at m es how b count) in
    let at = c.loop-count.count in
    let end = counts.to + 1 in
    let rest = filter (is_mine counts) (counts_from (end - (at + 1)) (at + 1)) in
    let now = c.loop-count.found in
    let early = c.loop-count-test.true in
    let i = c.loop-count.invariant in
    elim c.if-count-counts.branch [
      | then-count-counts+in_ok-sweep_count w ↦
          let mine : is_mine counts at ≡ true = grind (arith, nat_tests, w.if-count-counts) in
          let e = w.in_ok-sweep_count.ensures in
          record {
            own = w.own-is ∙ e.back ∙ i.own;
            rows = ap (λ (rows : List Row). outcomes_from f rows rest) (ap (λ (s : Swept). s.outcomes) w.found-is ∙ e.outcomes ∙ ap (λ (o : List ℕ). with_outcome at o now.outcomes) (outcome_alone m es how b c.loop-count.own at i.own))
                ∙ count_taken (is_mine counts) f now.outcomes end at early mine ∙ i.rows;
            broken = ap (λ x. x || list_any p rest) (ap (λ (s : Swept). s.broken) w.found-is ∙ e.broken ∙ ap (λ (x : ChainEnd). now.broken || is_broken x) (end_alone m es how b c.loop-count.own at i.own))
                ∙ any_taken p (is_mine counts) now.broken end at early mine ∙ i.broken;
            spent = ap (λ x. x || list_any q rest) (ap (λ (s : Swept). s.spent) w.found-is ∙ e.spent ∙ ap (λ (x : ChainEnd). now.spent || is_spent x) (end_alone m es how b c.loop-count.own at i.own))
                ∙ any_taken q (is_mine counts) now.spent end at early mine ∙ i.spent;
          }
      | else-count-counts w ↦
          let other : is_mine counts at ≡ false = grind (arith, nat_tests, w.if-count-counts) in
          record {
            own = w.own-is ∙ i.own;
            rows = ap (λ (rows : List Row). outcomes_from f rows rest) (ap (λ (s : Swept). s.outcomes) w.found-is) ∙ count_passed (is_mine counts) f now.outcomes end at early other ∙ i.rows;
            broken = ap (λ x. x || list_any p rest) (ap (λ (s : Swept). s.broken) w.found-is) ∙ any_passed p (is_mine counts) now.broken end at early other ∙ i.broken;
            spent = ap (λ x. x || list_any q rest) (ap (λ (s : Swept). s.spent) w.found-is) ∙ any_passed q (is_mine counts) now.spent end at early other ∙ i.spent;
          }
    ]
