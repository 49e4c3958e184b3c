use Rattle.std.proofs.Common.{arith, refl, sym, ◌∙◌}
use Rattle.std.proofs.lemmas.Grind.{same_number_lists}
use Rattle.std.proofs.lemmas.List.{length-set}
use Rattle.chain_moves.proofs.Loops.{set_more}
use Rattle.chain_moves.proofs.kept.all.Goals as goal

pub loop-r-init : goal.loop-r-init
loop-r-init c = record { long = refl; same = λ k l. omega arith }

pub returns : goal.returns
returns c =
    let all = c.loop-r-test.false in
    let long = c.loop-r.invariant.long in
    same_number_lists _ _ (long ∙ sym c.in_range.ensures.count) (λ k l. c.loop-r.invariant.same k (omega (arith, l, all, long)))

pub loop-r-preserved : goal.loop-r-preserved
loop-r-preserved c =
    let long = c.loop-r.invariant.long in
    record { long = length-set _ _ _ ∙ long; same = λ k l. set_more _ _ _ _ _ c.loop-r-test.true long c.from.ensures c.get.ensures.value c.loop-r.invariant.same k l }
