use Rattle.std.proofs.Common.{List, subst}
use Rattle.rv_assembler.specs.Source.{cut_segments}
use Rattle.rv_assembler.specs.declared.stretch.Stretch.{Stretch}
use Rattle.rv_assembler.proofs.Adding.{Adding, left_on, can_add}
use Rattle.rv_assembler.proofs.cutting.add_segments.Goals as goal

pub add-requires-clause-apart : goal.add-requires-clause-apart
add-requires-clause-apart c =
    let s : Stretch = record { base = 0; size = 0 } in
    let is = left_on c.args.stretches.now c.loop-stretch.stretch-index s c.loop-stretch-test.true in
    let now = subst (λ (ls : List Stretch). Adding (cut_segments c.args.stretches.now c.args.bytes.now) ls c.loop-stretch.rest.now c.loop-stretch.image.segments) is c.loop-stretch.invariant.1 in
    (can_add _ _ _ c.loop-stretch.rest.now c.split_at.result.0.now c.loop-stretch.image.segments now c.split_at.ensures.front).apart
