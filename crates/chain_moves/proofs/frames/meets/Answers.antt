use Rattle.std.proofs.Common.{◌+◌, ◌||◌, drop, sym, ap, ◌∙◌}
use Rattle.chain_moves.specs.Bytes.{some_byte}
use Rattle.chain_moves.specs.Bytes.{in_live_frame}
use Rattle.chain_moves.proofs.Loops.{meets_at, meets_past, turned_some}
use Rattle.chain_moves.proofs.frames.meets.Goals as goal

pub returns-then-overlap : goal.returns-then-overlap
returns-then-overlap c =
    let m = c.args.marks.now in
    sym (meets_at m c.loop-m.m-index _ c.args.at c.args.count c.overlap.result c.requires c.loop-m-test.true c.overlap.ensures ∙ ap (λ b. b || some_byte (in_live_frame (drop (c.loop-m.m-index + 1) m)) c.args.at c.args.count) c.if-overlap.true) ∙ c.loop-m.invariant

pub loop-m-preserved : goal.loop-m-preserved
loop-m-preserved c =
    let m = c.args.marks.now in
    sym (meets_at m c.loop-m.m-index _ c.args.at c.args.count c.overlap.result c.requires c.loop-m-test.true c.overlap.ensures ∙ ap (λ b. b || some_byte (in_live_frame (drop (c.loop-m.m-index + 1) m)) c.args.at c.args.count) c.if-overlap.false) ∙ c.loop-m.invariant

pub returns : goal.returns
returns c = sym (meets_past c.args.marks.now c.loop-m.m-index c.args.at c.args.count c.loop-m-test.false) ∙ c.loop-m.invariant

pub loop-m-init : goal.loop-m-init
loop-m-init c = sym (turned_some c.args.marks.now c.args.at c.args.count)
