use Rattle.std.proofs.Common.{◌∙◌, ap}
use Rattle.board_outside.specs.Puts.{PutsState, with_taken}
use Rattle.board_outside.proofs.Pieces.{appends_more, within}
use Rattle.board_outside.proofs.CountsSoFar.{taken_more}
use Rattle.board_outside.proofs.streams.write_whole.Goals as goal

pub loop-done-preserved : goal.loop-done-preserved
loop-done-preserved g c =
    let n = c.in_ok-done.field-0 in
    let told = c.in_ok-done.ensures in
    record {
      in_range = within c.loop-done.done n c.args.bytes.now c.loop-done.invariant.in_range told.size.1;
      written = appends_more _ _ _ c.loop-done.done n c.args.bytes.now c.loop-done.invariant.written told.bytes;
      counted = told.counts ∙ ap (λ (p : PutsState). with_taken p n) c.loop-done.invariant.counted ∙ taken_more c.args.puts.now c.loop-done.done n;
    }
