use Rattle.std.proofs.Common.{◌≡◌, ◌∷◌, ◌+◌, drop}
use Rattle.hart_memory.specs.Image.{SegmentView}
use Rattle.board_inputs.specs.ImageLoading.{with_segments}
use Rattle.board_inputs.proofs.Segments.{next_segment}
use Rattle.board_inputs.proofs.Loading.{is_held}
use Rattle.chain_lint.proofs.code.place_segments.Goals as goal

pub place_bytes-requires : goal.place_bytes-requires
place_bytes-requires c = is_held c.args.image.now.segments c.loop-i.i c.at.result c.bytes.result.now c.len-i-end.ensures.sound.placed c.at.ensures c.bytes.ensures

pub loop-i-preserved : goal.loop-i-preserved
unfolding with_segments
loop-i-preserved c =
    let s : SegmentView = record { address = c.at.result; content = c.bytes.result.now } in
    let next : drop c.loop-i.i c.args.image.now.segments ≡ s ∷ drop (c.loop-i.i + 1) c.args.image.now.segments = next_segment c.args.image.now.segments c.loop-i.i c.at.result c.bytes.result.now c.at.ensures c.bytes.ensures in
    rw c.place_bytes.ensures (rw next at c.loop-i.invariant)
