use Rattle.std.proofs.Common.{◌≡◌, ◌∷◌, ◌+◌, drop, arith, append_assoc, ◌∙◌}
use Rattle.hart_memory.specs.Image.{SegmentView}
use Rattle.board_inputs.specs.ImageFile.{segment_text, segments_text}
use Rattle.board_inputs.proofs.Segments.{next_segment, is_short}
use Rattle.board_inputs.proofs.image_writing.text_of.Goals as goal

pub overflow_cast-count : goal.overflow_cast-count
overflow_cast-count c = omega (arith, c.len-count.ensures.sound.few)

pub put_segment-requires : goal.put_segment-requires
put_segment-requires c = is_short c.args.image.now.segments c.loop-i.i c.bytes.result.now c.len-count.ensures.sound.placed c.bytes.ensures

pub loop-i-preserved : goal.loop-i-preserved
loop-i-preserved c =
    let s : SegmentView = record { address = c.at.result; content = c.bytes.result.now } in
    let next : drop c.loop-i.i c.args.image.now.segments ≡ s ∷ drop (c.loop-i.i + 1) c.args.image.now.segments = next_segment c.args.image.now.segments c.loop-i.i c.at.result c.bytes.result.now c.at.ensures c.bytes.ensures in
    rw c.in_ok-put_segment.ensures (append_assoc c.loop-i.text (segment_text s) (segments_text (drop (c.loop-i.i + 1) c.args.image.now.segments)) ∙ (rw next at c.loop-i.invariant))
