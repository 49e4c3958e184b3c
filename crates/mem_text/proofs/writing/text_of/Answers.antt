use Rattle.mem_text.proofs.Rows.{segment_more}
use Rattle.mem_text.proofs.writing.text_of.Goals as goal

pub loop-i-preserved : goal.loop-i-preserved
loop-i-preserved c = segment_more c.args.image.now.segments c.loop-i.i c.at.result c.bytes.result.now c.loop-i.text c.put_segment.new.text
    c.at.ensures c.bytes.ensures c.put_segment.ensures.bytes c.in_ok-put_segment.ensures.text c.loop-i.invariant
