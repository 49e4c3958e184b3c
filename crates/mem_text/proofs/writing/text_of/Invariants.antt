use Rattle.mem_text.proofs.Rows.{SegmentsOn}
use Rattle.mem_text.proofs.writing.text_of.Given as goal

-- the text so far and that of the segments that are left make the whole text
abbrev pub invariant-loop-i : goal.invariant-loop-i
invariant-loop-i l = SegmentsOn l.image.segments l.i l.text
