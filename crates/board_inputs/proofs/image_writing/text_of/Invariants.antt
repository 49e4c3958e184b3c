use Rattle.std.proofs.Common.{◌≡◌, drop, ◌++◌}
use Rattle.board_inputs.specs.ImageFile.{segments_text, image_text}
use Rattle.board_inputs.proofs.image_writing.text_of.Given as goal

-- the text so far and that of the segments that are left make the whole text
abbrev pub invariant-loop-i : goal.invariant-loop-i
invariant-loop-i l = l.text ++ segments_text (drop l.i l.image.segments) ≡ image_text l.image
