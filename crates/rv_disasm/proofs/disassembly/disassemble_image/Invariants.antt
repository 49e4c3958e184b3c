use Rattle.std.proofs.Common.{◌≡◌, ◌++◌, drop, take}
use Rattle.std.specs.List.{flat_map}
use Rattle.rv_disasm.specs.Listing.{segment_text, image_text, AreAllBytes}
use Rattle.rv_disasm.proofs.disassembly.disassemble_image.Given as goal

-- the text so far, and that of the segments that are left; the bytes so far are below 256
abbrev pub invariant-loop-i : goal.invariant-loop-i
invariant-loop-i l = record { text : l.text ++ flat_map segment_text (drop l.i l.image.segments) ≡ image_text l.image; bytes : AreAllBytes (take l.i l.image.segments) }
