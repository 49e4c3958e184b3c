use Rattle.std.proofs.Common.{drop}
use Rattle.lab_elf.proofs.Making.{Holds}
use Rattle.lab_elf.proofs.image_of_file.image_with.Given as goal

-- the image has the pieces so far
abbrev pub invariant-loop-piece : goal.invariant-loop-piece
invariant-loop-piece l = Holds l.bytes l.pieces (drop l.piece-index l.pieces) l.image
