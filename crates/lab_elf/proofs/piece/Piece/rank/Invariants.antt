use Rattle.std.proofs.Common.{◌≡◌, ◌++◌, take, drop}
use Rattle.lab_elf.specs.Loading.{put_in}
use Rattle.lab_elf.proofs.piece.Piece.rank.Given as goal

-- those so far stay before it
abbrev pub invariant-loop-i : goal.invariant-loop-i
invariant-loop-i l = put_in l.self l.taken ≡ take l.i l.taken ++ put_in l.self (drop l.i l.taken)
