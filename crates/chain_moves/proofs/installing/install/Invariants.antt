use Rattle.std.proofs.Common.{◌≡◌}
use Rattle.std.proofs.Math.Seq.{paste}
use Rattle.chain_moves.specs.Slot.{base}
use Rattle.chain_moves.specs.Start.{slot_bytes}
use Rattle.chain_moves.proofs.installing.install.Given as goal

abbrev pub invariant-loop-i : goal.invariant-loop-i
invariant-loop-i g l = l.board ≡ record l.initial.board { memory = record l.initial.board.memory { rom = paste l.initial.board.memory.rom base (slot_bytes l.d) l.i } }
