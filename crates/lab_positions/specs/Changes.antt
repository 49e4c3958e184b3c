-- Changes by a client.
use Rattle.std.specs.Prelude.{◌-◌, ◌%◌, ℕ, Bool, true}
use Rattle.device_model.specs.Meanings.{Meanings}
use Rattle.hart_memory.specs.Access.{with_byte}
use Rattle.hart_memory.specs.Place.{holds}
use Rattle.hart_board.specs.State.{State}
use Rattle.hart_board.specs.Event.{is_free, arrived}
use Rattle.lab_positions.specs.Position.{Position}
use Rattle.lab_positions.specs.Places.{SessionState}
use Rattle.lab_positions.specs.declared.change.Change.{Change}
use Rattle.lab_positions.specs.declared.change.Change.TheVariants.{Pc, Byte, Outside}

-- with so many inputs: the byte is in memory, and no line is a device's
abbrev pub is_change : ℕ → Change → Bool
is_change inputs (Pc pc) = true
is_change inputs (Byte at value) = holds at 1
is_change inputs (Outside what) = is_free inputs what

-- after a change: pc loses bit 0, and a board that has halted takes nothing more from outside
abbrev pub changed : Meanings → State → Change → State
changed m s (Pc pc) = record s { pc = pc - pc % 2 }
changed m s (Byte at value) = record s { memory = with_byte s.memory at value }
changed m s (Outside what) = arrived m s what

-- with another board
abbrev pub with_board : Position → State → Position
with_board p board = record p { stand = record p.stand { board = board } }

-- a change makes a new base: what stands then
abbrev pub rebased : SessionState → State → SessionState
rebased s board = record s { base = with_board s.here board; here = with_board s.here board }
