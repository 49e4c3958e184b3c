-- The servicing machine with direct services: while one is live only bodies are made, and one begins where an Enter of a hardware-vectored top would.
use Rattle.std.specs.Prelude.{ℕ, suc, Bool, true, false, not, ◌&&◌, List, [], ◌∷◌, ◌++◌, length, Option, Some, None}
use Rattle.hart_exec.specs.Effect.{even}
use Rattle.hart_memory.specs.Place.{holds}
use Rattle.device_model.specs.Meanings.{Meanings}
use Rattle.clic_regs.specs.LineChange.{claimed}
use Rattle.clic_select.specs.Top.{top}
use Rattle.clic_select.specs.declared.choice.Choice.{Choice}
use Rattle.hart_board.specs.State.{State}
use Rattle.hart_board.specs.declared.event.Event.{Event}
use Rattle.chain_moves.specs.Servicing.{Servicing}
use Rattle.chain_moves.specs.Bytes.{some_byte, is_hidden}
use Rattle.chain_moves.specs.Tests.{first_broken}
use Rattle.chain_moves.specs.Enter.{is_enter_due, table_address, table_word}
use Rattle.chain_moves.specs.Moves.{move, claims}
use Rattle.chain_moves.specs.Machine.{Before, Moved, Makes, Breaks, Ends, Machine, unless_broken}
use Rattle.chain_moves.specs.Start.{begun}
use Rattle.chain_moves.specs.declared.broken.Broken.{Broken}
use Rattle.chain_moves.specs.declared.broken.Broken.TheVariants.{BadTable, HaltInHandler}
use Rattle.chain_moves.specs.declared.moves.Move.{Move}
use Rattle.chain_direct.specs.Directed.{Direct, Listed, Directed, is_alone, listed_after, beside_none}
use Rattle.chain_direct.specs.Kind.{Kind, Begin, Plain, costs_as}
use Rattle.chain_direct.specs.DirectBody.{direct_body}

-- ---- a direct service begins

-- by the dead bytes, and the address of the table's word
abbrev pub begin_tests : List Bool → ℕ → List (Bool × Broken)
begin_tests dead at = (not (holds at 4), BadTable) ∷ (some_byte (is_hidden dead) at 4, BadTable) ∷ []

-- with its handler's address as the table has it. The registers, sp among them, and the dead bytes stay
abbrev pub vectored_to : Directed → Choice → ℕ → Directed
vectored_to s t target = record {
  chained = record s.chained { pc = even target; was = true; outside = record s.chained.outside { clic = claimed s.chained.outside.clic t.id } };
  direct = Some (record { number = t.id; level = t.level; pc = s.chained.pc; kept = s.chained.registers });
  services = s.services ++ record { direct = true; service = record { number = t.id; level = t.level; depth = suc (length s.chained.live) } } ∷ [];
}

unfoldable pub vectored : Directed → Choice → Directed
vectored s t = vectored_to s t (table_word s.chained.memory (table_address s.chained.table t.id))

abbrev pub begin : Directed → Choice → Moved Kind Directed
begin s t = unless_broken Before (first_broken (begin_tests s.chained.dead (table_address s.chained.table t.id))) s.chained.bodies (Makes Begin (vectored s t))

-- ---- all moves

-- a move of the servicing machine, as one of this machine
abbrev pub with_move : Directed → Moved Move Servicing → Moved Kind Directed
with_move s (Makes kind t) = Makes (Plain kind) (record s { chained = t; services = listed_after kind s.services t.live })
with_move s (Breaks when kind bodies) = Breaks when kind bodies
with_move s Ends = Ends

-- an Enter would be due: by whether its top is hardware-vectored
abbrev pub entering_by : Meanings → List Event → Directed → Choice → Bool → Moved Kind Directed
entering_by m es s t true = begin s t
entering_by m es s t false = with_move s (move m es s.chained)

-- by the top, and whether an Enter would be due
abbrev pub moved_alone : Meanings → List Event → Directed → Option Choice → Bool → Moved Kind Directed
moved_alone m es s (Some t) true = entering_by m es s t t.shv
moved_alone m es s (Some t) false = with_move s (move m es s.chained)
moved_alone m es s None is_due = with_move s (move m es s.chained)

-- by the direct service that is live, if one is, and whether the board has halted
abbrev pub moved_by : Meanings → List Event → Directed → Option Direct → Option ℕ → Moved Kind Directed
moved_by m es s (Some v) (Some code) = Breaks Before HaltInHandler s.chained.bodies
moved_by m es s (Some v) None = direct_body m es s v
moved_by m es s None (Some code) = with_move s (move m es s.chained)
moved_by m es s None None = moved_alone m es s (top s.chained.outside.clic) (is_enter_due s.chained (top s.chained.outside.clic))

unfoldable pub direct_move : Meanings → List Event → Directed → Moved Kind Directed
direct_move m es s = moved_by m es s s.direct (m.halted s.chained.outside.device)

-- an Enter of a top that is not hardware-vectored is due
unfoldable pub direct_claims : Directed → Bool
direct_claims s = is_alone s.direct && claims s.chained

-- the machine with a device of these meanings, to which these events come
abbrev pub direct_machine : Meanings → List Event → Machine Kind Directed Listed
direct_machine m es = record { move = direct_move m es; costs_as = costs_as; claims = direct_claims; bodies = λ s. s.chained.bodies; services = λ s. s.services }

-- it starts from a board as the servicing machine does
abbrev pub direct_start : Meanings → List Event → State → Directed
direct_start m es b = beside_none (begun m es b)
