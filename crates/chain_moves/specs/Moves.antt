-- The servicing machine: its three moves are tried in the order Enter, Leave, Body.
use Rattle.std.specs.Prelude.{ℕ, ◌==◌, Bool, true, false, not, ◌&&◌, List, [], ◌∷◌, Option, Some, None}
use Rattle.device_model.specs.Meanings.{Meanings}
use Rattle.clic_select.specs.Top.{top}
use Rattle.clic_select.specs.declared.choice.Choice.{Choice}
use Rattle.hart_board.specs.declared.event.Event.{Event}
use Rattle.chain_moves.specs.Slot.{back}
use Rattle.chain_moves.specs.Servicing.{Live, Service, Servicing, marks}
use Rattle.chain_moves.specs.Tests.{first_broken, enter_tests}
use Rattle.chain_moves.specs.Enter.{is_enter_due, new_frame, table_address, entered}
use Rattle.chain_moves.specs.Leave.{left}
use Rattle.chain_moves.specs.Body.{body}
use Rattle.chain_moves.specs.Machine.{Before, Moved, Makes, Breaks, Ends, Machine, unless_broken}
use Rattle.chain_moves.specs.declared.broken.Broken.TheVariants.{HaltInHandler}
use Rattle.chain_moves.specs.declared.moves.Move.{Move}
use Rattle.chain_moves.specs.declared.moves.Move.TheVariants.{Enter, Leave}

-- where no Enter is due: by whether a service is live, and pc is where handlers return
abbrev pub leave_or_body : Meanings → List Event → Servicing → List Live → Bool → Moved Move Servicing
leave_or_body m es s (v ∷ vs) true = Makes Leave (left s v vs)
leave_or_body m es s (v ∷ vs) false = body m es s
leave_or_body m es s [] at_back = body m es s

-- the tests of an Enter, and the state after it
abbrev pub enter : Servicing → Choice → Moved Move Servicing
enter s t =
    unless_broken Before (first_broken (enter_tests (marks s.live) s.dead t.shv s.vector (new_frame s) (table_address s.table t.id))) s.bodies
    (Makes Enter (entered s t))

-- by the top, and whether an Enter is due
abbrev pub move_by : Meanings → List Event → Servicing → Option Choice → Bool → Moved Move Servicing
move_by m es s (Some t) true = enter s t
move_by m es s None true = leave_or_body m es s s.live (s.pc == back)
move_by m es s choice false = leave_or_body m es s s.live (s.pc == back)

-- after a halt no move is made, and no service may be live
abbrev pub halted_with : List Live → ℕ → Moved Move Servicing
halted_with [] bodies = Ends
halted_with (v ∷ vs) bodies = Breaks Before HaltInHandler bodies

abbrev pub move_unless_halted : Meanings → List Event → Servicing → Option ℕ → Moved Move Servicing
move_unless_halted m es s (Some code) = halted_with s.live s.bodies
move_unless_halted m es s None = move_by m es s (top s.outside.clic) (is_enter_due s (top s.outside.clic))

unfoldable pub move : Meanings → List Event → Servicing → Moved Move Servicing
move m es s = move_unless_halted m es s (m.halted s.outside.device)

-- an Enter of a top that is not hardware-vectored is due
abbrev pub claims_by : Option Choice → Bool → Bool
claims_by (Some t) is_due = is_due && not t.shv
claims_by None is_due = false

unfoldable pub claims : Servicing → Bool
claims s = claims_by (top s.outside.clic) (is_enter_due s (top s.outside.clic))

-- the machine with a device of these meanings, to which these events come
abbrev pub servicing_machine : Meanings → List Event → Machine Move Servicing Service
servicing_machine m es = record { move = move m es; costs_as = λ kind. kind; claims = claims; bodies = λ s. s.bodies; services = λ s. s.services }
