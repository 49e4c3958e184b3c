-- The board's own run in a chain: events come by the count of bodies, and services are read off the steps.
use Rattle.std.specs.Prelude.{ℕ, zero, suc, ◌-◌, ◌==◌, Bool, true, false, not, List, [], ◌∷◌, ◌++◌}
use Rattle.device_model.specs.Meanings.{Meanings}
use Rattle.hart_board.specs.State.{State}
use Rattle.hart_board.specs.Step.{Turn, step}
use Rattle.hart_board.specs.Run.{Stand}
use Rattle.hart_board.specs.Steps.{stands_at, board_at}
use Rattle.hart_board.specs.declared.event.Event.{Event}
use Rattle.hart_report.specs.declared.stepped.Stepped.{Stepped}
use Rattle.hart_report.specs.declared.stepped.Stepped.TheVariants.{Retired}
use Rattle.chain_moves.specs.Slot.{in_slot, call, back}
use Rattle.chain_moves.specs.Servicing.{Service}

-- the count rises with each body: with each instruction that retires outside the slot
abbrev pub is_body : Stepped → Bool
is_body (Retired pc bits length) = not (in_slot pc)
is_body told = false

-- the bodies and the board after k steps of a chain
abbrev pub chained_at : Meanings → List Event → State → ℕ → Stand
chained_at m es b k = stands_at m is_body es b k

-- ---- services

-- the calls less the returns so far, and the services
pub record Read : Type 0 where
  pub depth : ℕ
  pub services : List Service

abbrev pub nothing_read : Read
nothing_read = record { depth = 0; services = [] }

-- an instruction retired, by whether it is the dispatcher's call, and whether it stands where handlers return
abbrev pub read_at : Read → State → Bool → Bool → Read
read_at r new true at_back = record { depth = suc r.depth; services = r.services ++ record { number = new.csrs.exccode; level = new.csrs.mil; depth = suc r.depth } ∷ [] }
read_at r new false true = record r { depth = r.depth - 1 }
read_at r new false false = r

-- a service begins with each call; its number and its level stand in the fields then
abbrev pub read_by : Read → State → Stepped → Read
read_by r new (Retired pc bits length) = read_at r new (pc == call) (pc == back)
read_by r new told = r

abbrev pub read_services : Read → Turn → Read
read_services r turn = read_by r turn.state turn.told

-- what was read off the first k steps of a chain
unfoldable pub read_to : Meanings → List Event → State → ℕ → Read
read_to m es b zero = nothing_read
read_to m es b (suc k) = read_services (read_to m es b k) (step m (board_at m is_body es b k))
