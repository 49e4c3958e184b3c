-- Both dispatchers, on boards that differ in the slot alone.
use Rattle.std.specs.Prelude.{◌≡◌, ◌+◌, ◌*◌, ℕ, false, List, slice_index, slice_index_or}
use Rattle.device_model.specs.Meanings.{Meanings}
use Rattle.hart_board.specs.State.{State}
use Rattle.hart_board.specs.Valid.{IsBoard}
use Rattle.hart_board.specs.Event.{AreEventsFrom}
use Rattle.hart_board.specs.declared.event.Event.{Event}
use Rattle.chain_moves.specs.Slot.{in_slot}
use Rattle.chain_moves.specs.Servicing.{Servicing}
use Rattle.chain_moves.specs.Machine.{Ends}
use Rattle.chain_moves.specs.Run.{Made, Leads}
use Rattle.chain_moves.specs.Moves.{move, servicing_machine}
use Rattle.chain_core.specs.Counts.{counts}
use Rattle.chain_moves.specs.Start.{with_slot, begun}
use Rattle.chain_core.specs.ChainRun.{read_to}
use Rattle.chain_moves.specs.Words.{HasDispatcher}
use Rattle.chain_core.specs.Chain.{board_after}
use Rattle.chain_moves.specs.declared.dispatcher.Dispatcher.{Dispatcher}
use Rattle.chain_moves.specs.declared.dispatcher.Dispatcher.TheVariants.{Looping, Returning}
use Rattle.chain_moves.specs.declared.moves.Move.{Move}

-- the board with other bytes in the slot
abbrev pub with_slot_bytes : List ℕ → State → State
with_slot_bytes bytes b = record b { memory = record b.memory { rom = with_slot bytes b.memory.rom } }

-- a board from which a chain can start, for events of its shape
pub record Starts (m : Meanings) (es : List Event) (d : Dispatcher) (b : State) : Type 0 where
  pub valid : IsBoard m b
  pub events : AreEventsFrom b.outside.clic.shape.inputs 0 es
  pub has : HasDispatcher d b.memory.rom
  pub level : b.csrs.mil ≡ 0

-- two boards at the ends of their chains: the same but for dispatch code, dead bytes, and what the last trap saved
pub record SameBoards (alive : ℕ → Type 0) (b c : State) : Type 0 where
  pub registers : b.registers ≡ c.registers
  pub pc : b.pc ≡ c.pc
  pub mstatus : (b.csrs.mie ≡ c.csrs.mie) × (b.csrs.mpie ≡ c.csrs.mpie)
  pub scratch : b.csrs.mscratch ≡ c.csrs.mscratch
  pub threshold : b.csrs.th ≡ c.csrs.th
  pub table : b.csrs.mtvt ≡ c.csrs.mtvt
  pub vector : b.csrs.mtvec_base ≡ c.csrs.mtvec_base
  pub level : b.csrs.mil ≡ c.csrs.mil
  pub outside : b.outside ≡ c.outside
  pub rom : (j : ℕ) → in_slot j ≡ false → slice_index b.memory.rom j ≡ slice_index c.memory.rom j
  pub ram : (j : ℕ) → alive j → slice_index b.memory.ram j ≡ slice_index c.memory.ram j

-- both chains made the same moves, and the returning one 23 steps more for each Enter straight after a Leave
pub record BothAgree (m : Meanings) (es : List Event) (b c : State) (one other : ℕ) (steps more bodies bodies' services services' : ℕ) : Type 0 where
  pub made : List (Made Move)
  pub state : Servicing
  pub leads : Leads (servicing_machine m es) made (begun m es b) state
  pub over : move m es state ≡ Ends
  pub steps_are : more ≡ steps + 23 * (counts made).pairs
  pub bodies_are : bodies ≡ bodies'
  pub services_are : services ≡ services'
  pub listed : (read_to m es b steps).services ≡ (read_to m es c more).services
  pub boards : SameBoards (λ j. slice_index_or state.dead j false ≡ false) (board_after m es Looping one b) (board_after m es Returning other c)
