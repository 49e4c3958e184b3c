-- A chain: the board runs under a dispatcher, and its run ends where that of the servicing machine does.
use Rattle.std.specs.Prelude.{◌≡◌, ◌⊎◌, ◌<◌, ℕ, suc, ◌+◌, Bool, true, false, List, [], ◌++◌, slice_index, slice_index_or}
use Rattle.board_outside.specs.Sink.{SinkView, Writes}
use Rattle.device_model.specs.Meanings.{Meanings}
use Rattle.hart_report.specs.Text.{StopsAfter}
use Rattle.hart_board.specs.State.{State}
use Rattle.hart_board.specs.Steps.{board_at}
use Rattle.hart_board.specs.declared.event.Event.{Event}
use Rattle.chain_moves.specs.Slot.{in_slot}
use Rattle.chain_moves.specs.Servicing.{Servicing}
use Rattle.chain_moves.specs.Run.{Run, On, Broke, Over, run_to}
use Rattle.chain_moves.specs.Moves.{servicing_machine}
use Rattle.chain_moves.specs.Start.{begun}
use Rattle.chain_core.specs.ChainRun.{is_body}
use Rattle.chain_core.specs.End.{Ended, end_at}
use Rattle.chain_core.specs.Text.{added_after, added_to, report}
use Rattle.chain_moves.specs.declared.dispatcher.Dispatcher.{Dispatcher}
use Rattle.chain_moves.specs.declared.moves.Move.{Move}
use Rattle.chain_core.specs.declared.chain_end.ChainEnd.{ChainEnd}
use Rattle.chain_core.specs.declared.chain_end.ChainEnd.TheVariants.{Done, BudgetSpent, SinkFailed, Broken}

-- how a chain with these events, this dispatcher and this bound ends, and after how many steps of the board: as the machine that starts from the board
abbrev pub chain_end : Meanings → List Event → Dispatcher → ℕ → State → Ended
chain_end m es d bound b = end_at (servicing_machine m es) d bound (begun m es b)

-- the machine's moves as far as the bound reaches
abbrev pub machine_run : Meanings → List Event → ℕ → State → Run Move Servicing
machine_run m es bound b = run_to (servicing_machine m es) (begun m es b) (suc bound)

-- the dead bytes at the end of a run that is over
abbrev pub dead_in : Run Move Servicing → List Bool
dead_in (On made s) = []
dead_in (Broke made when kind bodies) = []
dead_in (Over made s) = s.dead

abbrev pub dead_at : Meanings → List Event → ℕ → State → List Bool
dead_at m es bound b = dead_in (machine_run m es bound b)

-- the board where a chain ends
abbrev pub board_after : Meanings → List Event → Dispatcher → ℕ → State → State
board_after m es d bound b = board_at m is_body es b (chain_end m es d bound b).steps

-- the lines of its steps and services, and its report
abbrev pub steps_part : Meanings → List Event → Dispatcher → Bool → ℕ → State → List ℕ
steps_part m es d trace bound b = added_to m es trace b (chain_end m es d bound b).steps

abbrev pub report_part : Meanings → List Event → Dispatcher → ℕ → State → List ℕ
report_part m es d bound b = report m (dead_at m es bound b) (board_after m es d bound b) (chain_end m es d bound b).end (chain_end m es d bound b).steps

-- what a chain writes
abbrev pub chain_text : Meanings → List Event → Dispatcher → Bool → ℕ → State → List ℕ
chain_text m es d trace bound b = steps_part m es d trace bound b ++ report_part m es d bound b

-- all that a chain writes was written
abbrev pub is_whole : ChainEnd → Bool
is_whole (Done steps bodies services) = true
is_whole BudgetSpent = true
is_whole (Broken kind bodies) = true
is_whole SinkFailed = false

abbrev pub is_done : ChainEnd → Bool
is_done (Done steps bodies services) = true
is_done BudgetSpent = false
is_done (Broken kind bodies) = false
is_done SinkFailed = false

-- ---- where the sink fails

-- in what a step adds: the board has made that step, and all before it was written
pub record StopsInSteps (m : Meanings) (es : List Event) (d : Dispatcher) (trace : Bool) (bound : ℕ) (b new_board : State) (old new : SinkView) : Type 0 where
  pub k : ℕ
  pub early : k < (chain_end m es d bound b).steps
  pub board : new_board ≡ board_at m is_body es b (k + 1)
  pub between : SinkView
  pub whole : Writes true old between (added_to m es trace b k)
  pub broken : Writes false between new (added_after m es trace b k)

-- in the report: the board stands where the chain ends
pub record StopsInReport (m : Meanings) (es : List Event) (d : Dispatcher) (trace : Bool) (bound : ℕ) (b new_board : State) (old new : SinkView) : Type 0 where
  pub board : new_board ≡ board_after m es d bound b
  pub text : StopsAfter old new (steps_part m es d trace bound b) (report_part m es d bound b)

abbrev pub Stops : Meanings → List Event → Dispatcher → Bool → ℕ → State → State → SinkView → SinkView → Type 0
Stops m es d trace bound b new_board old new = StopsInReport m es d trace bound b new_board old new ⊎ StopsInSteps m es d trace bound b new_board old new

-- ---- the state at a chain's end

-- the board is the machine's state: the registers, pc, what lies outside, every byte outside the slot and the dead bytes, and the fields that the convention lets a body set; no service is live
pub record AgreesWith (b : State) (s : Servicing) : Type 0 where
  pub registers : b.registers ≡ s.registers
  pub pc : b.pc ≡ s.pc
  pub outside : b.outside ≡ s.outside
  pub rom : (j : ℕ) → in_slot j ≡ false → slice_index b.memory.rom j ≡ slice_index s.memory.rom j
  pub ram : (j : ℕ) → slice_index_or s.dead j false ≡ false → slice_index b.memory.ram j ≡ slice_index s.memory.ram j
  pub mie : b.csrs.mie ≡ s.on
  pub mpie : b.csrs.mpie ≡ s.was
  pub threshold : b.csrs.th ≡ s.threshold
  pub table : b.csrs.mtvt ≡ s.table
  pub vector : b.csrs.mtvec_base ≡ s.vector
  pub scratch : b.csrs.mscratch ≡ s.scratch
  pub level : b.csrs.mil ≡ 0

-- where a run is over, the board agrees with its last state
abbrev pub AgreesAtEnd : State → Run Move Servicing → Type 0
AgreesAtEnd b (On made s) = ⊥
AgreesAtEnd b (Broke made when kind bodies) = ⊥
AgreesAtEnd b (Over made s) = AgreesWith b s

-- and a chain that is done is over
abbrev pub AgreesWhereDone : ChainEnd → State → Run Move Servicing → Type 0
AgreesWhereDone (Done steps bodies services) b run = AgreesAtEnd b run
AgreesWhereDone BudgetSpent b run = Unit {0}
AgreesWhereDone (Broken kind bodies) b run = Unit {0}
AgreesWhereDone SinkFailed b run = Unit {0}
