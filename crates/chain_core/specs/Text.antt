-- What a chain writes: the lines of its steps, a line for each service, and the report.
use Rattle.std.specs.Prelude.{◌≡◌, ◌<◌, ℕ, zero, suc, ◌+◌, ◌==◌, Bool, true, false, List, [], ◌∷◌, ◌++◌, Option, Some, None, codes}
use Rattle.board_outside.specs.Sink.{SinkView, Writes}
use Rattle.hart_words.specs.Decimal.{decimal}
use Rattle.device_model.specs.Meanings.{Meanings}
use Rattle.hart_report.specs.Ends.{halt_end, budget_end, steps_line}
use Rattle.hart_report.specs.Hart.{pc_and_registers, mstatus_line}
use Rattle.hart_report.specs.Contents.{output_part, ram_part}
use Rattle.hart_report.specs.Trace.{step_text}
use Rattle.hart_report.specs.declared.stepped.Stepped.{Stepped}
use Rattle.hart_report.specs.declared.stepped.Stepped.TheVariants.{Retired}
use Rattle.hart_board.specs.State.{State}
use Rattle.hart_board.specs.Step.{Turn, step}
use Rattle.hart_board.specs.Steps.{board_at}
use Rattle.hart_board.specs.declared.event.Event.{Event}
use Rattle.chain_moves.specs.Slot.{call}
use Rattle.chain_moves.specs.Bytes.{is_dead}
use Rattle.chain_moves.specs.Servicing.{Service}
use Rattle.chain_core.specs.ChainRun.{is_body, read_to}
use Rattle.chain_core.specs.Progress.{Progress, gone, goes}
use Rattle.chain_moves.specs.declared.broken.Broken.{Broken}
use Rattle.chain_moves.specs.declared.broken.Broken.TheVariants.{CsrTouched, RegisterLost, ReadsDispatch, WritesFrame, StackBad, BadTable, NoDispatcher, HardVectored, EnteredDispatch, Exception, HaltInHandler}
use Rattle.chain_core.specs.declared.chain_end.ChainEnd.{ChainEnd}
use Rattle.chain_core.specs.declared.chain_end.ChainEnd.TheVariants.{Done, BudgetSpent, SinkFailed, Broken as BrokenOff}

-- ---- steps and services

-- a service of some sort begins: its mark, number, level and depth
unfoldable pub begun_line : List ℕ → ℕ → ℕ → ℕ → List ℕ
begun_line mark number level depth = mark ++ decimal number ++ codes " " ++ decimal level ++ codes " " ++ decimal depth ++ codes "\n"

-- a chained one
unfoldable pub service_line : ℕ → ℕ → ℕ → List ℕ
service_line number level depth = begun_line (codes "s ") number level depth

-- and of some
unfoldable pub service_lines : List Service → List ℕ
service_lines [] = []
service_lines (e ∷ es) = service_line e.number e.level e.depth ++ service_lines es

-- the line of the service that begins with a step: with the dispatcher's call
abbrev pub call_text : ℕ → State → Bool → List ℕ
call_text depth new true = service_line new.csrs.exccode new.csrs.mil (depth + 1)
call_text depth new false = []

abbrev pub service_text : ℕ → State → Stepped → List ℕ
service_text depth new (Retired pc bits length) = call_text depth new (pc == call)
service_text depth new told = []

-- what a step adds that came to this, where a trace is asked for or not
abbrev pub turn_text : Bool → ℕ → Turn → List ℕ
turn_text trace depth turn = step_text trace turn.told ++ service_text depth turn.state turn.told

-- what the next step adds
unfoldable pub next_text : Meanings → Bool → Progress → List ℕ
next_text m trace p = turn_text trace p.depth (step m p.board)

-- and the next n steps
unfoldable pub steps_text : Meanings → List Event → Bool → ℕ → Progress → List ℕ
steps_text m es trace zero p = []
steps_text m es trace (suc n) p = next_text m trace p ++ steps_text m es trace n (gone m es p)

-- the sink failed in what one of n steps adds, after all that the steps before it added; the board has made this step
pub record Cut (m : Meanings) (es : List Event) (trace : Bool) (n : ℕ) (p q : Progress) (old new : SinkView) : Type 0 where
  pub k : ℕ
  pub early : k < n
  pub made : q ≡ goes m es (k + 1) p
  pub between : SinkView
  pub whole : Writes true old between (steps_text m es trace k p)
  pub broken : Writes false between new (next_text m trace (goes m es k p))

-- n steps were made and all that they add was written, or the sink failed on the way
abbrev pub Tells : Meanings → List Event → Bool → ℕ → Bool → Progress → Progress → SinkView → SinkView → Type 0
Tells m es trace n true p q old new = (q ≡ goes m es n p) × Writes true old new (steps_text m es trace n p)
Tells m es trace n false p q old new = Cut m es trace n p q old new

-- ---- a chain's lines from its start

-- what the step after the first k adds; the depth of a service is that of the list which is read off the steps
unfoldable pub added_after : Meanings → List Event → Bool → State → ℕ → List ℕ
added_after m es trace b k = turn_text trace (read_to m es b k).depth (step m (board_at m is_body es b k))

-- and what the first k add
unfoldable pub added_to : Meanings → List Event → Bool → State → ℕ → List ℕ
added_to m es trace b zero = []
added_to m es trace b (suc k) = added_to m es trace b k ++ added_after m es trace b k

-- ---- the report

-- a kind of broken convention by its name
unfoldable pub kind_name : Broken → List ℕ
kind_name CsrTouched = codes "CsrTouched"
kind_name RegisterLost = codes "RegisterLost"
kind_name ReadsDispatch = codes "ReadsDispatch"
kind_name WritesFrame = codes "WritesFrame"
kind_name StackBad = codes "StackBad"
kind_name BadTable = codes "BadTable"
kind_name NoDispatcher = codes "NoDispatcher"
kind_name HardVectored = codes "HardVectored"
kind_name EnteredDispatch = codes "EnteredDispatch"
kind_name (Exception code) = codes "Exception " ++ decimal code
kind_name HaltInHandler = codes "HaltInHandler"

-- the convention was broken after so many bodies
unfoldable pub broken_end : Broken → ℕ → List ℕ
broken_end kind bodies = codes "end broken " ++ kind_name kind ++ codes " " ++ decimal bodies ++ codes "\n"

unfoldable pub bodies_line : ℕ → List ℕ
bodies_line bodies = codes "bodies " ++ decimal bodies ++ codes "\n"

-- the code with which the board has halted
abbrev pub code_or_zero : Option ℕ → ℕ
code_or_zero None = 0
code_or_zero (Some code) = code

-- how it ended, and how the board stands
abbrev pub end_line : ChainEnd → Option ℕ → List ℕ
end_line (Done steps bodies services) halted = halt_end (code_or_zero halted)
end_line BudgetSpent halted = budget_end
end_line (BrokenOff kind bodies) halted = broken_end kind bodies
end_line SinkFailed halted = []

-- the hart, the device's output, and RAM but for its dead bytes
unfoldable pub board_part : Meanings → List Bool → State → List ℕ
board_part m dead b = pc_and_registers b.pc b.registers ++ mstatus_line b.csrs ++ output_part (m.output_of b.outside.device) ++ ram_part (is_dead dead) b.memory.ram

-- after a chain to its end the bodies and the board follow
abbrev pub done_part : Meanings → List Bool → State → ChainEnd → List ℕ
done_part m dead b (Done steps bodies services) = bodies_line bodies ++ board_part m dead b
done_part m dead b BudgetSpent = []
done_part m dead b (BrokenOff kind bodies) = []
done_part m dead b SinkFailed = []

-- the report: the end, the steps, and what follows
unfoldable pub report : Meanings → List Bool → State → ChainEnd → ℕ → List ℕ
report m dead b end steps = end_line end (m.halted b.outside.device) ++ steps_line steps ++ done_part m dead b end
