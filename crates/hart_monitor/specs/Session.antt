-- What each command of a script writes, and what it leaves.
use Rattle.std.specs.Prelude.{◌≡◌, ℕ, Bool, true, false, List, [], ◌∷◌, ◌++◌, ⊤}
use Rattle.std.specs.List.{All}
use Rattle.device_model.specs.Meanings.{Meanings}
use Rattle.clic_regs.specs.Shape.{plain_shape}
use Rattle.hart_board.specs.State.{State, Moment, with_kept, gone_back}
use Rattle.hart_board.specs.Event.{applied}
use Rattle.hart_board.specs.Run.{Ran, every_step, run_of}
use Rattle.hart_board.specs.declared.what.What.TheVariants.{Line as LineOf}
use Rattle.hart_report.specs.Hart.{pc_and_registers, csr_lines}
use Rattle.hart_report.specs.Trace.{trace_text}
use Rattle.hart_monitor.specs.Breaks.{is_break, with_break}
use Rattle.hart_monitor.specs.Stopping.{Stopped, stops_in}
use Rattle.hart_monitor.specs.Bytes.{bytes_text, input_line}
use Rattle.hart_monitor.specs.Texts.{stop_line, break_line, back_line}
use Rattle.hart_monitor.specs.declared.command.Command.{Command}
use Rattle.hart_monitor.specs.declared.command.Command.TheVariants.{Step, Run, Break, Regs, Csr, Mem, Clic, Line, Back}

-- the board with what it keeps, and the breakpoints
pub record Session : Type 0 where
  pub board : State
  pub breaks : List ℕ

-- before the first command no breakpoint stands
abbrev pub opened : State → Session
opened s = record { board = s; breaks = [] }

-- the text that is written, and the session after it
pub record Outcome : Type 0 where
  pub text : List ℕ
  pub session : Session

-- ---- the commands that change the board keep its state first

-- `step`: a run of the board with this bound, to which nothing comes from outside; its trace is the text
abbrev pub steps_run : Meanings → ℕ → State → Ran
steps_run m n s = run_of m every_step [] n (with_kept s)

-- `run`
abbrev pub run_stopped : Meanings → ℕ → Session → Stopped
run_stopped m n s = stops_in m s.breaks n (with_kept s.board)

-- `line`: also where the board has halted
unfoldable pub line_set : Meanings → ℕ → Bool → State → State
line_set m input high s = applied m (with_kept s) (LineOf input high)

-- something is kept
abbrev pub has_kept : List Moment → Bool
has_kept [] = false
has_kept (moment ∷ earlier) = true

-- ---- a command

-- a text, after which all is as before
abbrev pub told : List ℕ → Session → Outcome
told text s = record { text = text; session = s }

-- a text, after which the board is in this state
abbrev pub moved : List ℕ → State → Session → Outcome
moved text t s = record { text = text; session = record { board = t; breaks = s.breaks } }

abbrev pub outcome : Meanings → Command → Session → Outcome
outcome m (Step n) s = moved (trace_text true (steps_run m n s.board).steps) (steps_run m n s.board).state s
outcome m (Run n) s = moved (stop_line (run_stopped m n s).why (run_stopped m n s).state.pc) (run_stopped m n s).state s
outcome m (Break at) s = record { text = break_line (is_break at (with_break at s.breaks)) at; session = record { board = s.board; breaks = with_break at s.breaks } }
outcome m Regs s = told (pc_and_registers s.board.pc s.board.registers) s
outcome m Csr s = told (csr_lines s.board.csrs) s
outcome m (Mem at count) s = told (bytes_text s.board.memory count at) s
outcome m (Clic input) s = told (input_line s.board.outside.clic input) s
outcome m (Line input high) s = moved [] (line_set m input high s.board) s
outcome m Back s = moved (back_line (has_kept s.board.kept) (gone_back s.board).pc) (gone_back s.board) s

-- the command keeps the board's state first
abbrev pub KeepsFirst : Command → Type 0
KeepsFirst (Step n) = ⊤
KeepsFirst (Run n) = ⊤
KeepsFirst (Line input high) = ⊤
KeepsFirst c = ⊥

-- ---- a script: its commands one after the other

-- a text, and then what follows
abbrev pub after : List ℕ → Outcome → Outcome
after text o = record { text = text ++ o.text; session = o.session }

unfoldable pub outcome_of : Meanings → List Command → Session → Outcome
outcome_of m [] s = told [] s
outcome_of m (c ∷ cs) s = after (outcome m c s).text (outcome_of m cs (outcome m c s).session)

-- ---- the boards that a script is for

-- the controller has the plain shape, now and in each state that is kept
pub record IsPlain (s : State) : Type 0 where
  pub present : s.outside.clic.shape ≡ plain_shape
  pub kept : All (λ (moment : Moment). moment.outside.clic.shape ≡ plain_shape) s.kept
