-- What a chain with direct services writes, and how it ends.
use Rattle.std.specs.Prelude.{◌≡◌, ℕ, zero, suc, Bool, true, false, List, [], ◌∷◌, ◌++◌, codes}
use Rattle.device_model.specs.Meanings.{Meanings}
use Rattle.hart_report.specs.Trace.{step_text}
use Rattle.hart_board.specs.State.{State}
use Rattle.hart_board.specs.Step.{step}
use Rattle.hart_board.specs.Steps.{board_at}
use Rattle.hart_board.specs.declared.event.Event.{Event}
use Rattle.chain_moves.specs.Servicing.{Service}
use Rattle.chain_moves.specs.Run.{Run, On, Broke, Over, run_to}
use Rattle.chain_core.specs.End.{end_at}
use Rattle.chain_core.specs.declared.ended.Ended.{Ended}
use Rattle.chain_core.specs.Text.{begun_line, service_line, report}
use Rattle.chain_core.specs.ChainRun.{is_body}
use Rattle.chain_moves.specs.declared.dispatcher.Dispatcher.{Dispatcher}
use Rattle.chain_moves.specs.declared.broken.Broken.TheVariants.{HardVectored}
use Rattle.chain_core.specs.declared.chain_end.ChainEnd.TheVariants.{Broken as BrokenOff}
use Rattle.chain_direct.specs.Kind.{Kind}
use Rattle.chain_direct.specs.Directed.{Listed, Directed}
use Rattle.chain_direct.specs.DirectMoves.{direct_machine, direct_start}
use Rattle.chain_direct.specs.DirectRun.{begins_after}

-- ---- lines

-- a direct service begins: its number, level and depth
unfoldable pub direct_line : ℕ → ℕ → ℕ → List ℕ
direct_line number level depth = begun_line (codes "d ") number level depth

abbrev pub line_by : Service → Bool → List ℕ
line_by e true = direct_line e.number e.level e.depth
line_by e false = service_line e.number e.level e.depth

abbrev pub listed_line : Listed → List ℕ
listed_line e = line_by e.service e.direct

unfoldable pub listed_lines : List Listed → List ℕ
listed_lines [] = []
listed_lines (e ∷ es) = listed_line e ++ listed_lines es

-- what the step after the first k adds, where a trace is asked for or not
unfoldable pub text_after : Meanings → List Event → Bool → State → ℕ → List ℕ
text_after m es trace b k = step_text trace (step m (board_at m is_body es b k)).told ++ listed_lines (begins_after m es b k)

-- and what the first k add
unfoldable pub text_to : Meanings → List Event → Bool → State → ℕ → List ℕ
text_to m es trace b zero = []
text_to m es trace b (suc k) = text_to m es trace b k ++ text_after m es trace b k

-- ---- a chain

-- how it ends, and after how many steps of the board: as the machine that starts from the board
abbrev pub direct_end : Meanings → List Event → Dispatcher → ℕ → State → Ended
direct_end m es d bound b = end_at (direct_machine m es) d bound (direct_start m es b)

-- no chain ends since its top is hardware-vectored
abbrev pub NeverHardVectored : Meanings → Type 0
NeverHardVectored m = (es : List Event) (d : Dispatcher) (bound : ℕ) (b : State) (n : ℕ) → (direct_end m es d bound b).end ≡ BrokenOff HardVectored n → ⊥

-- the machine's moves as far as the bound reaches
abbrev pub direct_run : Meanings → List Event → ℕ → State → Run Kind Directed
direct_run m es bound b = run_to (direct_machine m es) (direct_start m es b) (suc bound)

-- the dead bytes at the end of a run that is over
abbrev pub dead_in_run : Run Kind Directed → List Bool
dead_in_run (On made s) = []
dead_in_run (Broke made when kind bodies) = []
dead_in_run (Over made s) = s.chained.dead

-- the board where a chain ends
abbrev pub direct_board : Meanings → List Event → Dispatcher → ℕ → State → State
direct_board m es d bound b = board_at m is_body es b (direct_end m es d bound b).steps

-- the lines of its steps and services, and the report
abbrev pub direct_report : Meanings → List Event → Dispatcher → ℕ → State → List ℕ
direct_report m es d bound b = report m (dead_in_run (direct_run m es bound b)) (direct_board m es d bound b) (direct_end m es d bound b).end (direct_end m es d bound b).steps

abbrev pub direct_text : Meanings → List Event → Dispatcher → Bool → ℕ → State → List ℕ
direct_text m es d trace bound b = text_to m es trace b (direct_end m es d bound b).steps ++ direct_report m es d bound b
