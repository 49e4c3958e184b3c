-- Steps until the board has halted, a breakpoint is reached, or so many were made.
use Rattle.std.specs.Prelude.{ℕ, zero, suc, Bool, true, false, List, Option, Some, None}
use Rattle.device_model.specs.Meanings.{Meanings}
use Rattle.hart_board.specs.State.{State}
use Rattle.hart_board.specs.Step.{Turn, step}
use Rattle.hart_report.specs.declared.stepped.Stepped.{Stepped}
use Rattle.hart_report.specs.declared.stepped.Stepped.TheVariants.{VectorFault}
use Rattle.hart_monitor.specs.Breaks.{is_break}
use Rattle.hart_monitor.specs.declared.stop.Stop.{Stop}
use Rattle.hart_monitor.specs.declared.stop.Stop.TheVariants.{Halt, Break, Budget, Vector}

-- why it stopped, and where
pub record Stopped : Type 0 where
  pub why : Stop
  pub state : State

abbrev pub stopped : Stop → State → Stopped
stopped why s = record { why = why; state = s }

-- by whether a breakpoint stands at pc
abbrev pub unless_break : Bool → Stopped → State → Stopped
unless_break true next s = stopped Break s
unless_break false next s = next

-- by whether the board has halted, which is tested first
abbrev pub unless_halted : Option ℕ → Bool → Stopped → State → Stopped
unless_halted (Some code) here next s = stopped Halt s
unless_halted None here next s = unless_break here next s

-- by what became of a step; where the table's word isn't in memory, none was made
abbrev pub unless_vector : Stepped → Stopped → State → Stopped
unless_vector (VectorFault id) next s = stopped Vector s
unless_vector told next s = next

-- after a step
abbrev pub after_step : Meanings → List ℕ → (State → Stopped) → Turn → Stopped
after_step m breaks next turn =
    unless_vector turn.told (unless_halted (m.halted turn.state.outside.device) (is_break turn.state.pc breaks) (next turn.state) turn.state) turn.state

-- n steps more, of which the tests come after each. A step of a board that has halted changes nothing, so that such a board
-- stops at once, and so it does where no step is left
unfoldable pub stops_in : Meanings → List ℕ → ℕ → State → Stopped
stops_in m breaks zero s = stopped Budget s
stops_in m breaks (suc n) s = after_step m breaks (stops_in m breaks n) (step m s)
