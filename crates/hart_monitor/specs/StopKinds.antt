-- Where a run of the monitor stops, said of the states to which its steps lead.
use Rattle.std.specs.Prelude.{◌≡◌, ℕ, ◌+◌, ◌<◌, true, false, List, [], Some, None}
use Rattle.device_model.specs.Meanings.{Meanings}
use Rattle.hart_board.specs.State.{State}
use Rattle.hart_board.specs.Run.{every_step}
use Rattle.hart_board.specs.Steps.{board_at, told_at, goes_on}
use Rattle.hart_report.specs.declared.stepped.Stepped.{Stepped}
use Rattle.hart_report.specs.declared.stepped.Stepped.TheVariants.{VectorFault}
use Rattle.hart_monitor.specs.Breaks.{is_break}
use Rattle.hart_monitor.specs.declared.stop.Stop.{Stop}
use Rattle.hart_monitor.specs.declared.stop.Stop.TheVariants.{Halt, Break, Budget, Vector}

-- the state after k steps, and what becomes of the step after them
abbrev pub after_steps : Meanings → State → ℕ → State
after_steps m s k = board_at m every_step [] s k

abbrev pub next_told : Meanings → State → ℕ → Stepped
next_told m s k = told_at m every_step [] s k

-- a step after k steps is made, and at its end the board hasn't halted and no breakpoint stands at pc
pub record IsPassed (m : Meanings) (breaks : List ℕ) (s : State) (k : ℕ) : Type 0 where
  pub made : goes_on (next_told m s k) ≡ true
  pub running : m.halted (after_steps m s (k + 1)).outside.device ≡ None
  pub free : is_break (after_steps m s (k + 1)).pc breaks ≡ false

-- so is each of the first n steps
abbrev pub ArePassed : Meanings → List ℕ → State → ℕ → Type 0
ArePassed m breaks s n = (k : ℕ) → k < n → IsPassed m breaks s k

-- a run with at most n steps stops in this state for that reason: at the first step that isn't passed, whose end is tested for a halt first, and else at the bound; where the table's word isn't in memory, no step is made
abbrev pub StopsBy : Meanings → List ℕ → State → ℕ → State → Stop → Type 0
StopsBy m breaks s n t Halt = (k : ℕ) × (k < n) × ArePassed m breaks s k × (goes_on (next_told m s k) ≡ true) × (t ≡ after_steps m s (k + 1)) × ((code : ℕ) × (m.halted t.outside.device ≡ Some code))
StopsBy m breaks s n t Break = (k : ℕ) × (k < n) × ArePassed m breaks s k × (goes_on (next_told m s k) ≡ true) × (t ≡ after_steps m s (k + 1)) × (m.halted t.outside.device ≡ None) × (is_break t.pc breaks ≡ true)
StopsBy m breaks s n t Budget = ArePassed m breaks s n × (t ≡ after_steps m s n)
StopsBy m breaks s n t Vector = (k : ℕ) × (k < n) × ArePassed m breaks s k × (t ≡ after_steps m s k) × ((id : ℕ) × (next_told m s k ≡ VectorFault id))
