-- Steps of the board without events between them.
use Rattle.std.specs.Prelude.{ℕ, zero, suc, List, [], ◌∷◌}
use Rattle.device_model.specs.Meanings.{Meanings}
use Rattle.hart_board.specs.State.{State}
use Rattle.hart_board.specs.Step.{step}
use Rattle.hart_report.specs.declared.stepped.Stepped.{Stepped}

-- what became of each of some steps, and the state after them
pub record Walk : Type 0 where
  pub told : List Stepped
  pub state : State

abbrev pub with_told : Stepped → Walk → Walk
with_told t w = record { told = t ∷ w.told; state = w.state }

-- n steps, where no event comes between
unfoldable pub walked : Meanings → ℕ → State → Walk
walked m zero s = record { told = []; state = s }
walked m (suc n) s = with_told (step m s).told (walked m n (step m s).state)
