-- The first line of a scenario in which something is wrong.
use Rattle.std.specs.Prelude.{◌≡◌, ℕ, ◌+◌, ◌<◌, ◌≤◌, List, ◌∷◌, ◌++◌, length}
use Rattle.hart_board.specs.Event.{last_count}
use Rattle.hart_board.specs.declared.event.Event.{Event}
use Rattle.board_inputs.specs.Spelling.{IsPassed, Spells}
use Rattle.board_inputs.specs.ScenarioFile.{file_opening, Tell, AreInOrder, most_events}
use Rattle.board_inputs.specs.declared.scenario_why.ScenarioWhy.{ScenarioWhy}
use Rattle.board_inputs.specs.declared.scenario_why.ScenarioWhy.TheVariants.{BadLine, OutOfOrder, TooMany}
use Rattle.board_inputs.specs.declared.scenario_error.ScenarioError.{ScenarioError}
use Rattle.board_inputs.specs.declared.scenario_error.ScenarioError.TheVariants.{Memory, Refused}

-- this is wrong with the line, after these events
abbrev pub IsWrong : ℕ → List ℕ → List Event → ScenarioWhy → Type 0
IsWrong inputs line before BadLine = (IsPassed line → ⊥) × ((e : Event) → Spells inputs line e → ⊥)
IsWrong inputs line before OutOfOrder = (e : Event) × Spells inputs line e × (e.at < last_count 0 before)
IsWrong inputs line before TooMany = (e : Event) × Spells inputs line e × (last_count 0 before ≤ e.at) × (most_events ≤ length before)

-- the lines before it tell events in order, and this is wrong with it
pub record IsFirstWrong (bytes : List ℕ) (number : ℕ) (why : ScenarioWhy) : Type 0 where
  pub front : List (List ℕ)
  pub line : List ℕ
  pub behind : List (List ℕ)
  pub lines : (file_opening bytes).lines ≡ front ++ line ∷ behind
  pub number_is : number ≡ length front + 1
  pub before : List Event
  pub told : Tell (file_opening bytes).shape.inputs front before
  pub order : AreInOrder 0 before
  pub few : length before ≤ most_events
  pub wrong : IsWrong (file_opening bytes).shape.inputs line before why

-- it refused the first line in which something is wrong, or memory was wanting
abbrev pub RefusesFirst : List ℕ → ScenarioError → Type 0
RefusesFirst bytes Memory = Unit {0}
RefusesFirst bytes (Refused number why) = IsFirstWrong bytes number why
