-- The file of a scenario: lines, of which the first that isn't passed over may say the shape, and each other is passed over or
-- spells an event.
use Rattle.std.specs.Prelude.{◌≡◌, ℕ, ◌≤◌, ◌⊎◌, List, [], ◌∷◌, length, ⊤}
use Rattle.hart_words.specs.Lines.{lines_of}
use Rattle.hart_board.specs.Event.{EventList}
use Rattle.hart_board.specs.declared.event.Event.{Event}
use Rattle.board_inputs.specs.Opening.{Opening, opening_of}
use Rattle.board_inputs.specs.Spelling.{IsPassed, Spells}

-- the lines tell these events, one after the other, where inputs have numbers below a bound
abbrev pub Tell : ℕ → List (List ℕ) → List Event → Type 0
Tell inputs [] es = es ≡ []
Tell inputs (line ∷ lines) es = (IsPassed line × Tell inputs lines es) ⊎ ((e : Event) × (rest : List Event) × (es ≡ e ∷ rest) × Spells inputs line e × Tell inputs lines rest)

-- counts never fall, from this one on
abbrev pub AreInOrder : ℕ → List Event → Type 0
AreInOrder n [] = ⊤
AreInOrder n (e ∷ es) = (n ≤ e.at) × AreInOrder e.at es

-- so many events a scenario has at most
abbrev pub most_events : ℕ
most_events = 65_536

-- a file's shape and its lines
abbrev pub file_opening : List ℕ → Opening
file_opening bytes = opening_of (lines_of bytes)

-- the bytes are a file of these events, which are for boards of its shape
pub record IsScenarioFile (bytes : List ℕ) (es : EventList) : Type 0 where
  pub shape : es.shape ≡ (file_opening bytes).shape
  pub lines : Tell es.shape.inputs (file_opening bytes).lines es.list
  pub order : AreInOrder 0 es.list
  pub few : length es.list ≤ most_events
