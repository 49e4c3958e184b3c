-- What reading a scenario line by line gives: its events, or the first thing that is wrong, with its line.
use Rattle.std.specs.Prelude.{◌≡◌, ℕ, ◌+◌, List, [], ◌∷◌, ◌++◌, length, nat_lt, nat_le, if◌then◌else◌, Result, Ok, Err}
use Rattle.clic_regs.specs.Shape.{ClicShape}
use Rattle.hart_board.specs.Event.{EventList, last_count}
use Rattle.hart_board.specs.declared.event.Event.{Event}
use Rattle.hart_words.specs.InTurn.{◌>>=◌}
use Rattle.board_inputs.specs.ScenarioFile.{file_opening, most_events}
use Rattle.board_inputs.specs.Lines.{meaning_of}
use Rattle.board_inputs.specs.declared.line_meaning.LineMeaning.{LineMeaning}
use Rattle.board_inputs.specs.declared.line_meaning.LineMeaning.TheVariants.{Passed, Bad, Told}
use Rattle.board_inputs.specs.declared.scenario_why.ScenarioWhy.{ScenarioWhy}
use Rattle.board_inputs.specs.declared.scenario_why.ScenarioWhy.TheVariants.{BadLine, OutOfOrder, TooMany}
use Rattle.board_inputs.specs.declared.scenario_error.ScenarioError.{ScenarioError}
use Rattle.board_inputs.specs.declared.scenario_error.ScenarioError.TheVariants.{Memory, Refused}

-- what is wrong, and in which line
pub record Fault : Type 0 where
  pub line : ℕ
  pub why : ScenarioWhy

abbrev pub in_line : ℕ → ScenarioWhy → Result (List Event) Fault
in_line n why = Err (record { line = n; why = why })

-- the events with one more, which stands in line n
abbrev pub with_event : Event → ℕ → List Event → Result (List Event) Fault
with_event e n before =
    if nat_lt e.at (last_count 0 before) then in_line n OutOfOrder
    else (if nat_le most_events (length before) then in_line n TooMany else Ok (before ++ e ∷ []))

abbrev pub with_meaning : LineMeaning → ℕ → List Event → Result (List Event) Fault
with_meaning Passed n before = Ok before
with_meaning Bad n before = in_line n BadLine
with_meaning (Told e) n before = with_event e n before

-- the events after line n
unfoldable pub with_line : ℕ → List ℕ → ℕ → List Event → Result (List Event) Fault
with_line inputs line n before = with_meaning (meaning_of inputs line) n before

-- the events after these lines, the first of which is line n
unfoldable pub with_lines : ℕ → List (List ℕ) → ℕ → List Event → Result (List Event) Fault
with_lines inputs [] n before = Ok before
with_lines inputs (line ∷ lines) n before = with_line inputs line n before >>= λ es. with_lines inputs lines (n + 1) es

-- the events that were read are for boards of a shape
abbrev pub in_shape : ClicShape → Result (List Event) Fault → Result EventList Fault
in_shape s (Ok es) = Ok (record { shape = s; list = es })
in_shape s (Err f) = Err f

unfoldable pub scenario_of : List ℕ → Result EventList Fault
scenario_of bytes = in_shape (file_opening bytes).shape (with_lines (file_opening bytes).shape.inputs (file_opening bytes).lines 1 [])

-- ---- what a function answers

-- it refused what reading refuses, or memory was wanting
abbrev pub Fails : {A : Type 0} → ScenarioError → Result A Fault → Type 0
Fails Memory read = Unit {0}
Fails (Refused line why) read = read ≡ Err (record { line = line; why = why })

-- it answered what reading gives, unless memory was wanting
abbrev pub Gives : Result EventList ScenarioError → Result EventList Fault → Type 0
Gives (Ok x) read = read ≡ Ok x
Gives (Err e) read = Fails e read

-- it made the events what reading gives; after an Err they are as they were
abbrev pub Becomes : List Event → List Event → Result (Unit {0}) ScenarioError → Result (List Event) Fault → Type 0
Becomes old new (Ok done) read = read ≡ Ok new
Becomes old new (Err e) read = (new ≡ old) × Fails e read
