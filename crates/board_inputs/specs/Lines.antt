-- What a line of a scenario says, read from its front. Inputs have numbers below a bound.
use Rattle.std.specs.Prelude.{ℕ, List, nat_eq, Option, Some, None, option_map, option_and_then, if◌then◌else◌, codes}
use Rattle.std.specs.Str.{bytes_eq}
use Rattle.device_model.specs.declared.stimulus.Stimulus.{Stimulus}
use Rattle.device_model.specs.declared.stimulus.Stimulus.TheVariants.{Receive, Pins, Tick}
use Rattle.hart_board.specs.declared.event.Event.{Event}
use Rattle.hart_board.specs.declared.what.What.{What}
use Rattle.hart_board.specs.declared.what.What.TheVariants.{Line, Device}
use Rattle.hart_words.specs.Cuts.{cut}
use Rattle.board_inputs.specs.Numbers.{number_upto}
use Rattle.board_inputs.specs.Opening.{is_passed}
use Rattle.board_inputs.specs.Spelling.{is_open}
use Rattle.board_inputs.specs.declared.line_meaning.LineMeaning.{LineMeaning}
use Rattle.board_inputs.specs.declared.line_meaning.LineMeaning.TheVariants.{Passed, Bad, Told}

abbrev pub tick_of : ℕ → Option Stimulus
tick_of n = if nat_eq n 0 then None else Some (Tick n)

-- what comes to the device, by its name and the text of its number
unfoldable pub stimulus_named : List ℕ → List ℕ → Option Stimulus
stimulus_named name text =
    if bytes_eq name (codes "rx") then option_map (λ n. Receive n) (number_upto 255 text)
    else (if bytes_eq name (codes "pins") then option_map (λ n. Pins n) (number_upto 4_294_967_295 text)
    else (if bytes_eq name (codes "tick") then option_and_then tick_of (number_upto 65_535 text) else None))

abbrev pub line_of : ℕ → ℕ → ℕ → Option What
line_of inputs input value = if is_open inputs input then Some (Line input (nat_eq value 1)) else None

abbrev pub line_from : ℕ → Option ℕ → Option ℕ → Option What
line_from inputs (Some input) (Some value) = line_of inputs input value
line_from inputs _ _ = None

-- a change of an input's line, by its name and the texts of its two numbers
unfoldable pub line_named : ℕ → List ℕ → List ℕ → List ℕ → Option What
line_named inputs name first second =
    if bytes_eq name (codes "line") then line_from inputs (number_upto inputs first) (number_upto 1 second) else None

-- what follows an event's name
abbrev pub what_after : ℕ → List ℕ → List ℕ × Option (List ℕ) → Option What
what_after inputs name (first, None) = option_map (λ s. Device s) (stimulus_named name first)
what_after inputs name (first, Some second) = line_named inputs name first second

-- what follows an event's count
abbrev pub what_of : ℕ → List ℕ × Option (List ℕ) → Option What
what_of inputs (name, None) = None
what_of inputs (name, Some numbers) = what_after inputs name (cut 32 numbers)

abbrev pub event_from : Option ℕ → Option What → Option Event
event_from (Some at) (Some what) = Some (record { at = at; what = what })
event_from _ _ = None

abbrev pub event_parts : ℕ → List ℕ × Option (List ℕ) → Option Event
event_parts inputs (count, None) = None
event_parts inputs (count, Some rest) = event_from (number_upto 1_000_000_000 count) (what_of inputs (cut 32 rest))

-- the event that a line spells
unfoldable pub event_of : ℕ → List ℕ → Option Event
event_of inputs line = event_parts inputs (cut 32 line)

abbrev pub told_or_bad : Option Event → LineMeaning
told_or_bad None = Bad
told_or_bad (Some e) = Told e

unfoldable pub meaning_of : ℕ → List ℕ → LineMeaning
meaning_of inputs line = if is_passed line then Passed else told_or_bad (event_of inputs line)

-- a fact of the event that a line tells
abbrev pub IfTold : LineMeaning → (Event → Type 0) → Type 0
IfTold (Told e) P = P e
IfTold _ P = Unit {0}
