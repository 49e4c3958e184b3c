-- The lines of a scenario: what is passed over, and how an event is spelled.
use Rattle.std.specs.Prelude.{◌≡◌, ℕ, ◌<◌, ◌≤◌, List, [], ◌∷◌, ◌++◌, true, Bool, ◌&&◌, nat_lt, codes, decimal, if◌then◌else◌, ⊤}
use Rattle.device_model.specs.declared.stimulus.Stimulus.{Stimulus}
use Rattle.device_model.specs.declared.stimulus.Stimulus.TheVariants.{Receive, Pins, Tick}
use Rattle.clic_regs.specs.Shape.{ClicShape, IsShape}
use Rattle.hart_board.specs.Event.{is_free_input}
use Rattle.hart_board.specs.declared.event.Event.{Event}
use Rattle.hart_board.specs.declared.what.What.{What}
use Rattle.hart_board.specs.declared.what.What.TheVariants.{Line, Device}

-- the line is empty, or begins with #
abbrev pub IsPassed : List ℕ → Type 0
IsPassed [] = ⊤
IsPassed (c ∷ cs) = c ≡ 35

-- each of the lines is
abbrev pub ArePassed : List (List ℕ) → Type 0
ArePassed [] = ⊤
ArePassed (line ∷ lines) = IsPassed line × ArePassed lines

-- a text, a space and what follows
abbrev pub spaced : List ℕ → List ℕ → List ℕ
spaced first rest = first ++ 32 ∷ rest

abbrev pub stimulus_text : Stimulus → List ℕ
stimulus_text (Receive byte) = spaced (codes "rx") (decimal byte)
stimulus_text (Pins pins) = spaced (codes "pins") (decimal pins)
stimulus_text (Tick count) = spaced (codes "tick") (decimal count)

abbrev pub what_text : What → List ℕ
what_text (Line input high) = spaced (codes "line") (spaced (decimal input) (decimal (if high then 1 else 0)))
what_text (Device stimulus) = stimulus_text stimulus

-- the count, and what comes then
unfoldable pub event_text : Event → List ℕ
event_text e = spaced (decimal e.at) (what_text e.what)

-- a line that says the shape of the controller
abbrev pub shape_text : ClicShape → List ℕ
shape_text s = spaced (codes "clic") (spaced (decimal s.inputs) (decimal s.bits))

-- the line says the shape
pub record SaysShape (line : List ℕ) (s : ClicShape) : Type 0 where
  pub shape : IsShape s
  pub text : line ≡ shape_text s

-- the input is below the bound, and no device's
abbrev pub is_open : ℕ → ℕ → Bool
is_open inputs input = nat_lt input inputs && is_free_input input

-- the numbers of an event are those that a line may have, where inputs have numbers below a bound
abbrev pub HasStimulus : Stimulus → Type 0
HasStimulus (Receive byte) = byte ≤ 255
HasStimulus (Pins pins) = pins ≤ 4_294_967_295
HasStimulus (Tick count) = (0 < count) × (count ≤ 65_535)

abbrev pub HasWhat : ℕ → What → Type 0
HasWhat inputs (Line input high) = is_open inputs input ≡ true
HasWhat inputs (Device stimulus) = HasStimulus stimulus

-- the line spells the event
pub record Spells (inputs : ℕ) (line : List ℕ) (e : Event) : Type 0 where
  pub at : e.at ≤ 1_000_000_000
  pub what : HasWhat inputs e.what
  pub text : line ≡ event_text e
