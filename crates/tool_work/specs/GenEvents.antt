-- The events that `gen` makes of a number: short pulses on five lines, by a sequence of numbers.
use Rattle.std.specs.Prelude.{ℕ, zero, suc, ◌+◌, ◌*◌, ◌/◌, ◌%◌, ◌^◌, List, [], ◌∷◌, ◌++◌, true, false, slice_index}
use Rattle.clic_regs.specs.Shape.{plain_shape}
use Rattle.hart_board.specs.Event.{EventList}
use Rattle.hart_board.specs.declared.event.Event.{Event}
use Rattle.hart_board.specs.declared.what.What.TheVariants.{Line}

-- the number that follows another
abbrev pub next_number : ℕ → ℕ
next_number x = (1_664_525 * x + 1_013_904_223) % 2 ^ 32

-- after how many bodies pulse e comes, whose number is x
abbrev pub pulse_at : ℕ → ℕ → ℕ
pulse_at e x = 30 + 8 * e + x / 2 ^ 24 % 8

-- and on which line
abbrev pub pulse_input : ℕ → ℕ
pulse_input x = slice_index (3 ∷ 5 ∷ 7 ∷ 9 ∷ 11 ∷ []) (x / 2 ^ 16 % 5)

-- the line rises, and falls at once
abbrev pub pulse : ℕ → ℕ → List Event
pulse e x = record { at = pulse_at e x; what = Line (pulse_input x) true } ∷ record { at = pulse_at e x; what = Line (pulse_input x) false } ∷ []

-- so many pulses, from pulse e on, whose numbers follow x
unfoldable pub pulses_from : ℕ → ℕ → ℕ → List Event
pulses_from zero e x = []
pulses_from (suc n) e x = pulse e (next_number x) ++ pulses_from n (e + 1) (next_number x)

-- as many pulses as the number says, whose numbers follow it; for a board with 64 inputs and 8 control bits
unfoldable pub gen_events : ℕ → EventList
gen_events n = record { shape = plain_shape; list = pulses_from n 0 n }
