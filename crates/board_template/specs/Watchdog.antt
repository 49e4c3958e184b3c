-- The Watchdog, which halts the board unless it is fed.
--
-- | offset | load | store        |
-- | 0      | left | left = value |
--
-- Counts of time are taken from what is left. Where nothing is left the board is halted with code 1.
use Rattle.std.specs.Prelude.{◌≡◌, ℕ, ◌-◌, ◌^◌, ◌<◌, ◌==◌, List, [], ◌∷◌, None, Some, slice_index, if◌then◌else◌}
use Rattle.device_model.specs.declared.stimulus.Stimulus.{Stimulus}
use Rattle.device_model.specs.declared.stimulus.Stimulus.TheVariants.{Receive, Pins, Tick}
use Rattle.device_model.specs.WordRegisters.{WordRegisters}

-- the state is what is left
abbrev pub left_of : List ℕ → ℕ
left_of s = slice_index s 0

-- the states that it can be in
pub record IsWatchdog (s : List ℕ) : Type 0 where
  pub listed : s ≡ left_of s ∷ []
  pub left : left_of s < 2 ^ 32

abbrev pub watchdog_after : List ℕ → Stimulus → List ℕ
watchdog_after s (Receive byte) = s
watchdog_after s (Pins pins) = s
watchdog_after s (Tick n) = (left_of s - n) ∷ []

abbrev pub watchdog : WordRegisters
watchdog = record {
  IsState = IsWatchdog;
  end = 4;
  loads = λ s. (0x0, left_of s) ∷ [];
  load_changes = λ s. [];
  stores = λ s value. (0x0, value ∷ []) ∷ [];
  after_stimulus = watchdog_after;
  lines = λ s. [];
  halted = λ s. if left_of s == 0 then Some 1 else None;
  output_of = λ s. [];
}
