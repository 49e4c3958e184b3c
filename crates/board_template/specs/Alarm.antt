-- The Alarm, a timer whose line is high from a time on.
--
-- | offset | load | store        |
-- | 0      | time | time = value |
-- | 4      | wake | wake = value |
--
-- Counts of time are added to the time, which stops at 4,294,967,295. The line is high where the time is at least the time to wake.
use Rattle.std.specs.Prelude.{◌≡◌, ℕ, ◌+◌, ◌-◌, ◌^◌, ◌<◌, List, [], ◌∷◌, None, min, nat_le, slice_index}
use Rattle.device_model.specs.declared.stimulus.Stimulus.{Stimulus}
use Rattle.device_model.specs.declared.stimulus.Stimulus.TheVariants.{Receive, Pins, Tick}
use Rattle.device_model.specs.WordRegisters.{WordRegisters}

-- the state, and its parts
abbrev pub alarm_list : ℕ → ℕ → List ℕ
alarm_list time wake = time ∷ wake ∷ []

abbrev pub time_of : List ℕ → ℕ
time_of s = slice_index s 0

abbrev pub wake_of : List ℕ → ℕ
wake_of s = slice_index s 1

-- the states that it can be in
pub record IsAlarm (s : List ℕ) : Type 0 where
  pub listed : s ≡ alarm_list (time_of s) (wake_of s)
  pub time : time_of s < 2 ^ 32
  pub wake : wake_of s < 2 ^ 32

abbrev pub alarm_after : List ℕ → Stimulus → List ℕ
alarm_after s (Receive byte) = s
alarm_after s (Pins pins) = s
alarm_after s (Tick n) = alarm_list (min (time_of s + n) (2 ^ 32 - 1)) (wake_of s)

abbrev pub alarm : WordRegisters
alarm = record {
  IsState = IsAlarm;
  end = 8;
  loads = λ s. (0x0, time_of s) ∷ (0x4, wake_of s) ∷ [];
  load_changes = λ s. [];
  stores = λ s value. (0x0, alarm_list value (wake_of s)) ∷ (0x4, alarm_list (time_of s) value) ∷ [];
  after_stimulus = alarm_after;
  lines = λ s. nat_le (wake_of s) (time_of s) ∷ [];
  halted = λ s. None;
  output_of = λ s. [];
}
