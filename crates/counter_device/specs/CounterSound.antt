-- The Counter meets the laws of `Device`.
use Rattle.std.proofs.Common.{ℕ, ◌^◌, ◌<◌, List, [], ◌∷◌, arith, refl}
use Rattle.device_model.specs.declared.stimulus.Stimulus.{Stimulus}
use Rattle.device_model.specs.declared.stimulus.Stimulus.TheVariants.{Receive, Pins, Tick}
use Rattle.device_model.specs.Meanings.{Keeps, IsSound}
use Rattle.device_model.specs.WordRegisters.{word_device}
use Rattle.device_model.specs.Sound.Window.{keeps_same}
use Rattle.device_model.specs.Sound.WordRegisters.{row, word_device_is_sound}
use Rattle.counter_device.specs.Counter.{IsCounter, counter, counter_after, count_of}

-- a state with another count is a state, and keeps what no call changes
counter_keeps : (s : List ℕ) (count : ℕ) → count < 2 ^ 32 → Keeps (word_device counter) s (count ∷ [])
counter_keeps s count fits = record { is_state = record { listed = refl; count = fits }; low = refl; high = refl; line_count = refl }

stimulus_keeps : (s : List ℕ) (what : Stimulus) → IsCounter s → Keeps (word_device counter) s (counter_after s what)
stimulus_keeps s (Receive byte) st = counter_keeps s _ (omega arith)
stimulus_keeps s (Pins pins) st = keeps_same (word_device counter) s st
stimulus_keeps s (Tick n) st = keeps_same (word_device counter) s st

pub counter_is_sound : IsSound (word_device counter)
counter_is_sound = word_device_is_sound counter record {
  loads_fit = λ s st. row (omega arith) st.count tt;
  changes_loaded = λ s at st e. refl;
  loads_keep = λ s st. tt;
  stores_keep = λ s value st fits. row (omega arith) (counter_keeps s value fits) tt;
  stimulus_keeps = λ s what st fits. stimulus_keeps s what st;
}
