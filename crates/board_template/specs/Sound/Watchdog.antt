-- The Watchdog meets the laws of `Device`.
use Rattle.std.proofs.Common.{ℕ, ◌^◌, ◌<◌, List, [], ◌∷◌, arith, refl}
use Rattle.device_model.specs.declared.stimulus.Stimulus.{Stimulus}
use Rattle.device_model.specs.declared.stimulus.Stimulus.TheVariants.{Receive, Pins, Tick}
use Rattle.device_model.specs.Meanings.{Keeps, IsSound}
use Rattle.device_model.specs.WordRegisters.{word_device}
use Rattle.device_model.specs.Sound.Window.{keeps_same}
use Rattle.device_model.specs.Sound.WordRegisters.{row, word_device_is_sound}
use Rattle.board_template.specs.Watchdog.{IsWatchdog, watchdog, watchdog_after}

watchdog_keeps : (s : List ℕ) (left : ℕ) → left < 2 ^ 32 → Keeps (word_device watchdog) s (left ∷ [])
watchdog_keeps s left f = record { is_state = record { listed = refl; left = f }; low = refl; high = refl; line_count = refl }

stimulus_keeps : (s : List ℕ) (what : Stimulus) → IsWatchdog s → Keeps (word_device watchdog) s (watchdog_after s what)
stimulus_keeps s (Receive byte) st = keeps_same (word_device watchdog) s st
stimulus_keeps s (Pins pins) st = keeps_same (word_device watchdog) s st
stimulus_keeps s (Tick n) st = watchdog_keeps s _ (omega (arith, st.left))

pub watchdog_is_sound : IsSound (word_device watchdog)
watchdog_is_sound = word_device_is_sound watchdog record {
  loads_fit = λ s st. row (omega arith) st.left tt;
  changes_loaded = λ s at st e. refl;
  loads_keep = λ s st. tt;
  stores_keep = λ s value st f. row (omega arith) (watchdog_keeps s value f) tt;
  stimulus_keeps = λ s what st w. stimulus_keeps s what st;
}
