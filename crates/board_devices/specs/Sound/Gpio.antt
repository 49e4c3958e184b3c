-- The Gpio meets the laws.
use Rattle.std.proofs.Common.{ℕ, ◌^◌, ◌<◌, List, arith, refl}
use Rattle.device_model.specs.declared.stimulus.Stimulus.{Stimulus}
use Rattle.device_model.specs.declared.stimulus.Stimulus.TheVariants.{Receive, Pins, Tick}
use Rattle.device_model.specs.Stimulus.{IsStimulus}
use Rattle.device_model.specs.Meanings.{Keeps, IsSound}
use Rattle.device_model.specs.WordRegisters.{word_device}
use Rattle.device_model.specs.Sound.Window.{keeps_same}
use Rattle.device_model.specs.Sound.WordRegisters.{row, word_device_is_sound}
use Rattle.board_devices.specs.Gpio.{IsGpio, gpio, gpio_list, gpio_after}

gpio_keeps : (s : List ℕ) (pins out mask : ℕ) → pins < 2 ^ 32 → out < 2 ^ 32 → mask < 2 ^ 32 → Keeps (word_device gpio) s (gpio_list pins out mask)
gpio_keeps s pins out mask p o m = record { is_state = record { listed = refl; pins = p; out = o; mask = m }; low = refl; high = refl; line_count = refl }

stimulus_keeps : (s : List ℕ) (what : Stimulus) → IsGpio s → IsStimulus what → Keeps (word_device gpio) s (gpio_after s what)
stimulus_keeps s (Receive byte) st w = keeps_same (word_device gpio) s st
stimulus_keeps s (Pins pins) st w = gpio_keeps s pins _ _ w st.out st.mask
stimulus_keeps s (Tick n) st w = keeps_same (word_device gpio) s st

pub gpio_is_sound : IsSound (word_device gpio)
gpio_is_sound = word_device_is_sound gpio record {
  loads_fit = λ s st. row (omega arith) st.pins (row (omega arith) st.out (row (omega arith) st.mask tt));
  changes_loaded = λ s at st e. refl;
  loads_keep = λ s st. tt;
  stores_keep = λ s value st f. row (omega arith) (gpio_keeps s _ _ _ st.pins f st.mask) (row (omega arith) (gpio_keeps s _ _ _ st.pins st.out f) tt);
  stimulus_keeps = stimulus_keeps;
}
