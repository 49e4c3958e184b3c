-- The Alarm meets the laws of `Device`.
use Rattle.std.proofs.Common.{ℕ, ◌^◌, ◌<◌, List, arith, refl}
use Rattle.device_model.specs.declared.stimulus.Stimulus.{Stimulus}
use Rattle.device_model.specs.declared.stimulus.Stimulus.TheVariants.{Receive, Pins, Tick}
use Rattle.device_model.specs.Meanings.{Keeps, IsSound}
use Rattle.device_model.specs.WordRegisters.{word_device}
use Rattle.device_model.specs.Sound.Window.{keeps_same}
use Rattle.device_model.specs.Sound.WordRegisters.{row, word_device_is_sound}
use Rattle.board_template.specs.Alarm.{IsAlarm, alarm, alarm_list, alarm_after}

alarm_keeps : (s : List ℕ) (time wake : ℕ) → time < 2 ^ 32 → wake < 2 ^ 32 → Keeps (word_device alarm) s (alarm_list time wake)
alarm_keeps s time wake t w = record { is_state = record { listed = refl; time = t; wake = w }; low = refl; high = refl; line_count = refl }

stimulus_keeps : (s : List ℕ) (what : Stimulus) → IsAlarm s → Keeps (word_device alarm) s (alarm_after s what)
stimulus_keeps s (Receive byte) st = keeps_same (word_device alarm) s st
stimulus_keeps s (Pins pins) st = keeps_same (word_device alarm) s st
stimulus_keeps s (Tick n) st = alarm_keeps s _ _ (omega arith) st.wake

pub alarm_is_sound : IsSound (word_device alarm)
alarm_is_sound = word_device_is_sound alarm record {
  loads_fit = λ s st. row (omega arith) st.time (row (omega arith) st.wake tt);
  changes_loaded = λ s at st e. refl;
  loads_keep = λ s st. tt;
  stores_keep = λ s value st f.
      row (omega arith) (alarm_keeps s _ _ f st.wake)
      (row (omega arith) (alarm_keeps s _ _ st.time f) tt);
  stimulus_keeps = λ s what st w. stimulus_keeps s what st;
}
