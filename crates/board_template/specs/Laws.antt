-- Laws of the devices, in the words of those who use them.
use Rattle.std.specs.Prelude.{◌≡◌, ℕ, ◌+◌, ◌≤◌, List, [], ◌∷◌, ◌++◌, length, take, drop, sum, None, Some, nat_le, if◌then◌else◌}
use Rattle.device_model.specs.declared.stimulus.Stimulus.TheVariants.{Tick}
use Rattle.device_model.specs.Meanings.{Meanings}
use Rattle.device_model.specs.WordRegisters.{word_device}
use Rattle.device_model.specs.Laws.{StandsAt}
use Rattle.board_devices.specs.Uart.{IsUart, uart, sent_of}
use Rattle.board_devices.specs.Laws.{bytes_read}
use Rattle.board_template.specs.Alarm.{IsAlarm, alarm, time_of, wake_of}
use Rattle.board_template.specs.Flash.{IsFlash, flash, place_of, contents_of}
use Rattle.board_template.specs.Watchdog.{IsWatchdog, watchdog, left_of}
use Rattle.board_template.specs.Template.{template_of}

-- the state after these counts of time came, one after another
abbrev pub after_counts : Meanings → List ℕ → List ℕ → List ℕ
after_counts device [] s = s
after_counts device (count ∷ counts) s = after_counts device counts (device.after_stimulus s (Tick count))

-- in however many pieces time comes, the Alarm's line is high exactly where it has come to the time to wake
abbrev pub AlarmWakesInTime : Type 0
AlarmWakesInTime = (s counts : List ℕ) → IsAlarm s
    → alarm.lines (after_counts (word_device alarm) counts s) ≡ nat_le (wake_of s) (time_of s + sum counts) ∷ []

-- and the Watchdog has halted the board exactly where nothing is left
abbrev pub WatchdogHaltsInTime : Type 0
WatchdogHaltsInTime = (s counts : List ℕ) → IsWatchdog s
    → watchdog.halted (after_counts (word_device watchdog) counts s) ≡ (if nat_le (left_of s) (sum counts) then Some 1 else None)

-- loads of the first register give the Flash's bytes from the place on, in order
abbrev pub FlashIsReadInOrder : Type 0
FlashIsReadInOrder = (s : List ℕ) (n : ℕ) → IsFlash s → place_of s + n ≤ length (contents_of s)
    → bytes_read (word_device flash) n s ≡ take n (drop (place_of s) (contents_of s))

-- each device has 4,096 offsets, and the lines, the output and the halt are these
pub record AreTemplate (all : Meanings) : Type 0 where
  pub uart_at : (a f w : List ℕ) → StandsAt all (word_device uart) 0x0000 0x1000 (λ u. template_of u a f w)
  pub alarm_at : (u f w : List ℕ) → StandsAt all (word_device alarm) 0x1000 0x1000 (λ a. template_of u a f w)
  pub flash_at : (u a w : List ℕ) → StandsAt all (word_device flash) 0x2000 0x1000 (λ f. template_of u a f w)
  pub watchdog_at : (u a f : List ℕ) → StandsAt all (word_device watchdog) 0x3000 0x1000 (λ w. template_of u a f w)
  pub lines : (u a f w : List ℕ) → all.lines (template_of u a f w) ≡ uart.lines u ++ alarm.lines a
  pub halted : (u a f w : List ℕ) → all.halted (template_of u a f w) ≡ watchdog.halted w
  pub output : (u a f w : List ℕ) → IsUart u → all.output_of (template_of u a f w) ≡ sent_of u
