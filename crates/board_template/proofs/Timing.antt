-- Time comes to the Alarm and to the Watchdog in pieces.
use Rattle.std.proofs.Common.{◌≡◌, ℕ, ◌+◌, ◌-◌, ◌^◌, ◌<◌, List, [], ◌∷◌, cond, arith, ap, ◌∙◌}
use Rattle.std.specs.Prelude.{min, sum, nat_le, Some, None}
use Rattle.std.proofs.lemmas.Bool.Decides.{nat_tests}
use Rattle.std.proofs.lemmas.List.Sums.{sum_by-cons}
use Rattle.device_model.specs.WordRegisters.{word_device}
use Rattle.board_template.specs.Alarm.{alarm, alarm_list, time_of, wake_of}
use Rattle.board_template.specs.Watchdog.{watchdog, left_of}
use Rattle.board_template.specs.Laws.{after_counts, AlarmWakesInTime, WatchdogHaltsInTime}

sum_of_more : (count : ℕ) (counts : List ℕ) → sum (count ∷ counts) ≡ count + sum counts
sum_of_more count counts = sum_by-cons (λ n. n) count counts

-- counts that come one after another, to an Alarm with this time
wakes : (time wake : ℕ) → time < 2 ^ 32 → wake < 2 ^ 32 → (counts : List ℕ) → alarm.lines (after_counts (word_device alarm) counts (alarm_list time wake)) ≡ nat_le wake (time + sum counts) ∷ []
wakes time wake t w [] = grind (arith, nat_tests)
wakes time wake t w (count ∷ counts) =
    wakes (min (time + count) (2 ^ 32 - 1)) wake (omega arith) w counts
    ∙ ap (λ b. b ∷ []) (grind (arith, nat_tests, sum_of_more count counts))

pub alarm_wakes_in_time : AlarmWakesInTime
alarm_wakes_in_time s counts st =
    ap (λ x. alarm.lines (after_counts (word_device alarm) counts x)) st.listed
    ∙ wakes (time_of s) (wake_of s) st.time st.wake counts

halts : (left : ℕ) (counts : List ℕ) → watchdog.halted (after_counts (word_device watchdog) counts (left ∷ [])) ≡ cond (nat_le left (sum counts)) (Some 1) None
halts left [] = grind (arith, nat_tests)
halts left (count ∷ counts) = halts (left - count) counts ∙ grind (arith, nat_tests, sum_of_more count counts)

pub watchdog_halts_in_time : WatchdogHaltsInTime
watchdog_halts_in_time s counts st =
    ap (λ x. watchdog.halted (after_counts (word_device watchdog) counts x)) st.listed
    ∙ halts (left_of s) counts
