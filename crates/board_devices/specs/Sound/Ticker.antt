-- The Ticker meets the laws.
use Rattle.std.proofs.Common.{◌≢◌, ℕ, ◌+◌, ◌^◌, ◌<◌, List, Bool, true, false, cond, arith, refl}
use Rattle.std.specs.Prelude.{nat_le}
use Rattle.std.proofs.lemmas.Bool.Decides.{nat_tests}
use Rattle.device_model.specs.declared.stimulus.Stimulus.{Stimulus}
use Rattle.device_model.specs.declared.stimulus.Stimulus.TheVariants.{Receive, Pins, Tick}
use Rattle.device_model.specs.Meanings.{Keeps, IsSound}
use Rattle.device_model.specs.WordRegisters.{word_device}
use Rattle.device_model.specs.Sound.Window.{keeps_same}
use Rattle.device_model.specs.Sound.WordRegisters.{row, word_device_is_sound}
use Rattle.board_devices.specs.Ticker.{IsTicker, ticker, ticker_list, ticker_after, counted, count_of, period_of, flag_of}

ticker_keeps : (s : List ℕ) (count period enable flag : ℕ) → count < 2 ^ 32 → period < 2 ^ 32 → enable < 2 → flag < 2 → Keeps (word_device ticker) s (ticker_list count period enable flag)
ticker_keeps s count period enable flag c p e f = record { is_state = record { listed = refl; count = c; period = p; enable = e; flag = f }; low = refl; high = refl; line_count = refl }

raised_below : (b : Bool) (flag : ℕ) → flag < 2 → cond b 1 flag < 2
raised_below true flag l = omega arith
raised_below false flag l = l

tick_keeps : (s : List ℕ) (n : ℕ) → IsTicker s → Keeps (word_device ticker) s (ticker_after s (Tick n))
tick_keeps s n st =
    let same = keeps_same (word_device ticker) s st in
    let raised = raised_below (nat_le (period_of s) (count_of s + n)) (flag_of s) st.flag in
    let counts : period_of s ≢ 0 → Keeps (word_device ticker) s (counted s n) = λ some. ticker_keeps s _ _ _ _ (omega arith) st.period st.enable raised in
    grind (arith, nat_tests)

stimulus_keeps : (s : List ℕ) (what : Stimulus) → IsTicker s → Keeps (word_device ticker) s (ticker_after s what)
stimulus_keeps s (Receive byte) st = keeps_same (word_device ticker) s st
stimulus_keeps s (Pins pins) st = keeps_same (word_device ticker) s st
stimulus_keeps s (Tick n) st = tick_keeps s n st

pub ticker_is_sound : IsSound (word_device ticker)
ticker_is_sound = word_device_is_sound ticker record {
  loads_fit = λ s st. row (omega arith) st.count (row (omega arith) st.period (row (omega arith) (omega (arith, st.enable)) (row (omega arith) (omega (arith, st.flag)) tt)));
  changes_loaded = λ s at st e. refl;
  loads_keep = λ s st. tt;
  stores_keep = λ s value st f.
      row (omega arith) (ticker_keeps s _ _ _ _ f st.period st.enable st.flag)
      (row (omega arith) (ticker_keeps s _ _ _ _ st.count f st.enable st.flag)
      (row (omega arith) (ticker_keeps s _ _ _ _ st.count st.period (omega arith) st.flag)
      (row (omega arith) (ticker_keeps s _ _ _ _ st.count st.period st.enable (omega arith)) tt)));
  stimulus_keeps = λ s what st w. stimulus_keeps s what st;
}
