-- The Ticker, which counts time up to a period.
use Rattle.std.specs.Prelude.{◌≡◌, ℕ, ◌+◌, ◌%◌, ◌^◌, ◌<◌, ◌==◌, List, [], ◌∷◌, None, if◌then◌else◌, nat_le, slice_index}
use Rattle.device_model.specs.declared.stimulus.Stimulus.{Stimulus}
use Rattle.device_model.specs.declared.stimulus.Stimulus.TheVariants.{Receive, Pins, Tick}
use Rattle.device_model.specs.WordRegisters.{WordRegisters}

-- the state
abbrev pub ticker_list : ℕ → ℕ → ℕ → ℕ → List ℕ
ticker_list count period enable flag = count ∷ period ∷ enable ∷ flag ∷ []

-- the parts of a state
abbrev pub count_of : List ℕ → ℕ
count_of s = slice_index s 0

abbrev pub period_of : List ℕ → ℕ
period_of s = slice_index s 1

abbrev pub enable_of : List ℕ → ℕ
enable_of s = slice_index s 2

abbrev pub flag_of : List ℕ → ℕ
flag_of s = slice_index s 3

-- the states that it can be in
pub record IsTicker (s : List ℕ) : Type 0 where
  pub listed : s ≡ ticker_list (count_of s) (period_of s) (enable_of s) (flag_of s)
  pub count : count_of s < 2 ^ 32
  pub period : period_of s < 2 ^ 32
  pub enable : enable_of s < 2
  pub flag : flag_of s < 2

-- n counts of time: at the period the flag rises, and the count begins again
abbrev pub counted : List ℕ → ℕ → List ℕ
counted s n = ticker_list ((count_of s + n) % period_of s) (period_of s) (enable_of s) (if nat_le (period_of s) (count_of s + n) then 1 else flag_of s)

-- time counts where the Ticker is enabled and has a period
abbrev pub ticker_after : List ℕ → Stimulus → List ℕ
ticker_after s (Receive byte) = s
ticker_after s (Pins pins) = s
ticker_after s (Tick n) = if enable_of s == 0 then s else if period_of s == 0 then s else counted s n

-- | offset | load   | store           |
-- | 0      | count  | count = value   |
-- | 4      | period | period = value  |
-- | 8      | enable | enable = bit 0  |
-- | C      | flag   | flag = 0        |
abbrev pub ticker : WordRegisters
ticker = record {
  IsState = IsTicker;
  end = 0x10;
  loads = λ s. (0x0, count_of s) ∷ (0x4, period_of s) ∷ (0x8, enable_of s) ∷ (0xC, flag_of s) ∷ [];
  load_changes = λ s. [];
  stores = λ s value. (0x0, ticker_list value (period_of s) (enable_of s) (flag_of s))
      ∷ (0x4, ticker_list (count_of s) value (enable_of s) (flag_of s))
      ∷ (0x8, ticker_list (count_of s) (period_of s) (value % 2) (flag_of s))
      ∷ (0xC, ticker_list (count_of s) (period_of s) (enable_of s) 0)
      ∷ [];
  after_stimulus = ticker_after;
  lines = λ s. (flag_of s == 1) ∷ [];
  halted = λ s. None;
  output_of = λ s. [];
}
