-- The Counter, which counts the bytes that come. Its state is the count.
use Rattle.std.specs.Prelude.{◌≡◌, ℕ, ◌+◌, ◌-◌, ◌^◌, ◌<◌, ◌==◌, List, [], ◌∷◌, None, Some, min, not, slice_index, if◌then◌else◌}
use Rattle.device_model.specs.declared.stimulus.Stimulus.{Stimulus}
use Rattle.device_model.specs.declared.stimulus.Stimulus.TheVariants.{Receive, Pins, Tick}
use Rattle.device_model.specs.WordRegisters.{WordRegisters}

abbrev pub count_of : List ℕ → ℕ
count_of s = slice_index s 0

pub record IsCounter (s : List ℕ) : Type 0 where
  pub listed : s ≡ count_of s ∷ []
  pub count : count_of s < 2 ^ 32

-- one more for each byte, up to the greatest word
abbrev pub counter_after : List ℕ → Stimulus → List ℕ
counter_after s (Receive byte) = min (count_of s + 1) (2 ^ 32 - 1) ∷ []
counter_after s (Pins pins) = s
counter_after s (Tick n) = s

-- | offset | load  | store         |
-- | 0      | count | count = value |
--
-- The line is high where the count isn't 0. At the greatest count the board is halted with code 1.
abbrev pub counter : WordRegisters
counter = record {
  IsState = IsCounter;
  end = 4;
  loads = λ s. (0x0, count_of s) ∷ [];
  load_changes = λ s. [];
  stores = λ s value. (0x0, value ∷ []) ∷ [];
  after_stimulus = counter_after;
  lines = λ s. not (count_of s == 0) ∷ [];
  halted = λ s. if count_of s == 2 ^ 32 - 1 then Some 1 else None;
  output_of = λ s. [];
}
