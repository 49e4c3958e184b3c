-- The Halter, which halts the board by a store.
use Rattle.std.specs.Prelude.{ℕ, ◌^◌, ◌<◌, ◌≤◌, List, [], ◌∷◌, length, Option, None, Some, slice_index}
use Rattle.device_model.specs.WordRegisters.{WordRegisters}

-- the state is empty, or the code
abbrev pub code_of : List ℕ → Option ℕ
code_of [] = None
code_of (code ∷ rest) = Some code

-- the states that it can be in
pub record IsHalter (s : List ℕ) : Type 0 where
  pub listed : length s ≤ 1
  pub code : slice_index s 0 < 2 ^ 32

-- | offset | load | store                        |
-- | 0      |      | halted with the value as code |
abbrev pub halter : WordRegisters
halter = record {
  IsState = IsHalter;
  end = 4;
  loads = λ s. [];
  load_changes = λ s. [];
  stores = λ s value. (0x0, value ∷ []) ∷ [];
  after_stimulus = λ s what. s;
  lines = λ s. [];
  halted = code_of;
  output_of = λ s. [];
}
