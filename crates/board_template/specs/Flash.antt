-- The Flash, bytes that are read one after another.
--
-- | offset | load                                                                      | store                                         |
-- | 0      | the byte at the place, and the place moves on by 1; 0 where none is left  |                                               |
-- | 4      | bit 0: a byte is left                                                     |                                               |
-- | 8      | place                                                                     | place = value, or the end where that is less  |
use Rattle.std.specs.Prelude.{◌≡◌, ℕ, ◌+◌, ◌^◌, ◌<◌, ◌≤◌, List, [], ◌∷◌, All, None, length, min, nat_lt, slice_get, slice_index, unwrap_or}
use Rattle.device_model.specs.WordRegisters.{WordRegisters}
use Rattle.hart_words.specs.Bits.{bit}

-- the state, the place and then the contents, and its parts
abbrev pub flash_list : ℕ → List ℕ → List ℕ
flash_list place contents = place ∷ contents

abbrev pub place_of : List ℕ → ℕ
place_of s = slice_index s 0

abbrev pub contents_of : List ℕ → List ℕ
contents_of [] = []
contents_of (place ∷ contents) = contents

-- the states that it can be in
pub record IsFlash (s : List ℕ) : Type 0 where
  pub listed : s ≡ flash_list (place_of s) (contents_of s)
  pub place : place_of s ≤ length (contents_of s)
  pub bytes : All (λ byte. byte < 2 ^ 8) (contents_of s)
  pub few : length (contents_of s) ≤ 65536

-- at another place, which is the end at most
abbrev pub moved_to : List ℕ → ℕ → List ℕ
moved_to s place = flash_list (min place (length (contents_of s))) (contents_of s)

abbrev pub flash : WordRegisters
flash = record {
  IsState = IsFlash;
  end = 0xC;
  loads = λ s. (0x0, unwrap_or (slice_get (contents_of s) (place_of s)) 0)
      ∷ (0x4, bit (nat_lt (place_of s) (length (contents_of s))))
      ∷ (0x8, place_of s)
      ∷ [];
  load_changes = λ s. (0x0, moved_to s (place_of s + 1)) ∷ [];
  stores = λ s value. (0x8, moved_to s value) ∷ [];
  after_stimulus = λ s what. s;
  lines = λ s. [];
  halted = λ s. None;
  output_of = λ s. [];
}
