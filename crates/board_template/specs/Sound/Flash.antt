-- The Flash meets the laws of `Device`.
use Rattle.std.proofs.Common.{◌≡◌, ℕ, ◌+◌, ◌^◌, ◌<◌, ◌≤◌, ◌⊎◌, List, None, All, length, inl, inr, arith, refl}
use Rattle.std.specs.Prelude.{nat_lt, slice_get, unwrap_or}
use Rattle.std.proofs.lemmas.Bool.Decides.{nat_tests}
use Rattle.std.proofs.lemmas.Option.{unwrap_or-slice_get, slice_get_past}
use Rattle.device_model.specs.Meanings.{Keeps, IsSound}
use Rattle.device_model.specs.WordRegisters.{row_at, word_device}
use Rattle.device_model.specs.Sound.Window.{keeps_same}
use Rattle.device_model.specs.Sound.WordRegisters.{row, word_device_is_sound}
use Rattle.hart_words.proofs.Bits.{bit_below}
use Rattle.board_template.specs.Flash.{IsFlash, flash, place_of, contents_of, moved_to}

-- the Flash at another place
moved_keeps : (s : List ℕ) (place : ℕ) → IsFlash s → Keeps (word_device flash) s (moved_to s place)
moved_keeps s place st = record {
  is_state = record { listed = refl; place = omega arith; bytes = st.bytes; few = st.few };
  low = refl;
  high = refl;
  line_count = refl;
}

-- the byte at an offset is a word, and so is 0 past the end
byte_or_none : (bytes : List ℕ) (k : ℕ) → All (λ byte. byte < 2 ^ 8) bytes → (k < length bytes) ⊎ (length bytes ≤ k) → unwrap_or (slice_get bytes k) 0 < 2 ^ 32
byte_or_none bytes k all (inl l) = rw (unwrap_or-slice_get bytes k 0) (omega (arith, all k 0 l))
byte_or_none bytes k all (inr l) = rw (slice_get_past bytes k l) (omega arith)

inside_or_past : (k n : ℕ) → (k < n) ⊎ (n ≤ k)
inside_or_past k n = grind (arith, nat_tests)

byte_fits : (bytes : List ℕ) (k : ℕ) → All (λ byte. byte < 2 ^ 8) bytes → unwrap_or (slice_get bytes k) 0 < 2 ^ 32
byte_fits bytes k all = byte_or_none bytes k all (inside_or_past k (length bytes))

-- the one register whose load changes the state is loaded
changes_loaded : (s : List ℕ) (at : ℕ) → row_at (flash.loads s) at ≡ None → row_at (flash.load_changes s) at ≡ None
changes_loaded s at e = grind (arith, nat_tests)

pub flash_is_sound : IsSound (word_device flash)
flash_is_sound = word_device_is_sound flash record {
  loads_fit = λ s st.
      row (omega arith) (byte_fits (contents_of s) (place_of s) st.bytes)
      (row (omega arith) (omega (arith, bit_below (nat_lt (place_of s) (length (contents_of s)))))
      (row (omega arith) (omega (arith, st.place, st.few)) tt));
  changes_loaded = λ s at st e. changes_loaded s at e;
  loads_keep = λ s st. (moved_keeps s (place_of s + 1) st, tt);
  stores_keep = λ s value st f. row (omega arith) (moved_keeps s value st) tt;
  stimulus_keeps = λ s what st w. keeps_same (word_device flash) s st;
}
