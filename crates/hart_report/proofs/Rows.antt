-- Bytes that are told row by row.
use Rattle.std.proofs.Common.{◌≡◌, ℕ, ◌+◌, ◌-◌, ◌*◌, ◌<◌, ◌≤◌, suc, inr, ⊎_elim, min, Bool, true, false, ◌||◌, not, ◌==◌, List, [], ◌∷◌, ◌++◌, length, take, drop, drop-cons, drop-drop, get_or, slice_get, Some, take_all, add-one, append_assoc, append-nil, arith, refl, sym, ap, ◌∙◌}
use Rattle.std.proofs.lemmas.Bool.{cases_lt}
use Rattle.std.proofs.lemmas.Bool.Decides.{nat_tests}
use Rattle.std.proofs.lemmas.Option.{get_or_from_slice_get, slice_get_within, slice_get-get_or}
use Rattle.std.specs.Prelude.{slice_index}
use Rattle.hart_words.specs.Hexadecimal.{hex2}
use Rattle.hart_memory.specs.declared.address_map.TheConstants.{RAM_BASE, BANK_LEN}
use Rattle.hart_memory.specs.declared.place.Place.TheVariants.{InRam}
use Rattle.hart_memory.specs.Memory.{Memory}
use Rattle.hart_memory.specs.Access.{byte_at, byte_by}
use Rattle.hart_memory.specs.Place.{place, holds}
use Rattle.hart_memory.proofs.PlaceLemmas.{in_one_held, place-in_ram}
use Rattle.hart_report.specs.Contents.{hex_bytes, output_line, output_lines, cell, cells, is_shown, row_text, row_texts}

any_or : (d r : Bool) → (d || true || r) ≡ true
any_or true r = refl
any_or false r = refl

-- ---- a byte of RAM

pub ram_held : (k : ℕ) → k < BANK_LEN → holds (RAM_BASE + k) 1 ≡ true
ram_held k h = in_one_held (RAM_BASE + k) 1 (omega arith) (inr (λ j l. (omega arith, omega arith)))

ram_place : (k : ℕ) → k < BANK_LEN → place (RAM_BASE + k) 1 ≡ InRam k
ram_place k h = let back : RAM_BASE + k - RAM_BASE ≡ k = omega arith in place-in_ram (RAM_BASE + k) 1 (ram_held k h) (omega arith) ∙ ap InRam back

some_is : (a b : ℕ) → Some a ≡ Some b → a ≡ b
some_is a b h = cc

pub ram_byte_is : (m : Memory) (k b : ℕ) → length m.ram ≡ BANK_LEN → k < BANK_LEN → byte_at m (RAM_BASE + k) ≡ Some b → slice_get m.ram k ≡ Some b
ram_byte_is m k b len h found =
    let there : slice_index m.ram k ≡ b = some_is (slice_index m.ram k) b (sym (ap (λ p. byte_by p m) (ram_place k h)) ∙ found) in
    slice_get-get_or m.ram k 0 (omega (arith, len)) ∙ ap Some there

-- ---- lists from a place on

-- the bytes up to an end, from a place on
pub rest_is : (bytes : List ℕ) (k end b : ℕ) → slice_get bytes k ≡ Some b → k < end → take (end - k) (drop k bytes) ≡ b ∷ take (end - (k + 1)) (drop (k + 1) bytes)
rest_is bytes k end b found l =
    let inside : k < length bytes = slice_get_within bytes k b found in
    let here : get_or bytes k b ≡ b = get_or_from_slice_get bytes k b b found in
    let first : drop k bytes ≡ b ∷ drop (k + 1) bytes = rw (add-one, drop-cons bytes k b, here) refl in
    let more : end - k ≡ suc (end - (k + 1)) = omega arith in
    rw (first, more) refl

pub rest_is_none : (bytes : List ℕ) (k end : ℕ) → end ≤ k → take (end - k) (drop k bytes) ≡ []
rest_is_none bytes k end l = let none : end - k ≡ 0 = omega arith in rw none refl

-- ---- digits and cells

pub hex_bytes_step : (line bytes : List ℕ) (k end b : ℕ) → slice_get bytes k ≡ Some b → k < end → (line ++ hex2 b) ++ hex_bytes (take (end - (k + 1)) (drop (k + 1) bytes)) ≡ line ++ hex_bytes (take (end - k) (drop k bytes))
unfolding hex_bytes
hex_bytes_step line bytes k end b found l = rw (rest_is bytes k end b found l) (append_assoc line (hex2 b) (hex_bytes (take (end - (k + 1)) (drop (k + 1) bytes))))

pub hex_bytes_none : (line bytes : List ℕ) (k end : ℕ) → end ≤ k → line ++ hex_bytes (take (end - k) (drop k bytes)) ≡ line
unfolding hex_bytes
hex_bytes_none line bytes k end l = rw (rest_is_none bytes k end l) (append-nil line)

pub cells_step : (dead : ℕ → Bool) (line bytes : List ℕ) (base k end b : ℕ) → slice_get bytes k ≡ Some b → k < end → (line ++ cell (dead (base + k)) b) ++ cells dead (base + (k + 1)) (take (end - (k + 1)) (drop (k + 1) bytes)) ≡ line ++ cells dead (base + k) (take (end - k) (drop k bytes))
unfolding cells
cells_step dead line bytes base k end b found l =
    let rest = take (end - (k + 1)) (drop (k + 1) bytes) in
    let next : base + (k + 1) ≡ base + k + 1 = omega arith in
    ap (λ at. (line ++ cell (dead (base + k)) b) ++ cells dead at rest) next
    ∙ rw (rest_is bytes k end b found l) (append_assoc line (cell (dead (base + k)) b) (cells dead (base + k + 1) rest))

pub cells_none : (dead : ℕ → Bool) (line bytes : List ℕ) (at k end : ℕ) → end ≤ k → line ++ cells dead at (take (end - k) (drop k bytes)) ≡ line
unfolding cells
cells_none dead line bytes at k end l = rw (rest_is_none bytes k end l) (append-nil line)

pub is_shown_step : (dead : ℕ → Bool) (bytes : List ℕ) (at k end b : ℕ) → slice_get bytes k ≡ Some b → k < end → is_shown dead at (take (end - k) (drop k bytes)) ≡ (dead at || not (b == 0) || is_shown dead (at + 1) (take (end - (k + 1)) (drop (k + 1) bytes)))
unfolding is_shown
is_shown_step dead bytes at k end b found l = rw (rest_is bytes k end b found l) refl

pub is_shown_none : (dead : ℕ → Bool) (bytes : List ℕ) (at k end : ℕ) → end ≤ k → is_shown dead at (take (end - k) (drop k bytes)) ≡ false
unfolding is_shown
is_shown_none dead bytes at k end l = rw (rest_is_none bytes k end l) refl

-- ---- lines

-- the line at a row of 32 bytes, and those after it
pub output_lines_step : (n row : ℕ) (bytes : List ℕ) → row < n → output_lines (n - row) (drop (row * 32) bytes) ≡ output_line (take 32 (drop (row * 32) bytes)) ++ output_lines (n - (row + 1)) (drop ((row + 1) * 32) bytes)
unfolding output_lines
output_lines_step n row bytes l =
    let more : n - row ≡ suc (n - (row + 1)) = omega arith in
    let next : drop 32 (drop (row * 32) bytes) ≡ drop ((row + 1) * 32) bytes = drop-drop 32 (row * 32) bytes ∙ ap (λ k. drop k bytes) (omega arith) in
    rw more (ap (λ rest. output_line (take 32 (drop (row * 32) bytes)) ++ output_lines (n - (row + 1)) rest) next)

pub no_output_lines : (n row : ℕ) (bytes : List ℕ) → n ≤ row → output_lines (n - row) bytes ≡ []
unfolding output_lines
no_output_lines n row bytes l = let none : n - row ≡ 0 = omega arith in rw none refl

-- the row at a place, and those after it
pub row_texts_step : (dead : ℕ → Bool) (n row base : ℕ) (bytes : List ℕ) → row < n → row_texts dead (n - row) (base + row * 16) (drop (row * 16) bytes) ≡ row_text dead (base + row * 16) (take 16 (drop (row * 16) bytes)) ++ row_texts dead (n - (row + 1)) (base + (row + 1) * 16) (drop ((row + 1) * 16) bytes)
unfolding row_texts
row_texts_step dead n row base bytes l =
    let more : n - row ≡ suc (n - (row + 1)) = omega arith in
    let next : drop 16 (drop (row * 16) bytes) ≡ drop ((row + 1) * 16) bytes = drop-drop 16 (row * 16) bytes ∙ ap (λ k. drop k bytes) (omega arith) in
    let place : base + row * 16 + 16 ≡ base + (row + 1) * 16 = omega arith in
    rw more (ap (λ rest. row_text dead (base + row * 16) (take 16 (drop (row * 16) bytes)) ++ row_texts dead (n - (row + 1)) (base + row * 16 + 16) rest) next
    ∙ ap (λ at. row_text dead (base + row * 16) (take 16 (drop (row * 16) bytes)) ++ row_texts dead (n - (row + 1)) at (drop ((row + 1) * 16) bytes)) place)

pub no_row_texts : (dead : ℕ → Bool) (n row at : ℕ) (bytes : List ℕ) → n ≤ row → row_texts dead (n - row) at bytes ≡ []
unfolding row_texts
no_row_texts dead n row at bytes l = let none : n - row ≡ 0 = omega arith in rw none refl

-- ---- rows that tell something

pub shown_byte : (dead : ℕ → Bool) (bytes : List ℕ) (at k end b : ℕ) → slice_get bytes k ≡ Some b → k < end → (b ≡ 0 → ⊥) → is_shown dead at (take (end - k) (drop k bytes)) ≡ true
shown_byte dead bytes at k end b found l some =
    let full : (b == 0) ≡ false = grind (arith, nat_tests) in
    is_shown_step dead bytes at k end b found l ∙ rw full (any_or (dead at) (is_shown dead (at + 1) (take (end - (k + 1)) (drop (k + 1) bytes))))

pub shown_dead : (dead : ℕ → Bool) (bytes : List ℕ) (at k end b : ℕ) → slice_get bytes k ≡ Some b → k < end → dead at ≡ true → is_shown dead at (take (end - k) (drop k bytes)) ≡ true
shown_dead dead bytes at k end b found l is = is_shown_step dead bytes at k end b found l ∙ rw is refl

pub not_shown : (dead : ℕ → Bool) (bytes : List ℕ) (base k end b : ℕ) → slice_get bytes k ≡ Some b → k < end → b ≡ 0 → dead (base + k) ≡ false → is_shown dead (base + k) (take (end - k) (drop k bytes)) ≡ is_shown dead (base + (k + 1)) (take (end - (k + 1)) (drop (k + 1) bytes))
not_shown dead bytes base k end b found l none is =
    let empty : (b == 0) ≡ true = grind (arith, nat_tests) in
    let next : base + k + 1 ≡ base + (k + 1) = omega arith in
    is_shown_step dead bytes (base + k) k end b found l ∙ rw (is, empty) (ap (λ at. is_shown dead at (take (end - (k + 1)) (drop (k + 1) bytes))) next)

-- ---- the last row may be short

pub take_short : (xs : List ℕ) (m n : ℕ) → m ≡ min (length xs) n → take m xs ≡ take n xs
take_short xs m n e =
    ⊎_elim
    (λ (l : length xs < n). take_all m xs (omega arith) ∙ sym (take_all n xs (omega arith)))
    (λ (l : n ≤ length xs). ap (λ k. take k xs) (omega arith))
    (cases_lt (length xs) n)
