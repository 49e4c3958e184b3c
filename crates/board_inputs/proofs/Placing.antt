-- Bytes that are put into memory.
use Rattle.std.proofs.Common.{◌≡◌, ◌≢◌, ℕ, zero, suc, ◌+◌, ◌<◌, ◌≤◌, ◌⊎◌, inl, inr, List, [], ◌∷◌, length, get_or, true, Some, refl, ap, ◌∙◌, arith}
use Rattle.std.proofs.lemmas.List.{get_or-set_same, get_or-set_other, length-set}
use Rattle.std.proofs.lemmas.Bool.Decides.{nat_tests}
use Rattle.hart_memory.specs.declared.address_map.TheConstants.{BANK_LEN}
use Rattle.hart_memory.specs.declared.place.Place.{Place}
use Rattle.hart_memory.specs.declared.place.Place.TheVariants.{InRom, InRam, Elsewhere}
use Rattle.hart_memory.specs.Memory.{Memory}
use Rattle.hart_memory.specs.Place.{place, holds, is_in_memory}
use Rattle.hart_memory.specs.Access.{byte_by, byte_at, with_byte_by, with_byte}
use Rattle.hart_memory.proofs.PlaceLemmas.{in_rom, in_ram}
use Rattle.board_inputs.specs.ImageLoading.{with_bytes}

-- both memories have their length
abbrev pub IsLong : Memory → Type 0
IsLong m = (length m.rom ≡ BANK_LEN) × (length m.ram ≡ BANK_LEN)

-- ---- one byte
long_by : (p : Place) (m : Memory) (b : ℕ) → IsLong m → IsLong (with_byte_by p m b)
long_by (InRom k) m b h = (length-set m.rom k b ∙ h.0, h.1)
long_by (InRam k) m b h = (h.0, length-set m.ram k b ∙ h.1)
long_by Elsewhere m b h = h

same_by : (a : ℕ) (p : Place) (m : Memory) (b : ℕ) → IsLong m → place a 1 ≡ p → is_in_memory p ≡ true → byte_by p (with_byte_by p m b) ≡ Some b
same_by a (InRom k) m b h is held =
    let e = in_rom a 1 k is in
    ap (λ (v : ℕ). Some v) (get_or-set_same m.rom k b 0 (omega (arith, e.is, e.ends, h.0)))
same_by a (InRam k) m b h is held =
    let e = in_ram a 1 k is in
    ap (λ (v : ℕ). Some v) (get_or-set_same m.ram k b 0 (omega (arith, e.ends, h.1)))
same_by a Elsewhere m b h is held = absurd cc

other_by : (a c : ℕ) (p q : Place) (m : Memory) (b : ℕ) → place a 1 ≡ p → place c 1 ≡ q → c ≢ a → byte_by q (with_byte_by p m b) ≡ byte_by q m
other_by a c (InRom k) (InRom j) m b is there ne =
    let e = in_rom a 1 k is in
    let f = in_rom c 1 j there in
    ap (λ (v : ℕ). Some v) (get_or-set_other m.rom k j b 0 (λ same. ne (omega (arith, e.is, f.is, same))))
other_by a c (InRam k) (InRam j) m b is there ne =
    let e = in_ram a 1 k is in
    let f = in_ram c 1 j there in
    ap (λ (v : ℕ). Some v) (get_or-set_other m.ram k j b 0 (λ same. ne (omega (arith, e.is, f.is, same))))
other_by a c (InRom k) (InRam j) m b is there ne = refl
other_by a c (InRam k) (InRom j) m b is there ne = refl
other_by a c (InRom k) Elsewhere m b is there ne = refl
other_by a c (InRam k) Elsewhere m b is there ne = refl
other_by a c Elsewhere q m b is there ne = refl

byte_long : (m : Memory) (a b : ℕ) → IsLong m → IsLong (with_byte m a b)
byte_long m a b h = long_by (place a 1) m b h

byte_same : (m : Memory) (a b : ℕ) → IsLong m → holds a 1 ≡ true → byte_at (with_byte m a b) a ≡ Some b
byte_same m a b h held = same_by a (place a 1) m b h refl held

byte_other : (m : Memory) (a b c : ℕ) → c ≢ a → byte_at (with_byte m a b) c ≡ byte_at m c
byte_other m a b c ne = other_by a c (place a 1) (place c 1) m b refl refl ne

-- ---- bytes
first_held : (at n : ℕ) → holds at (suc n) ≡ true → holds at 1 ≡ true
unfolding place
first_held at n h = grind (arith, nat_tests)

rest_held : (at n : ℕ) → holds at (suc n) ≡ true → holds (at + 1) n ≡ true
unfolding place
rest_held at n h = grind (arith, nat_tests)

-- each byte of an access is in memory
pub each_held : (at n i : ℕ) → holds at n ≡ true → i < n → holds (at + i) 1 ≡ true
unfolding place
each_held at n i h lt = grind (arith, nat_tests)

pub bytes_long : (at : ℕ) (bs : List ℕ) (m : Memory) → IsLong m → IsLong (with_bytes at bs m)
unfolding with_bytes
bytes_long at [] m h = h
bytes_long at (b ∷ bs) m h = bytes_long (at + 1) bs (with_byte m at b) (byte_long m at b h)

-- an address before the bytes or behind them holds what it held
pub bytes_other : (at : ℕ) (bs : List ℕ) (m : Memory) (a : ℕ) → (a < at) ⊎ (at + length bs ≤ a) → byte_at (with_bytes at bs m) a ≡ byte_at m a
unfolding with_bytes
bytes_other at [] m a out = refl
bytes_other at (b ∷ bs) m a (inl before) = bytes_other (at + 1) bs (with_byte m at b) a (inl (omega arith)) ∙ byte_other m at b a (λ same. omega arith)
bytes_other at (b ∷ bs) m a (inr behind) = bytes_other (at + 1) bs (with_byte m at b) a (inr (omega arith)) ∙ byte_other m at b a (λ same. omega arith)

-- each byte stands at its address
pub bytes_same : (at : ℕ) (bs : List ℕ) (m : Memory) (k : ℕ) → IsLong m → holds at (length bs) ≡ true → k < length bs → byte_at (with_bytes at bs m) (at + k) ≡ Some (get_or bs k 0)
unfolding with_bytes
bytes_same at [] m k h held lt = absurd (omega arith)
bytes_same at (b ∷ bs) m zero h held lt =
    let here : at + 0 ≡ at = omega arith in
    rw here (bytes_other (at + 1) bs (with_byte m at b) at (inl (omega arith)) ∙ byte_same m at b h (first_held at (length bs) held))
bytes_same at (b ∷ bs) m (suc k) h held lt =
    let here : at + suc k ≡ at + 1 + k = omega arith in
    rw here (bytes_same (at + 1) bs (with_byte m at b) k (byte_long m at b h) (rest_held at (length bs) held) (omega arith))
