-- What the masks of the rows leave of a half-word, by its fields.
use Rattle.std.proofs.Common.{◌≡◌, ℕ, ◌+◌, ◌*◌, ◌/◌, ◌%◌, ◌^◌, ◌<◌, bit_and, arith, subst}
use Rattle.std.proofs.lemmas.Nat.{and_block, and_mask}
use Rattle.std.proofs.lemmas.Bool.Decides.{nat_tests}
use Rattle.hart_words.specs.Bits.{bits}

-- the bits above a place, and those below it
blocks : (h k high low : ℕ) → h / 2 ^ k * 2 ^ k + h % 2 ^ k ≡ h → h % 2 ^ k < 2 ^ k → low < 2 ^ k → bit_and h (high * 2 ^ k + low) ≡ bit_and (h / 2 ^ k) high * 2 ^ k + bit_and (h % 2 ^ k) low
blocks h k high low whole small fits =
    subst (λ (x : ℕ). bit_and x (high * 2 ^ k + low) ≡ bit_and (h / 2 ^ k) high * 2 ^ k + bit_and (h % 2 ^ k) low) whole (and_block k (h / 2 ^ k) high (h % 2 ^ k) low small fits)

-- function and quadrant
pub group : (h : ℕ) → bit_and h 0xE003 ≡ bits h 13 3 * 0x2000 + bits h 0 2
group h = omega (arith, blocks h 13 7 3 (omega arith) (omega arith) (omega arith), and_mask (h / 8192) 3, and_mask (h % 8192) 2)

-- and bit 12
pub group_12 : (h : ℕ) → bit_and h 0xF003 ≡ bits h 13 3 * 0x2000 + bits h 12 1 * 0x1000 + bits h 0 2
group_12 h = omega (arith, blocks h 12 15 3 (omega arith) (omega arith) (omega arith), and_mask (h / 4096) 4, and_mask (h % 4096) 2)

-- and bits 11 and 10
pub group_10 : (h : ℕ) → bit_and h 0xFC03 ≡ bits h 13 3 * 0x2000 + bits h 12 1 * 0x1000 + bits h 10 2 * 0x400 + bits h 0 2
group_10 h = omega (arith, blocks h 10 63 3 (omega arith) (omega arith) (omega arith), and_mask (h / 1024) 6, and_mask (h % 1024) 2)

-- bit 12 and the second register
pub group_second : (h : ℕ) → bit_and h 0xF07F ≡ bits h 13 3 * 0x2000 + bits h 12 1 * 0x1000 + bits h 2 5 * 4 + bits h 0 2
group_second h = omega (arith, blocks h 12 15 0x7F (omega arith) (omega arith) (omega arith), and_mask (h / 4096) 4, and_mask (h % 4096) 7)

-- the first register
pub group_first : (h : ℕ) → bit_and h 0xEF83 ≡ bits h 13 3 * 0x2000 + bits h 7 5 * 0x80 + bits h 0 2
group_first h =
    let low = blocks (h % 8192) 7 31 3 (omega arith) (omega arith) (omega arith) in
    omega (arith, blocks h 13 7 0xF83 (omega arith) (omega arith) (omega arith), and_mask (h / 8192) 3, low, and_mask (h % 8192 / 128) 5, and_mask (h % 8192 % 128) 2)

-- bits 11 and 10 without bit 12
pub group_and : (h : ℕ) → bit_and h 0xEC03 ≡ bits h 13 3 * 0x2000 + bits h 10 2 * 0x400 + bits h 0 2
group_and h =
    let low = blocks (h % 8192) 10 3 3 (omega arith) (omega arith) (omega arith) in
    omega (arith, blocks h 13 7 0xC03 (omega arith) (omega arith) (omega arith), and_mask (h / 8192) 3, low, and_mask (h % 8192 / 1024) 2, and_mask (h % 8192 % 1024) 2)

-- bits 12 to 10, and bits 6 and 5
pub group_5 : (h : ℕ) → bit_and h 0xFC63 ≡ bits h 13 3 * 0x2000 + bits h 12 1 * 0x1000 + bits h 10 2 * 0x400 + bits h 5 2 * 0x20 + bits h 0 2
group_5 h =
    let low = blocks (h % 1024) 5 3 3 (omega arith) (omega arith) (omega arith) in
    omega (arith, blocks h 10 63 0x63 (omega arith) (omega arith) (omega arith), and_mask (h / 1024) 6, low, and_mask (h % 1024 / 32) 2, and_mask (h % 1024 % 32) 2)

-- all bits
pub whole : (h : ℕ) → bit_and h 0xFFFF ≡ bits h 13 3 * 0x2000 + bits h 12 1 * 0x1000 + bits h 7 5 * 0x80 + bits h 2 5 * 4 + bits h 0 2
whole h = omega (arith, and_mask h 16)

-- what the decoder's branches need
pub ruleset masks = (nat_tests, group, group_12, group_10, group_second, group_first, group_and, group_5, whole)
