-- What the masks of the rows leave of a word, by its fields.
use Rattle.std.proofs.Common.{◌≡◌, ℕ, ◌+◌, ◌*◌, ◌/◌, ◌%◌, ◌^◌, ◌<◌, bit_and, arith, ap, sym, ◌∙◌}
use Rattle.std.proofs.lemmas.Nat.{and_block, and_mask, shr_split, mod_below, pow_pos}
use Rattle.std.proofs.lemmas.Bool.Decides.{nat_tests}
use Rattle.hart_words.specs.Bits.{bits}

-- a mask in two parts
block : (k high low w : ℕ) → low < 2 ^ k → bit_and w (high * 2 ^ k + low) ≡ bit_and (w / 2 ^ k) high * 2 ^ k + bit_and (w % 2 ^ k) low
block k high low w small =
    ap (λ x. bit_and x (high * 2 ^ k + low)) (sym (shr_split w k)) ∙ and_block k (w / 2 ^ k) high (w % 2 ^ k) low (mod_below w (2 ^ k) (pow_pos k)) small

pub no_bits : (w : ℕ) → bit_and w 0 ≡ 0
no_bits w = omega (arith, and_mask w 0)

-- the opcode
pub opcode : (w : ℕ) → bit_and w 0x7F ≡ bits w 0 7
opcode w = omega (arith, and_mask w 7)

-- the opcode and the first function field
pub function : (w : ℕ) → bit_and w 0x707F ≡ bits w 12 3 * 4096 + bits w 0 7
function w = omega (arith, block 12 7 0x7F w (omega arith), and_mask (w / 4096) 3, and_mask (w % 4096) 7)

-- both function fields
pub functions : (w : ℕ) → bit_and w 0xFE00707F ≡ bits w 25 7 * 33554432 + bits w 12 3 * 4096 + bits w 0 7
functions w = omega (arith, block 25 0x7F 0x707F w (omega arith), and_mask (w / 33554432) 7, function (w % 33554432))

-- the whole word
pub whole_word : (w : ℕ) → bit_and w 0xFFFFFFFF ≡ bits w 20 12 * 1048576 + bits w 15 5 * 32768 + bits w 12 3 * 4096 + bits w 7 5 * 128 + bits w 0 7
whole_word w = omega (arith, and_mask w 32)

-- the ignored bits of FENCE
pub ignored_bits : (w : ℕ) → bit_and w 0xF00F8F80 ≡ bits w 28 4 * 268435456 + bits w 15 5 * 32768 + bits w 7 5 * 128
ignored_bits w =
    omega (
      arith,
      block 28 0xF 0xF8F80 w (omega arith),
      and_mask (w / 268435456) 4,
      block 15 0x1F 0xF80 (w % 268435456) (omega arith),
      and_mask (w % 268435456 / 32768) 5,
      block 7 0x1F 0 (w % 268435456 % 32768) (omega arith),
      and_mask (w % 268435456 % 32768 / 128) 5,
      no_bits (w % 268435456 % 32768 % 128),
    )

-- what the decoder's branches need
pub ruleset masks = (nat_tests, opcode, function, functions, whole_word)
