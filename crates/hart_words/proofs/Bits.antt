-- Bits as numbers.
use Rattle.std.proofs.Common.{◌≡◌, ℕ, ◌*◌, ◌/◌, ◌%◌, ◌<◌, Bool, true, false, arith}
use Rattle.hart_words.specs.Bits.{bit, even}

pub bit_below : (b : Bool) → bit b < 2
bit_below true = omega arith
bit_below false = omega arith

pub even_is : (n : ℕ) → even n % 2 ≡ 0
even_is n = omega arith

-- half of it, twice
pub even_halved : (n : ℕ) → even n ≡ n / 2 * 2
even_halved n = omega arith
