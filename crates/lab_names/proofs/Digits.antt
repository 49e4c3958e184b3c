-- Eight hexadecimal digits are a word.
use Rattle.std.proofs.Common.{ℕ, ◌+◌, ◌*◌, ◌<◌, ◌≤◌, ◌^◌, arith}
use Rattle.std.proofs.Math.Nat.{pow-le-pow_right}

pub word_fits : (i v : ℕ) → i ≤ 8 → v < 16 ^ i → v < 2 ^ 32
word_fits i v few small =
    let sixteen : 0 < 16 = omega arith in
    let most : 16 ^ i ≤ 16 ^ 8 = pow-le-pow_right sixteen few in
    omega (arith, most)
