-- Four hexadecimal digits are a half-word.
use Rattle.std.proofs.Common.{ℕ, ◌<◌, ◌≤◌, ◌^◌, arith}
use Rattle.std.proofs.Math.Nat.{pow-le-pow_right}

pub half_fits : (i v : ℕ) → i ≤ 4 → v < 16 ^ i → v < 2 ^ 16
half_fits i v few small =
    let sixteen : 0 < 16 = omega arith in
    let most : 16 ^ i ≤ 16 ^ 4 = pow-le-pow_right sixteen few in
    omega (arith, most)
