-- Values of some hexadecimal digits.
use Rattle.std.proofs.Common.{ℕ, zero, ◌+◌, ◌*◌, ◌^◌, ◌<◌, ◌≤◌, arith, lit<, add-one}
use Rattle.std.proofs.Math.Nat.{pow-suc, pow-le-pow_right}

-- one digit more
pub grows : (n v d : ℕ) → v < 16 ^ n → d < 16 → v * 16 + d < 16 ^ (n + 1)
grows n v d h k = rw add-one (rw pow-suc (omega arith))

pub most : (n m : ℕ) → n ≤ m → 16 ^ n ≤ 16 ^ m
most n m h = let positive : zero < 16 = lit< tt in pow-le-pow_right {n = 16} positive {i = n} {j = m} h

pub is_address : (n v d : ℕ) → n < 8 → v < 16 ^ n → d < 16 → v * 16 + d < 2 ^ 32
is_address n v d l h k = let m = most (n + 1) 8 (omega arith) in omega (arith, grows n v d h k)

pub is_byte : (n v : ℕ) → n ≤ 2 → v < 16 ^ n → v < 256
is_byte n v l h = let m = most n 2 l in omega arith
