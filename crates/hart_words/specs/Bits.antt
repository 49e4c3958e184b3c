-- The bits of a word.
use Rattle.std.specs.Prelude.{ℕ, ◌-◌, ◌/◌, ◌%◌, ◌^◌, Bool, if◌then◌else◌}

-- the count bits from bit low on, as a number
abbrev pub bits : ℕ → ℕ → ℕ → ℕ
bits w low count = w / 2 ^ low % 2 ^ count

-- a bit as a number
abbrev pub bit : Bool → ℕ
bit set = if set then 1 else 0

-- a number with the bits below bit k cleared
abbrev pub with_low_bits_clear : ℕ → ℕ → ℕ
with_low_bits_clear n k = n - n % 2 ^ k

-- a number with bit 0 cleared
abbrev pub even : ℕ → ℕ
even n = n - n % 2
