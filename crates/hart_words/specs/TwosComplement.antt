-- Words, and integers in two's complement.
use Rattle.std.specs.Prelude.{ℕ, ◌%◌, ◌^◌, ℤ, pos, ◌-ℤ◌, if◌then◌else◌, nat_lt, unsigned_abs}
use Rattle.std.specs.Int.{int_rem_euclid}

-- a number modulo 2 ^ 32
abbrev pub word : ℕ → ℕ
word n = n % 2 ^ 32

-- an integer modulo 2 ^ 32
abbrev pub wrapped : ℤ → ℕ
wrapped z = unsigned_abs (int_rem_euclid z (pos (2 ^ 32)))

-- the integer that a word is in two's complement
abbrev pub signed_value : ℕ → ℤ
signed_value w = if nat_lt w (2 ^ 31) then pos w else pos w -ℤ pos (2 ^ 32)
