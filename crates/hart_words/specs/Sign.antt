-- Sign extension.
use Rattle.std.specs.Prelude.{ℕ, ◌+◌, ◌-◌, ◌%◌, ◌^◌, if◌then◌else◌, nat_lt}

-- v as a number of b bits in two's complement, as a word: v where bit b - 1 is 0, else v - 2 ^ b modulo 2 ^ 32
abbrev pub sign_extended : ℕ → ℕ → ℕ
sign_extended v b = if nat_lt v (2 ^ (b - 1)) then v else (v + 2 ^ 32 - 2 ^ b) % 2 ^ 32
