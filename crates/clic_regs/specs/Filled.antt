-- Bytes of which the upper bits alone count.
use Rattle.std.specs.Prelude.{◌≡◌, ℕ, ◌+◌, ◌-◌, ◌%◌, ◌^◌}
use Rattle.hart_words.specs.Bits.{bits}

-- the upper n bits of a byte, and ones below
abbrev pub filled : ℕ → ℕ → ℕ
filled n byte = byte - byte % 2 ^ (8 - n) + 2 ^ (8 - n) - 1

-- the bits below the upper n are ones
abbrev pub IsFilled : ℕ → ℕ → Type 0
IsFilled n byte = bits byte 0 (8 - n) ≡ 2 ^ (8 - n) - 1
