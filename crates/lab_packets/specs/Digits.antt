-- Bytes as two hexadecimal digits.
use Rattle.std.specs.Prelude.{ℕ, ◌+◌, ◌*◌, ◌/◌, ◌%◌, List, [], ◌∷◌, ◌++◌, false, ◌&&◌, nat_lt, if◌then◌else◌, Option, Some, None}
use Rattle.std.specs.Char.{digit_value}
use Rattle.std.specs.Fmt.{digit_glyph}

-- ---- read: digits of either case

-- the byte that two digits spell
unfoldable pub byte_of : ℕ → ℕ → Option ℕ
byte_of high low = if nat_lt (digit_value high) 16 && nat_lt (digit_value low) 16 then Some (digit_value high * 16 + digit_value low) else None

abbrev pub on_byte : Option ℕ → (ℕ → Option (List ℕ)) → Option (List ℕ)
on_byte None f = None
on_byte (Some b) f = f b

-- these bytes, and those that pairs of digits spell
abbrev pub bytes_behind : List ℕ → List ℕ → Option (List ℕ)
bytes_behind bytes [] = Some bytes
bytes_behind bytes (high ∷ []) = None
bytes_behind bytes (high ∷ low ∷ digits) = on_byte (byte_of high low) (λ b. bytes_behind (bytes ++ b ∷ []) digits)

-- the bytes that a text of digits spells, which are as many as it has pairs
unfoldable pub bytes_of : List ℕ → Option (List ℕ)
bytes_of digits = bytes_behind [] digits

-- ---- written: in lower case

-- a byte
unfoldable pub byte_digits : ℕ → List ℕ
byte_digits b = digit_glyph false (b / 16) ∷ digit_glyph false (b % 16) ∷ []

-- bytes, one after the other
abbrev pub bytes_digits : List ℕ → List ℕ
bytes_digits [] = []
bytes_digits (b ∷ bs) = byte_digits b ++ bytes_digits bs
