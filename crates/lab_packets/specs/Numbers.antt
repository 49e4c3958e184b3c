-- Numbers: in packets, and in the commands of gdb's `monitor`.
use Rattle.std.specs.Prelude.{ℕ, ◌+◌, ◌*◌, List, length, drop, slice_index, Bool, not, ◌&&◌, ◌||◌, ◌==◌, nat_le, Option, Some, None, if◌then◌else◌}
use Rattle.asm_text.specs.Numbers.{digits_in, is_hexadecimal}
use Rattle.lab_packets.specs.Digits.{byte_of}

-- ---- in packets

-- one to eight hexadecimal digits of either case
unfoldable pub number_of : List ℕ → Option ℕ
number_of text = if nat_le (length text) 8 then digits_in 16 text else None

-- the byte that two digits at a place spell
abbrev pub byte_at : List ℕ → ℕ → Option ℕ
byte_at text place = byte_of (slice_index text place) (slice_index text (place + 1))

-- a word of four bytes, the lowest first
abbrev pub word_from : Option ℕ → Option ℕ → Option ℕ → Option ℕ → Option ℕ
word_from (Some a) (Some b) (Some c) (Some d) = Some (a + b * 0x100 + c * 0x1_0000 + d * 0x100_0000)
word_from _ _ _ _ = None

-- the word of eight digits, two for each byte
unfoldable pub word_of : List ℕ → Option ℕ
word_of text = if length text == 8 then word_from (byte_at text 0) (byte_at text 2) (byte_at text 4) (byte_at text 6) else None

-- ---- in commands

-- one byte or more, and the first of several isn't 0
abbrev pub is_plain : List ℕ → Bool
is_plain text = (length text == 1) || (nat_le 2 (length text) && not (slice_index text 0 == 48))

-- in decimal without leading zeros, or "0x" and one to eight hexadecimal digits of either case; below 2 ^ 32
unfoldable pub written_number : List ℕ → Option ℕ
written_number text =
    if is_hexadecimal text then number_of (drop 2 text)
    else (if is_plain text then digits_in 10 text else None)

-- a number that isn't too small or too great
abbrev pub within : ℕ → ℕ → Option ℕ → Option ℕ
within least most None = None
within least most (Some n) = if nat_le least n && nat_le n most then Some n else None

-- the number of a text, where it is in the range
unfoldable pub written_in : ℕ → ℕ → List ℕ → Option ℕ
written_in least most text = within least most (written_number text)
