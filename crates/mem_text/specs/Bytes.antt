-- What a byte of a text is. Bytes are in ASCII.
use Rattle.std.specs.Prelude.{ℕ, ◌<◌, Bool, ◌||◌, ◌==◌, nat_lt, cond}
use Rattle.std.specs.Char.{digit_value}
use Rattle.mem_text.specs.declared.byte_kind.ByteKind.{ByteKind}
use Rattle.mem_text.specs.declared.byte_kind.ByteKind.TheVariants.{Digit, LineFeed, Blank, Slash, Star, At, Underscore, Other}

-- space, tab, line feed, carriage return, form feed
abbrev pub is_white : ℕ → Bool
is_white byte = byte == 32 || (byte == 9 || (byte == 10 || (byte == 13 || byte == 12)))

-- the value of a hexadecimal digit of either case, and 16 or more of all else
unfoldable pub hex_value : ℕ → ℕ
hex_value byte = digit_value byte

-- a hexadecimal digit
unfoldable pub is_hex : ℕ → Bool
is_hex byte = nat_lt (digit_value byte) 16

-- what the byte is, outside a comment
unfoldable pub kind_of : ℕ → ByteKind
kind_of byte =
    cond (is_hex byte) (Digit (hex_value byte))
    (cond (byte == 10) LineFeed
    (cond (is_white byte) Blank
    (cond (byte == 47) Slash
    (cond (byte == 42) Star
    (cond (byte == 64) At
    (cond (byte == 95) Underscore Other))))))

-- the value of a digit, and 0 of all else
abbrev pub digit_of : ByteKind → ℕ
digit_of (Digit d) = d
digit_of LineFeed = 0
digit_of Blank = 0
digit_of Slash = 0
digit_of Star = 0
digit_of At = 0
digit_of Underscore = 0
digit_of Other = 0

-- a digit's value is below 16
abbrev pub IsSmall : ByteKind → Type 0
IsSmall (Digit d) = d < 16
IsSmall LineFeed = Unit {0}
IsSmall Blank = Unit {0}
IsSmall Slash = Unit {0}
IsSmall Star = Unit {0}
IsSmall At = Unit {0}
IsSmall Underscore = Unit {0}
IsSmall Other = Unit {0}
