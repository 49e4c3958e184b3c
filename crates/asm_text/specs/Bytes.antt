-- What a byte of a line may begin, and which bytes a name and a number go on with. Bytes are in ASCII.
use Rattle.std.specs.Prelude.{ℕ, Bool, ◌&&◌, ◌||◌, nat_le, ◌==◌, cond}
use Rattle.asm_text.specs.declared.token_kind.TokenKind.TheVariants.{Comma, Colon, Open, Close}
use Rattle.asm_text.specs.declared.byte_class.ByteClass.{ByteClass}
use Rattle.asm_text.specs.declared.byte_class.ByteClass.TheVariants.{Blank, Comment, NameStart, Digit, Minus, Mark, Other}

abbrev pub is_digit : ℕ → Bool
is_digit byte = nat_le 48 byte && nat_le byte 57  -- 0 to 9

-- a letter of either case
abbrev pub is_letter : ℕ → Bool
is_letter byte = (nat_le 65 byte && nat_le byte 90) || (nat_le 97 byte && nat_le byte 122)  -- A to Z, a to z

-- a letter, an underscore or a dot
abbrev pub begins_name : ℕ → Bool
begins_name byte = is_letter byte || (byte == 95 || byte == 46)

-- a name goes on with letters, digits, underscores and dots
abbrev pub is_name_byte : ℕ → Bool
is_name_byte byte = begins_name byte || is_digit byte

-- a number takes all letters and digits that follow
abbrev pub is_number_byte : ℕ → Bool
is_number_byte byte = is_letter byte || is_digit byte

-- what a byte may begin
unfoldable pub class_of : ℕ → ByteClass
class_of byte =
    cond (byte == 32 || byte == 9) Blank  -- space and tab
    (cond (byte == 35) Comment  -- the number sign
    (cond (begins_name byte) NameStart
    (cond (is_digit byte) Digit
    (cond (byte == 45) Minus
    (cond (byte == 44) (Mark Comma)
    (cond (byte == 58) (Mark Colon)
    (cond (byte == 40) (Mark Open)
    (cond (byte == 41) (Mark Close) Other))))))))
