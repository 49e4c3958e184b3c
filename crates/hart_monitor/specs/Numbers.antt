-- Numbers in a script: in decimal without leading zeros, or "0x" and one to eight hexadecimal digits of either case.
use Rattle.std.specs.Prelude.{◌≡◌, ℕ, ◌<◌, ◌≤◌, ◌⊎◌, ◌++◌, List, length, drop, codes, decimal, ◌&&◌, nat_le, Option, Some, None, if◌then◌else◌}
use Rattle.asm_text.specs.Numbers.{digits_after, digits_in, is_hexadecimal}
use Rattle.board_inputs.specs.Numbers.{number_upto}

-- ---- which texts are numbers

-- "0x" and one to eight digits, which are those of the number
pub record IsHexadecimal (text : List ℕ) (n : ℕ) : Type 0 where
  pub digits : List ℕ
  pub text_is : text ≡ codes "0x" ++ digits
  pub some : 0 < length digits
  pub few : length digits ≤ 8
  pub value : digits_after 16 0 digits ≡ Some n

-- the text is one of the number's
abbrev pub IsNumber : List ℕ → ℕ → Type 0
IsNumber text n = (text ≡ decimal n) ⊎ IsHexadecimal text n

-- ---- the same, read from the front

-- the greatest number
abbrev pub most_number : ℕ
most_number = 4_294_967_295

-- what follows "0x"
abbrev pub hexadecimal_upto_eight : List ℕ → Option ℕ
hexadecimal_upto_eight text = if nat_le (length text) 10 then digits_in 16 (drop 2 text) else None

-- the number of a text
unfoldable pub number_of : List ℕ → Option ℕ
number_of text = if is_hexadecimal text then hexadecimal_upto_eight text else number_upto most_number text

-- a number that isn't too small or too great
abbrev pub within : ℕ → ℕ → Option ℕ → Option ℕ
within least most None = None
within least most (Some n) = if nat_le least n && nat_le n most then Some n else None

-- the number of a text, where it is in the range
unfoldable pub number_in : ℕ → ℕ → List ℕ → Option ℕ
number_in least most text = within least most (number_of text)
