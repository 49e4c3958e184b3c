-- The number that a text writes: decimal digits, or "0x" and hexadecimal digits of either case, with a minus first or
-- without, and a magnitude below 2 ^ 32.
use Rattle.std.specs.Prelude.{ℕ, ◌+◌, ◌*◌, ◌^◌, Bool, ◌&&◌, ◌==◌, nat_lt, cond, List, [], ◌∷◌, drop, slice_index, length, Option, Some, None, ℤ, pos, neg_ℤ}
use Rattle.std.specs.Char.{digit_value}

-- the number whose digits are those of n and then these, where each of these is a digit in the base
abbrev pub digits_after : ℕ → ℕ → List ℕ → Option ℕ
digits_after base n [] = Some n
digits_after base n (c ∷ cs) = cond (nat_lt (digit_value c) base) (digits_after base (n * base + digit_value c) cs) None

-- a number below 2 ^ 32
abbrev pub bounded : Option ℕ → Option ℕ
bounded None = None
bounded (Some n) = cond (nat_lt n (2 ^ 32)) (Some n) None

-- one digit or more
unfoldable pub digits_in : ℕ → List ℕ → Option ℕ
digits_in base text = cond (length text == 0) None (bounded (digits_after base 0 text))

-- "0x" stands first
abbrev pub is_hexadecimal : List ℕ → Bool
is_hexadecimal text = (slice_index text 0 == 48) && (slice_index text 1 == 120)

-- a number without its sign
unfoldable pub magnitude : List ℕ → Option ℕ
magnitude text = cond (is_hexadecimal text) (digits_in 16 (drop 2 text)) (digits_in 10 text)

abbrev pub above_zero : Option ℕ → Option ℤ
above_zero None = None
above_zero (Some n) = Some (pos n)

abbrev pub below_zero : Option ℕ → Option ℤ
below_zero None = None
below_zero (Some n) = Some (neg_ℤ (pos n))

-- the number of the text, or None where it writes none
unfoldable pub number_of : List ℕ → Option ℤ
number_of text = cond (slice_index text 0 == 45) (below_zero (magnitude (drop 1 text))) (above_zero (magnitude text))
