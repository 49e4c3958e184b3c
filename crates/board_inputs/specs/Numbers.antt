-- Numbers in decimal, without leading zeros.
use Rattle.std.specs.Prelude.{ℕ, List, length, slice_index, Bool, not, ◌&&◌, ◌||◌, nat_le, nat_lt, nat_eq, Option, Some, None, if◌then◌else◌}
use Rattle.std.specs.Str.{all_ascii_digits}
use Rattle.std.specs.Str.Parse.{digits_value}

-- one byte or more, and the first of several isn't 0
abbrev pub is_plain : List ℕ → Bool
is_plain text = nat_lt 0 (length text) && (nat_eq (length text) 1 || not (nat_eq (slice_index text 0) 48))

-- the value of digits, where it is at most so great
unfoldable pub value_upto : ℕ → List ℕ → Option ℕ
value_upto most text = if all_ascii_digits text && nat_le (digits_value 10 text) most then Some (digits_value 10 text) else None

-- the number that a text spells, where it is at most so great
unfoldable pub number_upto : ℕ → List ℕ → Option ℕ
number_upto most text = if is_plain text then value_upto most text else None
