-- Reading a number digit by digit.
use Rattle.std.proofs.Common.{◌≡◌, ℕ, zero, suc, ◌+◌, ◌-◌, ◌*◌, ◌<◌, ◌≤◌, List, [], ◌∷◌, ◌++◌, length, take, get_or, cond, Bool, true, false, Some, None, refl, sym, ◌∙◌, arith}
use Rattle.std.specs.Prelude.{◌&&◌, nat_le}
use Rattle.std.specs.Char.{is_ascii_digit, digit_value}
use Rattle.std.specs.Str.{all_ascii_digits}
use Rattle.std.specs.Str.Parse.{digits_value}
use Rattle.std.proofs.lemmas.Bool.Decides.{nat_tests}
use Rattle.std.proofs.lemmas.Bool.{false≢true}
use Rattle.std.proofs.lemmas.Int.Digits.{digits_value_more}
use Rattle.std.proofs.lemmas.Str.Parse.{digits_value-take-le}
use Rattle.std.proofs.lemmas.List.{take_more}
use Rattle.board_inputs.specs.Numbers.{value_upto}
use Rattle.std.proofs.lemmas.Bool.{and_parts}

-- the first i bytes are digits, and the value is theirs and not above the limit
pub record HasRead (text : List ℕ) (i value most : ℕ) : Type 0 where
  pub digits : all_ascii_digits (take i text) ≡ true
  pub value_is : value ≡ digits_value 10 (take i text)
  pub small : value ≤ most

digit_there : (text : List ℕ) (i : ℕ) → all_ascii_digits text ≡ true → i < length text → is_ascii_digit (get_or text i 0) ≡ true
digit_there [] i e lt = absurd (omega arith)
digit_there (c ∷ cs) zero e lt = (and_parts (is_ascii_digit c) (all_ascii_digits cs) e).0
digit_there (c ∷ cs) (suc i) e lt = digit_there cs i (and_parts (is_ascii_digit c) (all_ascii_digits cs) e).1 (omega arith)

digits_push : (text : List ℕ) (c : ℕ) → all_ascii_digits text ≡ true → is_ascii_digit c ≡ true → all_ascii_digits (text ++ c ∷ []) ≡ true
digits_push [] c e d = rw d refl
digits_push (x ∷ xs) c e d =
    let parts = and_parts (is_ascii_digit x) (all_ascii_digits xs) e in
    rw parts.0 (digits_push xs c parts.1 d)

worth : (c : ℕ) → is_ascii_digit c ≡ true → digit_value c ≡ c - 48
worth c e = grind (arith, nat_tests)

-- a text that has another byte than a digit spells nothing
pub no_digit : (most : ℕ) (text : List ℕ) (i : ℕ) → i < length text → is_ascii_digit (get_or text i 0) ≡ false → None ≡ value_upto most text
unfolding value_upto
no_digit most text i lt e = go (all_ascii_digits text) refl
  where
    go : (b : Bool) → all_ascii_digits text ≡ b → None ≡ cond (b && nat_le (digits_value 10 text) most) (Some (digits_value 10 text)) None
    go true is = absurd (false≢true (sym e ∙ digit_there text i is lt))
    go false is = refl

pub reads_more : (text : List ℕ) (i value next most : ℕ) → i < length text → HasRead text i value most → is_ascii_digit (get_or text i 0) ≡ true
    → next ≡ value * 10 + (get_or text i 0 - 48) → next ≤ most → HasRead text (i + 1) next most
reads_more text i value next most lt h d e small = record {
  digits = rw (take_more text i 0 lt) (digits_push (take i text) (get_or text i 0) h.digits d);
  value_is = rw (digits_value_more 10 text i lt, worth (get_or text i 0) d, ← h.value_is) e;
  small = small;
}

-- a number that has grown too great
pub too_great : (most : ℕ) (text : List ℕ) (i value : ℕ) → i < length text → HasRead text i value most → is_ascii_digit (get_or text i 0) ≡ true
    → most < value * 10 + (get_or text i 0 - 48) → None ≡ value_upto most text
unfolding value_upto
too_great most text i value lt h d great =
    let more : digits_value 10 (take (i + 1) text) ≡ value * 10 + (get_or text i 0 - 48) = rw (digits_value_more 10 text i lt, worth (get_or text i 0) d, ← h.value_is) refl in
    let least = digits_value-take-le 10 text (i + 1) (omega arith) in
    let over : nat_le (digits_value 10 text) most ≡ false = grind (arith, nat_tests, more, least) in
    go (all_ascii_digits text) over
  where
    go : (b : Bool) → nat_le (digits_value 10 text) most ≡ false → None ≡ cond (b && nat_le (digits_value 10 text) most) (Some (digits_value 10 text)) None
    go true over = rw over refl
    go false over = refl
