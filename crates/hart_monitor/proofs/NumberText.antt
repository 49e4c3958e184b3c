-- Numbers and their texts.
use Rattle.std.proofs.Common.{◌≡◌, ℕ, ◌+◌, ◌*◌, ◌<◌, ◌≤◌, ◌^◌, List, [], ◌∷◌, ◌++◌, length, length-drop, drop, cond, codes, decimal, Bool, true, false, Option, Some, None, refl, ap, ◌∙◌, arith, inl, inr}
use Rattle.std.specs.Prelude.{◌==◌, ◌&&◌, nat_lt, nat_le}
use Rattle.std.specs.Char.{is_ascii_digit, digit_value}
use Rattle.std.specs.Str.{all_ascii_digits}
use Rattle.std.specs.Str.Parse.{digits_value, digits_value_after}
use Rattle.std.proofs.lemmas.Bool.{le-leb, leb-true, ltb-true, eqb-true, ne_eqb, and_parts}
use Rattle.std.proofs.lemmas.Bool.Decides.{nat_tests}
use Rattle.asm_text.specs.Numbers.{digits_after, digits_in, bounded, is_hexadecimal}
use Rattle.board_inputs.specs.Numbers.{value_upto, number_upto, is_plain}
use Rattle.board_inputs.proofs.NumberText.{number_again, number_took, decimal_digits, some_on, some_is, found}
use Rattle.hart_monitor.specs.Numbers.{IsHexadecimal, IsNumber, most_number, hexadecimal_upto_eight, number_of, within, number_in}

-- ---- decimal digits are read as elsewhere

is_digit_below_ten : (c : ℕ) → nat_lt (digit_value c) 10 ≡ is_ascii_digit c
is_digit_below_ten c = grind (arith, nat_tests)

push_by : (b r : Bool) (o : Option ℕ) (v : ℕ) → o ≡ cond r (Some v) None → cond b o None ≡ cond (b && r) (Some v) None
push_by true r o v e = e
push_by false r o v e = refl

digits_are : (n : ℕ) (cs : List ℕ) → digits_after 10 n cs ≡ cond (all_ascii_digits cs) (Some (digits_value_after 10 n cs)) None
digits_are n [] = refl
digits_are n (c ∷ cs) =
    ap (λ b. cond b (digits_after 10 (n * 10 + digit_value c) cs) None) (is_digit_below_ten c)
    ∙ push_by (is_ascii_digit c) (all_ascii_digits cs) _ (digits_value_after 10 (n * 10 + digit_value c) cs) (digits_are (n * 10 + digit_value c) cs)

same_test : (v : ℕ) → nat_lt v (2 ^ 32) ≡ nat_le v most_number
same_test v = grind (arith, nat_tests)

bounded_are : (b : Bool) (v : ℕ) → bounded (cond b (Some v) None) ≡ cond (b && nat_le v most_number) (Some v) None
bounded_are true v = ap (λ t. cond t (Some v) None) (same_test v)
bounded_are false v = refl

-- where there is a digit, both readings give the same
pub decimals_are : (text : List ℕ) → 0 < length text → digits_in 10 text ≡ value_upto most_number text
unfolding digits_in value_upto
decimals_are text some =
    let there : (length text == 0) ≡ false = ne_eqb _ _ (λ e. omega (arith, e)) in
    rw there (ap bounded (digits_are 0 text) ∙ bounded_are (all_ascii_digits text) (digits_value 10 text))

pub plain_some : (text : List ℕ) → is_plain text ≡ true → 0 < length text
plain_some text e = ltb-true _ _ (and_parts (nat_lt 0 (length text)) _ e).0

-- ---- a number that is read is spelled

zero_x : (text : List ℕ) → is_hexadecimal text ≡ true → text ≡ codes "0x" ++ drop 2 text
zero_x [] e = absurd cc
zero_x (c ∷ []) e = let parts = and_parts (c == 48) (0 == 120) e in absurd cc
zero_x (c ∷ d ∷ ds) e =
    let parts = and_parts (c == 48) (d == 120) e in
    rw (eqb-true _ _ parts.0, eqb-true _ _ parts.1) refl

bounded_is : (o : Option ℕ) (n : ℕ) → bounded o ≡ Some n → o ≡ Some n
bounded_is None n e = absurd cc
bounded_is (Some k) n e = let p = some_on (nat_lt k (2 ^ 32)) (Some k) n e in p.1

digits_there : (b : Bool) (text : List ℕ) (o : Option ℕ) (n : ℕ) → (length text == 0) ≡ b → cond b None (bounded o) ≡ found n → (0 < length text) × (o ≡ Some n)
digits_there true text o n is e = absurd cc
digits_there false text o n is e = (grind (arith, nat_tests), bounded_is o n e)

hexadecimal_took : (text : List ℕ) (n : ℕ) → is_hexadecimal text ≡ true → hexadecimal_upto_eight text ≡ Some n → IsHexadecimal text n
unfolding digits_in
hexadecimal_took text n is e =
    let short = some_on (nat_le (length text) 10) (digits_in 16 (drop 2 text)) n e in
    let read = digits_there (length (drop 2 text) == 0) (drop 2 text) (digits_after 16 0 (drop 2 text)) n refl short.1 in
    let len = length-drop 2 text in
    record { digits = drop 2 text; text_is = zero_x text is; some = read.0; few = omega (arith, len, leb-true _ _ short.0); value = read.1 }

number_by : (b : Bool) (text : List ℕ) (n : ℕ) → is_hexadecimal text ≡ b → cond b (hexadecimal_upto_eight text) (number_upto most_number text) ≡ Some n → IsNumber text n
number_by true text n is e = inr (hexadecimal_took text n is e)
number_by false text n is e = inl (number_took most_number n text (omega arith) e).0

in_range : (least most n : ℕ) (o : Option ℕ) → within least most o ≡ found n → (o ≡ Some n) × (least ≤ n) × (n ≤ most)
in_range least most n None e = absurd cc
in_range least most n (Some k) e =
    let t = some_on (nat_le least k && nat_le k most) (Some k) n e in
    let parts = and_parts (nat_le least k) (nat_le k most) t.0 in
    let same : k ≡ n = some_is k n t.1 in
    (ap Some same, omega (arith, leb-true _ _ parts.0), omega (arith, leb-true _ _ parts.1))

pub number_spelled : (least most n : ℕ) (text : List ℕ) → number_in least most text ≡ Some n → IsNumber text n × (least ≤ n) × (n ≤ most)
unfolding number_in number_of
number_spelled least most n text e =
    let r = in_range least most n (cond (is_hexadecimal text) (hexadecimal_upto_eight text) (number_upto most_number text)) e in
    (number_by (is_hexadecimal text) text n refl r.0, r.1, r.2)

-- ---- a number that is spelled is read

no_x : (ds : List ℕ) → all_ascii_digits ds ≡ true → is_hexadecimal ds ≡ false
no_x [] e = refl
no_x (c ∷ []) e = and_false (c == 48)
  where
    and_false : (b : Bool) → (b && false) ≡ false
    and_false true = refl
    and_false false = refl
no_x (c ∷ d ∷ ds) e =
    let rest = and_parts (is_ascii_digit c) (all_ascii_digits (d ∷ ds)) e in
    let digit = and_parts (is_ascii_digit d) (all_ascii_digits ds) rest.1 in
    and_no (c == 48) (d == 120) (grind (arith, nat_tests, digit))
  where
    and_no : (a b : Bool) → b ≡ false → (a && b) ≡ false
    and_no true b e = e
    and_no false b e = refl

decimal_read : (n : ℕ) → n ≤ most_number → number_of (decimal n) ≡ Some n
unfolding number_of
decimal_read n small = rw (no_x (decimal n) (decimal_digits n (omega arith))) (number_again most_number n small (omega arith))

hexadecimal_read : (n : ℕ) (digits : List ℕ) → n ≤ most_number → 0 < length digits → length digits ≤ 8 → digits_after 16 0 digits ≡ Some n → number_of (codes "0x" ++ digits) ≡ Some n
unfolding number_of digits_in
hexadecimal_read n digits small some few value =
    let short : nat_le (length (codes "0x" ++ digits)) 10 ≡ true = le-leb _ _ (omega arith) in
    let there : (length digits == 0) ≡ false = ne_eqb _ _ (λ e. omega (arith, e)) in
    let low : nat_lt n (2 ^ 32) ≡ true = grind (arith, nat_tests) in
    rw (short, there, value, low) refl

number_read : (n : ℕ) (text : List ℕ) → n ≤ most_number → IsNumber text n → number_of text ≡ Some n
number_read n text small h = elim h [
  | inl e ↦ ap number_of e ∙ decimal_read n small
  | inr x ↦ ap number_of x.text_is ∙ hexadecimal_read n x.digits small x.some x.few x.value
]

pub number_there : (least most n : ℕ) (text : List ℕ) → most ≤ most_number → IsNumber text n → least ≤ n → n ≤ most → number_in least most text ≡ Some n
unfolding number_in
number_there least most n text small is low high =
    let a : nat_le least n ≡ true = le-leb _ _ low in
    let b : nat_le n most ≡ true = le-leb _ _ high in
    rw (number_read n text (omega arith) is, a, b) refl
