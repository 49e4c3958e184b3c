-- Numbers and their texts.
use Rattle.std.proofs.Common.{◌≡◌, ℕ, ◌<◌, ◌≤◌, ◌^◌, List, [], ◌∷◌, length, get_or, cond, decimal, Bool, true, false, Option, Some, None, refl, sym, ap, ◌∙◌, arith, lit<, inl, inr}
use Rattle.std.specs.Prelude.{◌==◌, ◌&&◌, ◌||◌, not, nat_lt, nat_le, nat_eq}
use Rattle.std.specs.List.{list_all}
use Rattle.std.specs.Char.{is_ascii_digit}
use Rattle.std.specs.Str.{all_ascii_digits}
use Rattle.std.specs.Str.Parse.{digits_value}
use Rattle.std.proofs.lemmas.Bool.{lt-ltb, le-leb, leb-true, ltb-true, eq-eqb, ne_eqb, eqb-true, cases_eq}
use Rattle.std.proofs.lemmas.Bool.Decides.{nat_tests}
use Rattle.std.proofs.lemmas.Str.Parse.{IsNumeralModel, numerals_by_value, tells_all_ascii_digits}
use Rattle.std.proofs.lemmas.Fmt.{digits_decimal, digits_value-decimal, decimal-digits_value, decimal_nonempty, first_decimal, decimal_digit}
use Rattle.board_inputs.specs.Numbers.{value_upto, number_upto, is_plain}
use Rattle.std.proofs.lemmas.Bool.{and_parts}

own : IsNumeralModel (λ ds. all_ascii_digits ds ≡ true) (digits_value 10)
own = numerals_by_value (λ ds. all_ascii_digits ds ≡ true) tells_all_ascii_digits

pub decimal_digits : (n : ℕ) → n < 2 ^ 64 → all_ascii_digits (decimal n) ≡ true
decimal_digits n small = digits_decimal own n small

or_true : (b : Bool) → (b || true) ≡ true
or_true true = refl
or_true false = refl

plain_decimal : (n : ℕ) → n < 2 ^ 64 → is_plain (decimal n) ≡ true
plain_decimal n small = elim (cases_eq n 0) [
  | inl none ↦ rw (none, decimal_digit 0 (lit< tt)) refl
  | inr some ↦
      let long : nat_lt 0 (length (decimal n)) ≡ true = lt-ltb _ _ (decimal_nonempty n small) in
      let first : nat_eq (get_or (decimal n) 0 0) 48 ≡ false = ne_eqb _ _ (λ e. omega (arith, first_decimal n (omega arith) small)) in
      rw (long, first) (or_true (nat_eq (length (decimal n)) 1))
]

-- the text of a number is read as that number
pub number_again : (most n : ℕ) → n ≤ most → n < 2 ^ 64 → number_upto most (decimal n) ≡ Some n
unfolding number_upto value_upto
number_again most n le small =
    let few : nat_le (digits_value 10 (decimal n)) most ≡ true = rw (digits_value-decimal own n small) (le-leb _ _ le) in
    rw (plain_decimal n small, digits_decimal own n small, few, digits_value-decimal own n small) refl

pub some_on : {A : Type 0} (b : Bool) (x : Option A) (y : A) → cond b x None ≡ Some y → (b ≡ true) × (x ≡ Some y)
some_on true x y e = (refl, e)
some_on false x y e = absurd cc

abbrev pub found : {A : Type 0} → A → Option A
found x = Some x

pub some_is : {A : Type 0} (x y : A) → found x ≡ found y → x ≡ y
some_is x y e = cc

leads_one : (text : List ℕ) (b : Bool) → nat_eq (length text) 1 ≡ b → (b || not (nat_eq (get_or text 0 0) 48)) ≡ true → get_or text 0 0 ≡ 48 → length text ≡ 1
leads_one text true one e zero_first = eqb-true _ _ one
leads_one text false one e zero_first =
    let off : not (nat_eq (get_or text 0 0) 48) ≡ false = rw (eq-eqb (get_or text 0 0) 48 zero_first) refl in
    absurd cc

-- a text that is read as a number is its text
pub number_took : (most n : ℕ) (text : List ℕ) → most < 2 ^ 64 → number_upto most text ≡ Some n → (text ≡ decimal n) × (n ≤ most)
unfolding number_upto value_upto
number_took most n text small e =
    let a = some_on (is_plain text) (cond (all_ascii_digits text && nat_le (digits_value 10 text) most) (Some (digits_value 10 text)) None) n e in
    let b = some_on (all_ascii_digits text && nat_le (digits_value 10 text) most) (Some (digits_value 10 text)) n a.1 in
    let plain = and_parts (nat_lt 0 (length text)) (nat_eq (length text) 1 || not (nat_eq (get_or text 0 0) 48)) a.0 in
    let parts = and_parts (all_ascii_digits text) (nat_le (digits_value 10 text) most) b.0 in
    let value : digits_value 10 text ≡ n = some_is _ _ b.1 in
    let le : digits_value 10 text ≤ most = leb-true _ _ parts.1 in
    let spelled : decimal (digits_value 10 text) ≡ text = decimal-digits_value own text parts.0 (ltb-true _ _ plain.0) (leads_one text (nat_eq (length text) 1) refl plain.1) (omega arith) in
    (sym spelled ∙ ap decimal value, omega arith)

abbrev pub has_no : ℕ → List ℕ → Bool
has_no separator = list_all (λ c. not (c == separator))

not_space : (c : ℕ) → is_ascii_digit c ≡ true → not (c == 32) ≡ true
not_space c e = let h : 48 ≤ c = grind (arith, nat_tests) in ap not (ne_eqb c 32 (λ is. omega arith))

pub not_hash : (c : ℕ) → is_ascii_digit c ≡ true → nat_eq c 35 ≡ false
not_hash c e = let h : 48 ≤ c = grind (arith, nat_tests) in ne_eqb c 35 (λ is. omega arith)

digits_only : (ds : List ℕ) → all_ascii_digits ds ≡ true → has_no 32 ds ≡ true
digits_only [] e = refl
digits_only (c ∷ cs) e =
    let parts = and_parts (is_ascii_digit c) (all_ascii_digits cs) e in
    rw (not_space c parts.0) (digits_only cs parts.1)

-- no space stands in a number
pub decimal_only : (n : ℕ) → n < 2 ^ 64 → has_no 32 (decimal n) ≡ true
decimal_only n small = digits_only (decimal n) (digits_decimal own n small)
