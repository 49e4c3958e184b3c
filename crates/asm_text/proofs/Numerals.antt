-- Decimal and hexadecimal digits are read as their number.
use Rattle.std.proofs.Common.{◌≡◌, ℕ, zero, suc, ◌+◌, ◌*◌, ◌/◌, ◌%◌, ◌^◌, ◌<◌, ◌≤◌, List, [], ◌∷◌, ◌++◌, length, Option, Some, None, Bool, true, false, cond, refl, ap, ◌∙◌, arith, lit<, length-append}
use Rattle.std.specs.Prelude.{nat_lt, ◌&&◌}
use Rattle.std.proofs.lemmas.Bool.Decides.{nat_tests}
use Rattle.std.proofs.lemmas.Fmt.{decimal_by_steps}
use Rattle.std.proofs.Math.Nat.{pow-succ'}
use Rattle.std.specs.Char.{digit_value}
use Rattle.std.specs.Fmt.{digit_glyph, decimal}
use Rattle.asm_text.specs.Bytes.{is_digit, is_number_byte}
use Rattle.asm_text.specs.Numbers.{digits_after}
use Rattle.asm_text.specs.Pieces.{all_pass, hex_digits}

pub digit_is : (n : ℕ) → n < 10 → digit_value (48 + n) ≡ n
digit_is n h = grind (arith, nat_tests)

pub digit_digit : (n : ℕ) → n < 10 → is_digit (48 + n) ≡ true
digit_digit n h = grind (arith, nat_tests)

pub glyph_is : (n : ℕ) → n < 16 → digit_value (digit_glyph true n) ≡ n
glyph_is n h = grind (arith, nat_tests)

pub glyph_byte : (n : ℕ) → n < 16 → is_number_byte (digit_glyph true n) ≡ true
glyph_byte n h = grind (arith, nat_tests)

test_of : (m n : ℕ) → m < n → nat_lt m n ≡ true
test_of m n h = grind (arith, nat_tests)

push_by : (t : Bool) (o p : Option ℕ) (n v : ℕ) → (o ≡ Some n → p ≡ Some v) → cond t o None ≡ Some n → cond t p None ≡ Some v
push_by true o p n v f e = f e
push_by false o p n v f e = cc

-- one digit more
pub digits_push : (base m n : ℕ) (ds : List ℕ) (c : ℕ) → digits_after base m ds ≡ Some n → digit_value c < base → digits_after base m (ds ++ c ∷ []) ≡ Some (n * base + digit_value c)
digits_push base m n [] c e h =
    let same : m ≡ n = cc in
    ap (λ t. cond t (Some (m * base + digit_value c)) None) (test_of (digit_value c) base h) ∙ ap (λ k. Some (k * base + digit_value c)) same
digits_push base m n (d ∷ ds) c e h =
    push_by (nat_lt (digit_value d) base) _ _ n (n * base + digit_value c) (λ f. digits_push base (m * base + digit_value d) n ds c f h) e

pub pass_push : (q : ℕ → Bool) (ds : List ℕ) (c : ℕ) → all_pass q ds ≡ true → q c ≡ true → all_pass q (ds ++ c ∷ []) ≡ true
pass_push q [] c e h = rw h refl
pass_push q (d ∷ ds) c e h = pass_by (q d) (all_pass q ds) (all_pass q (ds ++ c ∷ [])) (λ f. pass_push q ds c f h) e
  where
    pass_by : (t o p : Bool) → (o ≡ true → p ≡ true) → (t && o) ≡ true → (t && p) ≡ true
    pass_by true o p f e = f e
    pass_by false o p f e = cc

pub record Decimals (n : ℕ) (ds : List ℕ) : Type 0 where
  pub value : digits_after 10 0 ds ≡ Some n
  pub digits : all_pass is_digit ds ≡ true
  pub some : 0 < length ds

pub decimals : (n : ℕ) → n < 2 ^ 64 → Decimals n (decimal n)
decimals n h = decimal_by_steps Decimals one more n h
  where
    one : (n : ℕ) → n < 10 → Decimals n ((48 + n) ∷ [])
    one n h = record {
      value = digits_push 10 0 0 [] (48 + n) refl (rw (digit_is n h) h) ∙ ap Some (let e : 0 * 10 + digit_value (48 + n) ≡ n = omega (arith, digit_is n h) in e);
      digits = pass_push is_digit [] (48 + n) refl (digit_digit n h);
      some = lit< tt;
    }

    more : (n : ℕ) (ds : List ℕ) → 10 ≤ n → Decimals (n / 10) ds → Decimals n (ds ++ (48 + n % 10) ∷ [])
    more n ds h d =
        let low : n % 10 < 10 = omega arith in
        record {
          value = digits_push 10 0 (n / 10) ds (48 + n % 10) d.value (rw (digit_is (n % 10) low) low) ∙ ap Some (let e : n / 10 * 10 + digit_value (48 + n % 10) ≡ n = omega (arith, digit_is (n % 10) low) in e);
          digits = pass_push is_digit ds (48 + n % 10) d.digits (digit_digit (n % 10) low);
          some = omega (arith, length-append ds ((48 + n % 10) ∷ []));
        }

pub record Hexadecimals (k n : ℕ) (ds : List ℕ) : Type 0 where
  pub value : digits_after 16 0 ds ≡ Some n
  pub digits : all_pass is_number_byte ds ≡ true
  pub count : length ds ≡ k

pub hexadecimals : (k n : ℕ) → n < 16 ^ k → Hexadecimals k n (hex_digits k n)
hexadecimals zero n h = record { value = ap Some (let e : 0 ≡ n = omega arith in e); digits = refl; count = refl }
hexadecimals (suc k) n h =
    let low : n % 16 < 16 = omega arith in
    let power : 16 ^ (suc k) ≡ 16 * 16 ^ k = pow-succ' 16 k in
    let high : n / 16 < 16 ^ k = omega arith in
    let before = hexadecimals k (n / 16) high in
    record {
      value = digits_push 16 0 (n / 16) (hex_digits k (n / 16)) (digit_glyph true (n % 16)) before.value (rw (glyph_is (n % 16) low) low) ∙ ap Some (let e : n / 16 * 16 + digit_value (digit_glyph true (n % 16)) ≡ n = omega (arith, glyph_is (n % 16) low) in e);
      digits = pass_push is_number_byte (hex_digits k (n / 16)) (digit_glyph true (n % 16)) before.digits (glyph_byte (n % 16) low);
      count = omega (arith, before.count, length-append (hex_digits k (n / 16)) (digit_glyph true (n % 16) ∷ []));
    }
