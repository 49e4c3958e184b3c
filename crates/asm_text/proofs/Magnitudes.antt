-- A number that is read is below 2 ^ 32, and above its negative.
use Rattle.std.proofs.Common.{◌≡◌, ℕ, ◌^◌, ◌<◌, List, drop, length, Option, Some, None, Bool, true, false, cond, refl, arith}
use Rattle.std.specs.Prelude.{ℤ, pos, neg_ℤ, ◌==◌, nat_lt, slice_index, slice_range}
use Rattle.std.proofs.lemmas.Bool.Decides.{nat_tests}
use Rattle.std.proofs.lemmas.Int.{ints}
use Rattle.asm_text.specs.declared.token.Token.{Token}
use Rattle.asm_text.specs.declared.token_kind.TokenKind.{TokenKind}
use Rattle.asm_text.specs.declared.token_kind.TokenKind.TheVariants.{Name, Number, Comma, Colon, Open, Close}
use Rattle.asm_text.specs.Numbers.{digits_after, bounded, digits_in, magnitude, is_hexadecimal, above_zero, below_zero, number_of}
use Rattle.asm_text.specs.Reading.{IsText, IsTokenOf, IsSmall}

bounded_by : (n m : ℕ) (t : Bool) → nat_lt n (2 ^ 32) ≡ t → cond t (Some n) None ≡ Some m → m < 2 ^ 32
bounded_by n m true e f = let same : n ≡ m = cc in let low : n < 2 ^ 32 = grind (arith, nat_tests) in omega arith
bounded_by n m false e f = cc

bounded_small : (o : Option ℕ) (m : ℕ) → bounded o ≡ Some m → m < 2 ^ 32
bounded_small None m e = cc
bounded_small (Some n) m e = bounded_by n m (nat_lt n (2 ^ 32)) refl e

digits_by : (t : Bool) (o : Option ℕ) (m : ℕ) → cond t None (bounded o) ≡ Some m → m < 2 ^ 32
digits_by true o m e = cc
digits_by false o m e = bounded_small o m e

digits_small : (base : ℕ) (text : List ℕ) (m : ℕ) → digits_in base text ≡ Some m → m < 2 ^ 32
unfolding digits_in
digits_small base text m e = digits_by (length text == 0) (digits_after base 0 text) m e

magnitude_by : (t : Bool) (text : List ℕ) (m : ℕ) → cond t (digits_in 16 (drop 2 text)) (digits_in 10 text) ≡ Some m → m < 2 ^ 32
magnitude_by true text m e = digits_small 16 (drop 2 text) m e
magnitude_by false text m e = digits_small 10 text m e

magnitude_small : (text : List ℕ) (m : ℕ) → magnitude text ≡ Some m → m < 2 ^ 32
unfolding magnitude
magnitude_small text m e = magnitude_by (is_hexadecimal text) text m e

positive : (n : ℕ) → n < 2 ^ 32 → IsSmall (pos n)
positive n h = record { low = omega (arith, ints); high = omega (arith, ints) }

negative : (n : ℕ) → n < 2 ^ 32 → IsSmall (neg_ℤ (pos n))
negative n h = record { low = omega (arith, ints); high = omega (arith, ints) }

above : (o : Option ℕ) (z : ℤ) → ((m : ℕ) → o ≡ Some m → m < 2 ^ 32) → above_zero o ≡ Some z → IsSmall z
above None z f e = cc
above (Some n) z f e = let same : pos n ≡ z = cc in rw (← same) (positive n (f n refl))

below : (o : Option ℕ) (z : ℤ) → ((m : ℕ) → o ≡ Some m → m < 2 ^ 32) → below_zero o ≡ Some z → IsSmall z
below None z f e = cc
below (Some n) z f e = let same : neg_ℤ (pos n) ≡ z = cc in rw (← same) (negative n (f n refl))

number_by : (t : Bool) (text : List ℕ) (z : ℤ) → cond t (below_zero (magnitude (drop 1 text))) (above_zero (magnitude text)) ≡ Some z → IsSmall z
number_by true text z e = below (magnitude (drop 1 text)) z (magnitude_small (drop 1 text)) e
number_by false text z e = above (magnitude text) z (magnitude_small text) e

number_small : (text : List ℕ) (z : ℤ) → number_of text ≡ Some z → IsSmall z
unfolding number_of
number_small text z e = number_by (slice_index text 0 == 45) text z e

zero_small : (z : ℤ) → z ≡ pos 0 → IsSmall z
zero_small z e = rw e (positive 0 (omega arith))

text_small : (k : TokenKind) (z : ℤ) (text : List ℕ) (next : ℕ) → IsText k z text next → IsSmall z
text_small Name z text next h = zero_small z h.2
text_small Number z text next h = number_small text z h.1
text_small Comma z text next h = zero_small z h.1
text_small Colon z text next h = zero_small z h.1
text_small Open z text next h = zero_small z h.1
text_small Close z text next h = zero_small z h.1

pub token_small : (line : List ℕ) (t : Token) → IsTokenOf line t → IsSmall t.value
token_small line t h = text_small t.kind t.value (slice_range line t.start t.end) (slice_index line t.end) h.text
