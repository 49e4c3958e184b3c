-- A frame that is written is read as that packet, wherever reading stood.
use Rattle.std.proofs.Common.{◌≡◌, ℕ, ◌+◌, ◌*◌, ◌/◌, ◌%◌, ◌<◌, ◌≤◌, List, [], ◌∷◌, length, true, false, Some, refl, ap, ◌∙◌, arith}
use Rattle.std.specs.Char.{digit_value}
use Rattle.std.specs.Fmt.{digit_glyph}
use Rattle.std.proofs.lemmas.Bool.{lt-ltb, le-leb, eq-eqb}
use Rattle.std.proofs.lemmas.Bool.Decides.{nat_tests}
use Rattle.lab_packets.specs.Digits.{byte_of, byte_digits}
use Rattle.lab_packets.specs.Frames.{Hearing, most_data, are_data, is_sum, checksum, summed, messages, Whole, framed}
use Rattle.lab_packets.specs.Stream.{Frame, is_no_dollar, item_text, item_messages}
use Rattle.lab_packets.proofs.ItemsRead.{frame_ends}

glyph_plain : (n : ℕ) → is_no_dollar (digit_glyph false n) ≡ true
glyph_plain n = grind (arith, nat_tests)

glyph_value : (n : ℕ) → n < 16 → digit_value (digit_glyph false n) ≡ n
glyph_value n h = grind (arith, nat_tests)

pub byte_again : (n : ℕ) → n < 256 → byte_of (digit_glyph false (n / 16)) (digit_glyph false (n % 16)) ≡ Some n
unfolding byte_of
byte_again n h =
    let high = glyph_value (n / 16) (omega arith) in
    let low = glyph_value (n % 16) (omega arith) in
    let whole : n / 16 * 16 + n % 16 ≡ n = omega arith in
    rw (high, low, lt-ltb (n / 16) 16 (omega arith), lt-ltb (n % 16) 16 (omega arith), whole) refl

summed_small : (sum : ℕ) (bytes : List ℕ) → sum < 256 → summed sum bytes < 256
summed_small sum [] h = h
summed_small sum (b ∷ bytes) h = summed_small ((sum + b) % 256) bytes (omega arith)

checksum_small : (bytes : List ℕ) → checksum bytes < 256
unfolding checksum
checksum_small bytes = summed_small 0 bytes (omega arith)

sum_again : (bytes : List ℕ) → is_sum bytes (digit_glyph false (checksum bytes / 16)) (digit_glyph false (checksum bytes % 16)) ≡ true
sum_again bytes = rw (byte_again (checksum bytes) (checksum_small bytes)) (eq-eqb (checksum bytes) (checksum bytes) refl)

-- ---- the whole frame

abbrev first_digit : List ℕ → ℕ
first_digit bytes = digit_glyph false (checksum bytes / 16)

abbrev second_digit : List ℕ → ℕ
second_digit bytes = digit_glyph false (checksum bytes % 16)

framed_is : (bytes : List ℕ) → framed bytes ≡ item_text (Frame bytes (first_digit bytes) (second_digit bytes))
unfolding framed byte_digits
framed_is bytes = refl

told_is : (bytes : List ℕ) → length bytes ≤ most_data → item_messages (Frame bytes (first_digit bytes) (second_digit bytes)) ≡ Whole bytes ∷ []
told_is bytes l = rw (le-leb (length bytes) most_data l, sum_again bytes) refl

pub frame_told : (h : Hearing) (bytes : List ℕ) → are_data bytes ≡ true → length bytes ≤ most_data → messages h (framed bytes) ≡ Whole bytes ∷ []
frame_told h bytes e l =
    ap (messages h) (framed_is bytes)
    ∙ (frame_ends h bytes (first_digit bytes) (second_digit bytes) e (glyph_plain (checksum bytes / 16)) (glyph_plain (checksum bytes % 16))).tells
    ∙ told_is bytes l
