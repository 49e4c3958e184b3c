-- Digits that were written are read as what they were written for.
use Rattle.std.proofs.Common.{◌≡◌, ℕ, suc, ◌+◌, ◌*◌, ◌/◌, ◌%◌, ◌<◌, ◌^◌, List, [], ◌∷◌, ◌++◌, append_assoc, append-nil, Option, Some, false, refl, sym, ap, ◌∙◌, arith}
use Rattle.std.specs.List.{All}
use Rattle.std.specs.Fmt.{digit_glyph}
use Rattle.lab_packets.specs.Digits.{byte_of, bytes_behind, bytes_of, on_byte, byte_digits, bytes_digits}
use Rattle.lab_packets.specs.Numbers.{word_of, word_from}
use Rattle.lab_packets.specs.Answers.{word_digits}
use Rattle.lab_packets.proofs.FrameLaw.{byte_again}

abbrev some_bytes : List ℕ → Option (List ℕ)
some_bytes bs = Some bs

abbrev some_word : ℕ → Option ℕ
some_word v = Some v

bytes_onto : (bs front : List ℕ) → All (λ b. b < 256) bs → bytes_behind front (bytes_digits bs) ≡ Some (front ++ bs)
unfolding byte_digits
bytes_onto [] front h = ap some_bytes (sym (append-nil front))
bytes_onto (b ∷ bs) front h =
    ap (λ o. on_byte o (λ c. bytes_behind (front ++ c ∷ []) (bytes_digits bs))) (byte_again b (h 0 0 (omega arith)))
    ∙ bytes_onto bs (front ++ b ∷ []) (λ k d l. h (suc k) d (omega arith))
    ∙ ap some_bytes (append_assoc front (b ∷ []) bs)

pub bytes_again : (bs : List ℕ) → All (λ b. b < 256) bs → bytes_of (bytes_digits bs) ≡ Some bs
unfolding bytes_of
bytes_again bs h = bytes_onto bs [] h

digits_word : (v : ℕ) → word_of (word_digits v) ≡ word_from (byte_of (digit_glyph false (v % 0x100 / 16)) (digit_glyph false (v % 0x100 % 16))) (byte_of (digit_glyph false (v / 0x100 % 0x100 / 16)) (digit_glyph false (v / 0x100 % 0x100 % 16))) (byte_of (digit_glyph false (v / 0x1_0000 % 0x100 / 16)) (digit_glyph false (v / 0x1_0000 % 0x100 % 16))) (byte_of (digit_glyph false (v / 0x100_0000 / 16)) (digit_glyph false (v / 0x100_0000 % 16)))
unfolding word_of word_digits byte_digits
digits_word v = refl

joined : (v : ℕ) → v % 0x100 + v / 0x100 % 0x100 * 0x100 + v / 0x1_0000 % 0x100 * 0x1_0000 + v / 0x100_0000 * 0x100_0000 ≡ v
joined v = omega arith

four : {a b c d : Option ℕ} (p q r t : ℕ) → a ≡ Some p → b ≡ Some q → c ≡ Some r → d ≡ Some t → word_from a b c d ≡ Some (p + q * 0x100 + r * 0x1_0000 + t * 0x100_0000)
four p q r t e f g h = rw (e, f, g, h) refl

pub word_again : (v : ℕ) → v < 2 ^ 32 → word_of (word_digits v) ≡ Some v
word_again v h =
    digits_word v
    ∙ four (v % 0x100) (v / 0x100 % 0x100) (v / 0x1_0000 % 0x100) (v / 0x100_0000)
    (byte_again (v % 0x100) (omega arith)) (byte_again (v / 0x100 % 0x100) (omega arith)) (byte_again (v / 0x1_0000 % 0x100) (omega arith)) (byte_again (v / 0x100_0000) (omega arith))
    ∙ ap some_word (joined v)
