-- Answers have none of the bytes that would have to be escaped.
use Rattle.std.proofs.Common.{◌≡◌, ℕ, zero, suc, ◌+◌, ◌-◌, ◌/◌, ◌%◌, ◌<◌, ◌^◌, List, [], ◌∷◌, ◌++◌, take, drop, min, length, Bool, true, false, cond, codes, refl, ◌∙◌, arith}
use Rattle.std.specs.Prelude.{◌&&◌, nat_lt}
use Rattle.std.specs.List.{All}
use Rattle.std.specs.Fmt.{digit_glyph}
use Rattle.std.proofs.lemmas.Bool.{and_parts}
use Rattle.std.proofs.lemmas.Bool.Decides.{nat_tests}
use Rattle.std.proofs.lemmas.List.Folds.{list_all-append}
use Rattle.lab_packets.specs.Digits.{byte_digits, bytes_digits}
use Rattle.lab_packets.specs.Frames.{most_data, may_stand, are_data}
use Rattle.lab_packets.specs.Answers.{reply_data, word_digits, words_digits, console_data, hex_upto, stop_data, target_text, text_piece, is_unescaped, are_unescaped}
use Rattle.lab_packets.specs.declared.reply.Reply.{Reply}
use Rattle.lab_packets.specs.declared.reply.Reply.TheVariants.{Supports, Done, Refuses, NoFile, Empty}
use Rattle.lab_packets.specs.declared.stop.Stop.{Stop}
use Rattle.lab_packets.specs.declared.stop.Stop.TheVariants.{Trap, Watched, Begin, Halted, Exception, NoVector, Bounded}

and_both : (a b : Bool) → a ≡ true → b ≡ true → (a && b) ≡ true
and_both a b p q = rw (p, q) refl

pub two : (xs ys : List ℕ) → are_unescaped xs ≡ true → are_unescaped ys ≡ true → are_unescaped (xs ++ ys) ≡ true
two xs ys p q = list_all-append is_unescaped xs ys ∙ and_both _ _ p q

-- ---- digits

glyph : (d : ℕ) → d < 16 → is_unescaped (digit_glyph false d) ≡ true
glyph d h = grind (arith, nat_tests)

byte : (b : ℕ) → b < 256 → are_unescaped (byte_digits b) ≡ true
unfolding byte_digits
byte b h = rw (glyph (b / 16) (omega arith), glyph (b % 16) (omega arith)) refl

pub bytes : (bs : List ℕ) → All (λ b. b < 256) bs → are_unescaped (bytes_digits bs) ≡ true
bytes [] h = refl
bytes (b ∷ bs) h = two (byte_digits b) (bytes_digits bs) (byte b (h 0 0 (omega arith))) (bytes bs (λ k d l. h (suc k) d (omega arith)))

four : (a b c d : List ℕ) → are_unescaped a ≡ true → are_unescaped b ≡ true → are_unescaped c ≡ true → are_unescaped d ≡ true → are_unescaped (((a ++ b) ++ c) ++ d) ≡ true
four a b c d p q r t = two ((a ++ b) ++ c) d (two (a ++ b) c (two a b p q) r) t

word : (v : ℕ) → v < 2 ^ 32 → are_unescaped (word_digits v) ≡ true
unfolding word_digits
word v h =
    four (byte_digits (v % 0x100)) (byte_digits (v / 0x100 % 0x100)) (byte_digits (v / 0x1_0000 % 0x100)) (byte_digits (v / 0x100_0000))
    (byte (v % 0x100) (omega arith)) (byte (v / 0x100 % 0x100) (omega arith)) (byte (v / 0x1_0000 % 0x100) (omega arith)) (byte (v / 0x100_0000) (omega arith))

pub words : (vs : List ℕ) → All (λ v. v < 2 ^ 32) vs → are_unescaped (words_digits vs) ≡ true
words [] h = refl
words (v ∷ vs) h = two (word_digits v) (words_digits vs) (word v (h 0 0 (omega arith))) (words vs (λ k d l. h (suc k) d (omega arith)))

pub console : (bs : List ℕ) → All (λ b. b < 256) bs → are_unescaped (console_data bs) ≡ true
unfolding console_data
console bs h = bytes bs h

-- ---- replies and stops

pub reply : (r : Reply) → are_unescaped (reply_data r) ≡ true
reply Supports = refl
reply Done = refl
reply Refuses = refl
reply NoFile = refl
reply Empty = refl

either : (b : Bool) (xs ys : List ℕ) → (b ≡ true → are_unescaped xs ≡ true) → are_unescaped ys ≡ true → are_unescaped (cond b xs ys) ≡ true
either true xs ys p q = p refl
either false xs ys p q = q

hex : (count v : ℕ) → are_unescaped (hex_upto count v) ≡ true
hex zero v = refl
hex (suc count) v =
    let last : are_unescaped (digit_glyph false (v % 16) ∷ []) ≡ true = rw (glyph (v % 16) (omega arith)) refl in
    either (nat_lt v 16) _ _
    (λ e. let small : v < 16 = grind (arith, nat_tests) in rw (glyph v small) refl)
    (two (hex_upto count (v / 16)) (digit_glyph false (v % 16) ∷ []) (hex count (v / 16)) last)

pub stop : (s : Stop) → are_unescaped (stop_data s) ≡ true
unfolding stop_data
stop Trap = refl
stop (Watched at) = two (codes "T05watch:") (hex_upto 8 at ++ codes ";") refl (two (hex_upto 8 at) (codes ";") (hex 8 at) refl)
stop Begin = refl
stop (Halted code steps) = refl
stop (Exception code at) = refl
stop (NoVector input) = refl
stop (Bounded steps) = refl

-- ---- pieces

dropped : (n : ℕ) (xs : List ℕ) → are_unescaped xs ≡ true → are_unescaped (drop n xs) ≡ true
dropped zero xs h = h
dropped (suc n) [] h = refl
dropped (suc n) (x ∷ xs) h = dropped n xs (and_parts (is_unescaped x) (are_unescaped xs) h).1

taken : (n : ℕ) (xs : List ℕ) → are_unescaped xs ≡ true → are_unescaped (take n xs) ≡ true
taken zero xs h = refl
taken (suc n) [] h = refl
taken (suc n) (x ∷ xs) h =
    let parts = and_parts (is_unescaped x) (are_unescaped xs) h in
    and_both _ _ parts.0 (taken n xs parts.1)

letter : (more : Bool) → is_unescaped (cond more 109 108) ≡ true
letter true = refl
letter false = refl

pub piece : (text : List ℕ) (offset count : ℕ) → are_unescaped text ≡ true → are_unescaped (text_piece text offset count) ≡ true
unfolding text_piece
piece text offset count h =
    either (nat_lt (length text) offset) _ _ (λ e. refl)
    (and_both _ _ (letter (nat_lt (offset + length (take (min count (most_data - 1)) (drop offset text))) (length text))) (taken (min count (most_data - 1)) (drop offset text) (dropped offset text h)))

pub target : are_unescaped target_text ≡ true
unfolding target_text
target = refl

-- ---- what needs no escape may stand in a packet

may : (b : ℕ) → is_unescaped b ≡ true → may_stand b ≡ true
may b h = (and_parts (may_stand b) _ h).0

pub stands : (bs : List ℕ) → are_unescaped bs ≡ true → are_data bs ≡ true
stands [] h = refl
stands (b ∷ bs) h =
    let parts = and_parts (is_unescaped b) (are_unescaped bs) h in
    and_both _ _ (may b parts.0) (stands bs parts.1)
