-- Printed pieces are one line.
use Rattle.std.proofs.Common.{◌≡◌, ℕ, suc, ◌^◌, ◌<◌, List, [], ◌∷◌, ◌++◌, Bool, true, false, refl, ap, ◌∙◌, arith}
use Rattle.std.specs.Prelude.{◌&&◌, pos, negsuc}
use Rattle.std.proofs.lemmas.Bool.Decides.{nat_tests}
use Rattle.std.specs.Fmt.{decimal}
use Rattle.asm_text.specs.declared.token_kind.TokenKind.TheVariants.{Name, Number, Comma, Colon, Open, Close}
use Rattle.asm_text.specs.Bytes.{is_digit, is_number_byte, is_name_byte, begins_name}
use Rattle.asm_text.specs.Pieces.{Piece, NamePiece, DecimalPiece, HexPiece, MarkPiece, SpacePiece, all_pass, hex, hex_digits, text_of, printed, is_name, IsReadable, AreReadable, is_inline}
use Rattle.asm_text.proofs.Numerals.{decimals, hexadecimals}

both : (a b : Bool) → (a && b) ≡ true → (a ≡ true) × (b ≡ true)
both true b e = (refl, e)
both false b e = cc

all_of : (a b : Bool) → a ≡ true → b ≡ true → (a && b) ≡ true
all_of a b p q = ap (λ x. x && b) p ∙ q

digit_inline : (b : ℕ) → is_digit b ≡ true → is_inline b ≡ true
digit_inline b h = grind (arith, nat_tests)

number_inline : (b : ℕ) → is_number_byte b ≡ true → is_inline b ≡ true
number_inline b h = grind (arith, nat_tests)

name_inline : (b : ℕ) → is_name_byte b ≡ true → is_inline b ≡ true
name_inline b h = grind (arith, nat_tests)

first_inline : (b : ℕ) → begins_name b ≡ true → is_inline b ≡ true
first_inline b h = grind (arith, nat_tests)

weaker : (q r : ℕ → Bool) (bs : List ℕ) → ((b : ℕ) → q b ≡ true → r b ≡ true) → all_pass q bs ≡ true → all_pass r bs ≡ true
weaker q r [] f e = refl
weaker q r (b ∷ bs) f e = let t = both (q b) (all_pass q bs) e in all_of (r b) (all_pass r bs) (f b t.0) (weaker q r bs f t.1)

pass_append : (q : ℕ → Bool) (as' bs : List ℕ) → all_pass q as' ≡ true → all_pass q bs ≡ true → all_pass q (as' ++ bs) ≡ true
pass_append q [] bs e f = f
pass_append q (a ∷ as') bs e f = let t = both (q a) (all_pass q as') e in all_of (q a) (all_pass q (as' ++ bs)) t.0 (pass_append q as' bs t.1 f)

name_text : (t : List ℕ) → is_name t ≡ true → all_pass is_inline t ≡ true
name_text [] e = cc
name_text (b ∷ bs) e = let t = both (begins_name b) (all_pass is_name_byte bs) e in all_of (is_inline b) (all_pass is_inline bs) (first_inline b t.0) (weaker is_name_byte is_inline bs name_inline t.1)

hex_text : (k n : ℕ) → n < 16 ^ k → all_pass is_inline (hex k n) ≡ true
unfolding hex
hex_text k n h = weaker is_number_byte is_inline (hex_digits k n) number_inline (hexadecimals k n h).digits

piece_inline : (x : Piece) → IsReadable x → all_pass is_inline (text_of x) ≡ true
piece_inline (NamePiece t) r = name_text t r
piece_inline (DecimalPiece (pos n)) r = weaker is_digit is_inline (decimal n) digit_inline (decimals n (omega arith)).digits
piece_inline (DecimalPiece (negsuc n)) r = weaker is_digit is_inline (decimal (suc n)) digit_inline (decimals (suc n) (omega arith)).digits
piece_inline (HexPiece k n) r = hex_text k n r.2
piece_inline (MarkPiece Comma) r = refl
piece_inline (MarkPiece Colon) r = refl
piece_inline (MarkPiece Open) r = refl
piece_inline (MarkPiece Close) r = refl
piece_inline (MarkPiece Name) r = refl
piece_inline (MarkPiece Number) r = refl
piece_inline SpacePiece r = refl

pub one_line : (ps : List Piece) → AreReadable ps → all_pass is_inline (printed ps) ≡ true
one_line [] r = refl
one_line (x ∷ ps) r = pass_append is_inline (text_of x) (printed ps) (piece_inline x r.0) (one_line ps r.1)
