-- Sets, and names as text.
use Rattle.std.proofs.Common.{◌≡◌, ℕ, zero, suc, ◌<◌, List, [], ◌∷◌, get_or, Bool, true, false, refl, arith, lit<, ℤ}
use Rattle.std.specs.Prelude.{◌&&◌, slice_range, IfSome}
use Rattle.std.proofs.lemmas.Bool.Decides.{nat_tests}
use Rattle.std.specs.Str.{IsUtf8}
use Rattle.std.proofs.lemmas.Str.{IsUtf8-from_ascii}
use Rattle.asm_text.specs.Bytes.{is_name_byte, begins_name}
use Rattle.asm_text.specs.Names.{number_in}
use Rattle.asm_text.specs.Pieces.{all_pass, is_name}
use Rattle.asm_text.specs.Reading.{IsText, IsTokenOf}
use Rattle.asm_text.specs.declared.token.Token.{Token}
use Rattle.asm_text.specs.declared.token_kind.TokenKind.{TokenKind}
use Rattle.asm_text.specs.declared.token_kind.TokenKind.TheVariants.{Name, Number, Comma, Colon, Open, Close}
use Rattle.asm_text.proofs.NameLemmas.{numbers_below}
use Rattle.asm_fields.specs.Fields.{sets}

-- each set is below 16
pub sets_below : (t : List ℕ) → IfSome (number_in sets t) (λ n. n < 16)
sets_below t = numbers_below sets 16 t refl

pub both : (a b : Bool) → (a && b) ≡ true → (a ≡ true) × (b ≡ true)
both true b e = (refl, e)
both false b e = cc

name_byte_low : (b : ℕ) → is_name_byte b ≡ true → b < 128
name_byte_low b e = grind (arith, nat_tests)

begins : (b : ℕ) → begins_name b ≡ true → is_name_byte b ≡ true
begins b e = grind (arith, nat_tests)

low_at : (bs : List ℕ) → all_pass is_name_byte bs ≡ true → (k : ℕ) → get_or bs k 0 < 128
low_at [] e k = lit< tt
low_at (b ∷ bs) e zero = name_byte_low b (both (is_name_byte b) (all_pass is_name_byte bs) e).0
low_at (b ∷ bs) e (suc k) = low_at bs (both (is_name_byte b) (all_pass is_name_byte bs) e).1 k

both_true : (a b : Bool) → a ≡ true → b ≡ true → (a && b) ≡ true
both_true true b e f = f
both_true false b e f = cc

pub name_is_utf8 : (t : List ℕ) → is_name t ≡ true → IsUtf8 t
name_is_utf8 [] e = cc
name_is_utf8 (b ∷ bs) e =
    let split = both (begins_name b) (all_pass is_name_byte bs) e in
    IsUtf8-from_ascii (b ∷ bs) (low_at (b ∷ bs) (both_true (is_name_byte b) (all_pass is_name_byte bs) (begins b split.0) split.1))

name_by : (k : TokenKind) (v : ℤ) (t : List ℕ) (n : ℕ) → k ≡ Name → IsText k v t n → is_name t ≡ true
name_by Name v t n e h = h.0
name_by Number v t n e h = cc
name_by Comma v t n e h = cc
name_by Colon v t n e h = cc
name_by Open v t n e h = cc
name_by Close v t n e h = cc

-- the text of a name is UTF-8
pub token_is_utf8 : (line : List ℕ) (t : Token) → IsTokenOf line t → t.kind ≡ Name → IsUtf8 (slice_range line t.start t.end)
token_is_utf8 line t h e = name_is_utf8 _ (name_by t.kind t.value _ _ e h.text)
