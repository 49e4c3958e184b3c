-- A name's text is the slice of the line from its start to its end.
use Rattle.std.proofs.Common.{◌≡◌, ℕ, zero, suc, ◌+◌, ◌-◌, List, [], ◌∷◌, drop, take, map, length, Option, Some, None, Bool, true, false, cond, refl, sym, ap, ◌∙◌, arith}
use Rattle.std.specs.Prelude.{slice_range, slice_index, ℤ, ◌||◌, ◌==◌, nat_le}
use Rattle.std.proofs.lemmas.List.{take-map}
use Rattle.std.specs.List.{prefix_len}
use Rattle.asm_text.specs.declared.byte_class.ByteClass.{ByteClass}
use Rattle.asm_text.specs.declared.byte_class.ByteClass.TheVariants.{Blank, Comment, NameStart, Digit, Minus, Mark, Other}
use Rattle.asm_text.specs.declared.token_kind.TokenKind.{TokenKind}
use Rattle.asm_text.specs.declared.token_kind.TokenKind.TheVariants.{Name, Number, Comma, Colon, Open, Close}
use Rattle.asm_text.specs.declared.lex_fault.LexFault.TheVariants.{TooManyTokens}
use Rattle.asm_text.specs.Bytes.{is_digit, is_number_byte, begins_name, class_of}
use Rattle.asm_text.specs.Numbers.{number_of}
use Rattle.asm_text.specs.Words.{NameWord, NumberWord, MarkWord, word_at, word_by}
use Rattle.asm_text.specs.Pieces.{is_mark}
use Rattle.asm_text.specs.Lexing.{Front, Space, Rest, Taken, NoToken, NoNumber, front_of, front_by, number_front, numbered, more_of, joined, scanned, Lexeme, Lexed, limited, lexed, token_of, tokens_of, words_of, start_at}
use Rattle.asm_text.proofs.Scanning.{drop_on}

-- what a front's word says of the bytes
abbrev Says : ℕ → List ℕ → Front → Type 0
Says b bs Space = Unit {0}
Says b bs Rest = Unit {0}
Says b bs NoToken = Unit {0}
Says b bs NoNumber = Unit {0}
Says b bs (Taken (NameWord t) n) = t ≡ b ∷ take n bs
Says b bs (Taken (NumberWord z) n) = Unit {0}
Says b bs (Taken (MarkWord k) n) = is_mark k ≡ true

abbrev IsGood : ByteClass → Type 0
IsGood Blank = Unit {0}
IsGood Comment = Unit {0}
IsGood NameStart = Unit {0}
IsGood Digit = Unit {0}
IsGood Minus = Unit {0}
IsGood (Mark k) = is_mark k ≡ true
IsGood Other = Unit {0}

good : (t : Bool) (x y : ByteClass) → IsGood x → IsGood y → IsGood (cond t x y)
good true x y p q = p
good false x y p q = q

class_good : (b : ℕ) → IsGood (class_of b)
unfolding class_of
class_good b =
    good (b == 32 || b == 9) Blank _ tt (good (b == 35) Comment _ tt (good (begins_name b) NameStart _ tt (good (is_digit b) Digit _ tt (good (b == 45) Minus _ tt
    (good (b == 44) (Mark Comma) _ refl (good (b == 58) (Mark Colon) _ refl (good (b == 40) (Mark Open) _ refl (good (b == 41) (Mark Close) Other refl tt))))))))

says_number : (o : Option ℤ) (b n : ℕ) (bs : List ℕ) → Says b bs (numbered o n)
says_number None b n bs = tt
says_number (Some z) b n bs = tt

says_either : (t : Bool) (b : ℕ) (bs : List ℕ) (f g : Front) → Says b bs f → Says b bs g → Says b bs (cond t f g)
says_either true b bs f g p q = p
says_either false b bs f g p q = q

says_by : (c : ByteClass) (b : ℕ) (bs : List ℕ) → IsGood c → Says b bs (front_by c b bs)
says_by Blank b bs g = tt
says_by Comment b bs g = tt
says_by NameStart b bs g = refl
says_by Digit b bs g = says_number (number_of (b ∷ take (prefix_len is_number_byte bs) bs)) b (prefix_len is_number_byte bs) bs
says_by Minus b bs g = says_either (is_digit (slice_index bs 0)) b bs (number_front b bs) NoToken (says_number (number_of (b ∷ take (prefix_len is_number_byte bs) bs)) b (prefix_len is_number_byte bs) bs) tt
says_by (Mark k) b bs g = g
says_by Other b bs g = tt

says : (b : ℕ) (bs : List ℕ) → Says b bs (front_of b bs)
unfolding front_of
says b bs = says_by (class_of b) b bs (class_good b)

pub slice_is : (line : List ℕ) (p b n : ℕ) (bs : List ℕ) → drop p line ≡ b ∷ bs → slice_range line p (p + 1 + n) ≡ b ∷ take n bs
slice_is line p b n bs e =
    let count : p + 1 + n - p ≡ suc n = omega arith in
    ap (λ k. take k (drop p line)) count ∙ ap (take (suc n)) e

mark_again : (k : TokenKind) (t : List ℕ) (z : ℤ) → is_mark k ≡ true → word_by k t z ≡ MarkWord k
mark_again Comma t z e = refl
mark_again Colon t z e = refl
mark_again Open t z e = refl
mark_again Close t z e = refl
mark_again Name t z e = cc
mark_again Number t z e = cc

abbrev Told : List ℕ → List Lexeme → Type 0
Told line ls = map (word_at line) (tokens_of ls) ≡ words_of ls

told_joined : (line : List ℕ) (p b : ℕ) (bs : List ℕ) (f : Front) (rest : Lexed) → drop p line ≡ b ∷ bs → Says b bs f → Told line rest.lexemes → Told line (joined f p rest).lexemes
told_joined line p b bs Space rest e s t = t
told_joined line p b bs Rest rest e s t = refl
told_joined line p b bs NoToken rest e s t = refl
told_joined line p b bs NoNumber rest e s t = refl
told_joined line p b bs (Taken (NameWord x) n) rest e s t =
    ap (λ y. NameWord y ∷ map (word_at line) (tokens_of rest.lexemes)) (slice_is line p b n bs e ∙ sym s) ∙ ap (λ ws. NameWord x ∷ ws) t
told_joined line p b bs (Taken (NumberWord z) n) rest e s t = ap (λ ws. NumberWord z ∷ ws) t
told_joined line p b bs (Taken (MarkWord k) n) rest e s t =
    ap (λ w. w ∷ map (word_at line) (tokens_of rest.lexemes)) (mark_again k (slice_range line p (p + 1 + n)) _ s) ∙ ap (λ ws. MarkWord k ∷ ws) t

scanned_told : (line : List ℕ) (skip p : ℕ) (bs : List ℕ) → drop p line ≡ bs → Told line (scanned skip p bs).lexemes
scanned_told line skip p [] e = refl
scanned_told line (suc skip) p (b ∷ bs) e = scanned_told line skip (p + 1) bs (sym (drop_on line 1 p) ∙ ap (drop 1) e)
scanned_told line zero p (b ∷ bs) e =
    told_joined line p b bs (front_of b bs) (scanned (more_of (front_of b bs)) (p + 1) bs) e (says b bs)
    (scanned_told line (more_of (front_of b bs)) (p + 1) bs (sym (drop_on line 1 p) ∙ ap (drop 1) e))

told_few : (line : List ℕ) (s : Lexed) → Told line s.lexemes → Told line (limited s).lexemes
told_few line s t = by_test (nat_le (length s.lexemes) 16)
  where
    by_test : (b : Bool) → Told line (cond b s (record { lexemes = take 16 s.lexemes; fault = Some (TooManyTokens (start_at s.lexemes 16)) })).lexemes
    by_test true = t
    by_test false =
        ap (map (word_at line)) (sym (take-map token_of 16 s.lexemes))
        ∙ sym (take-map (word_at line) 16 (tokens_of s.lexemes))
        ∙ ap (take 16) t
        ∙ take-map (λ l. l.word) 16 s.lexemes

-- the tokens' words are those of the line
pub words_told : (line : List ℕ) → map (word_at line) (tokens_of (lexed line).lexemes) ≡ words_of (lexed line).lexemes
unfolding lexed
words_told line = told_few line (scanned 0 0 line) (scanned_told line 0 0 line refl)
