-- What is lexed is what it is to read the line.
use Rattle.std.proofs.Common.{◌≡◌, ℕ, zero, suc, ◌+◌, ◌-◌, ◌<◌, ◌≤◌, List, [], ◌∷◌, drop, take, length, Option, Some, None, Bool, true, false, cond, refl, sym, ap, subst, ◌∙◌, arith, inl, inr}
use Rattle.std.specs.Prelude.{slice_index, slice_index_or, slice_range, All, nat_le, ◌⊎◌, ◌&&◌}
use Rattle.std.specs.List.{prefix_len}
use Rattle.std.proofs.lemmas.List.{get_or-drop, length-map, length-take-le}
use Rattle.std.proofs.lemmas.List.Sums.{prefix_len-le-length}
use Rattle.std.proofs.lemmas.Bool.Decides.{nat_tests}
use Rattle.asm_text.specs.declared.token.Token.{Token}
use Rattle.asm_text.specs.declared.lex_fault.LexFault.{LexFault}
use Rattle.asm_text.specs.declared.lex_fault.LexFault.TheVariants.{BadChar, BadNumber, TooManyTokens}
use Rattle.asm_text.specs.Bytes.{is_number_byte}
use Rattle.asm_text.specs.Numbers.{number_of}
use Rattle.asm_text.specs.Words.{Word, placed, kind_of, value_of}
use Rattle.asm_text.specs.Lexing.{Front, Space, Rest, Taken, NoToken, NoNumber, front_of, more_of, joined, scanned, Lexeme, Lexed, lexed, token_of, tokens_of, start_at}
use Rattle.asm_text.specs.Fronts.{answer_of}
use Rattle.asm_text.specs.Pieces.{all_pass}
use Rattle.asm_text.specs.Reading.{is_blank, begins_nothing, IsGap, IsNumberText, IsText, IsTokenOf, AreTokens, IsBadNumber, BeginsToken, EndsWith, IsRead}
use Rattle.asm_text.proofs.FrontFacts.{Means, means, TokenText, BadText}
use Rattle.asm_text.proofs.Scanning.{drop_on}
use Rattle.asm_text.proofs.Texts.{slice_is}

-- the line from a place on
pub record At (line : List ℕ) (p b : ℕ) (bs : List ℕ) : Type 0 where
  pub here : drop p line ≡ b ∷ bs
  pub len : p + 1 + length bs ≡ length line

after : (line : List ℕ) (p b : ℕ) (bs : List ℕ) → drop p line ≡ b ∷ bs → drop (p + 1) line ≡ bs
after line p b bs e = sym (drop_on line 1 p) ∙ ap (drop 1) e

byte_is : (line : List ℕ) (p b : ℕ) (bs : List ℕ) → drop p line ≡ b ∷ bs → slice_index line p ≡ b
byte_is line p b bs e = ap (slice_index line) (let z : p ≡ p + 0 = omega arith in z) ∙ sym (get_or-drop p line 0 0) ∙ ap (λ xs. slice_index xs 0) e

next_is : (line : List ℕ) (p b n : ℕ) (bs : List ℕ) → drop p line ≡ b ∷ bs → slice_index line (p + 1 + n) ≡ slice_index bs n
next_is line p b n bs e = sym (get_or-drop (p + 1) line n 0) ∙ ap (λ xs. slice_index xs n) (after line p b bs e)

first_is : (line : List ℕ) (p b : ℕ) (bs : List ℕ) → drop p line ≡ b ∷ bs → slice_index line (p + 1) ≡ slice_index bs 0
first_is line p b bs e = ap (slice_index line) (let z : p + 1 ≡ p + 1 + 0 = omega arith in z) ∙ next_is line p b 0 bs e

-- no blank, and a blank before others
no_gap : (line : List ℕ) (p : ℕ) → IsGap line p p
no_gap line p = record {
  inside = omega arith;
  blank = ap (λ k. all_pass is_blank (take k (drop p line))) (let z : p - p ≡ 0 = omega arith in z);
}

wider : (line : List ℕ) (p b q : ℕ) (bs : List ℕ) → drop p line ≡ b ∷ bs → is_blank b ≡ true → IsGap line (p + 1) q → IsGap line p q
wider line p b q bs e h g =
    let k = q - (p + 1) in
    let low : p + 1 ≤ q = g.inside in
    let count : q - p ≡ suc k = omega arith in
    let rest : all_pass is_blank (take k bs) ≡ true = sym (ap (λ xs. all_pass is_blank (take k xs)) (after line p b bs e)) ∙ g.blank in
    record {
      inside = omega arith;
      blank = ap (λ m. all_pass is_blank (take m (drop p line))) count ∙ ap (λ xs. all_pass is_blank (take (suc k) xs)) e ∙ ap (λ x. x && all_pass is_blank (take k bs)) h ∙ rest;
    }

blank_first : (line : List ℕ) (ts : List Token) (p b stop : ℕ) (bs : List ℕ) → drop p line ≡ b ∷ bs → is_blank b ≡ true → AreTokens line ts (p + 1) stop → AreTokens line ts p stop
blank_first line [] p b stop bs e h a = wider line p b stop bs e h a
blank_first line (t ∷ ts) p b stop bs e h a = (wider line p b t.start bs e h a.0, a.1, a.2)

-- why the scan ends at a place
abbrev Halts : List ℕ → Option LexFault → ℕ → Type 0
Halts line None stop = (stop ≡ length line) ⊎ (slice_index line stop ≡ 35)
Halts line (Some (BadChar place)) stop = (place ≡ stop) × (place < length line) × (begins_nothing (slice_index line place) (slice_index line (place + 1)) ≡ true)
Halts line (Some (BadNumber place)) stop = (place ≡ stop) × IsBadNumber line place
Halts line (Some (TooManyTokens place)) stop = ⊥

-- what is read from a place on
record Reads (line : List ℕ) (from : ℕ) (s : Lexed) : Type 0 where
  pub stop : ℕ
  pub all : AreTokens line (tokens_of s.lexemes) from stop
  pub ends : Halts line s.fault stop

moved : (line : List ℕ) (p q : ℕ) (s : Lexed) → p ≡ q → Reads line p s → Reads line q s
moved line p q s e r = let P : ℕ → Type 0 = λ x. Reads line x s in subst P e r

bad_char : (line : List ℕ) (p b : ℕ) (bs : List ℕ) → At line p b bs → begins_nothing b (slice_index bs 0) ≡ true → Halts line (Some (BadChar p)) p
bad_char line p b bs h m = (refl, omega (arith, h.len), ap (λ x. begins_nothing x (slice_index line (p + 1))) (byte_is line p b bs h.here) ∙ ap (begins_nothing b) (first_is line p b bs h.here) ∙ m)

bad_number : (line : List ℕ) (p b : ℕ) (bs : List ℕ) → At line p b bs → BadText b bs → IsBadNumber line p
bad_number line p b bs h m =
    let n = prefix_len is_number_byte bs in
    let short : n ≤ length bs = prefix_len-le-length is_number_byte bs in
    record {
      stop = p + 1 + n;
      some = omega arith;
      inside = omega (arith, h.len);
      text =
          (let P : List ℕ → Type 0 = λ xs. IsNumberText xs (slice_index line (p + 1 + n)) in
          let Q : ℕ → Type 0 = λ x. IsNumberText (b ∷ take n bs) x in
          subst P (sym (slice_is line p b n bs h.here)) (subst Q (sym (next_is line p b n bs h.here)) m.text));
      refused = ap number_of (slice_is line p b n bs h.here) ∙ m.refused;
    }

token_is : (line : List ℕ) (p b n : ℕ) (bs : List ℕ) (w : Word) → At line p b bs → TokenText b bs w n → IsTokenOf line (placed w p (p + 1 + n))
token_is line p b n bs w h m =
    let text : IsText (kind_of w) (value_of w) (slice_range line p (p + 1 + n)) (slice_index line (p + 1 + n)) =
    let P : List ℕ → Type 0 = λ xs. IsText (kind_of w) (value_of w) xs (slice_index line (p + 1 + n)) in
    let Q : ℕ → Type 0 = λ x. IsText (kind_of w) (value_of w) (b ∷ take n bs) x in
    subst P (sym (slice_is line p b n bs h.here)) (subst Q (sym (next_is line p b n bs h.here)) m.text)
    in
    record { some = omega arith; inside = omega (arith, h.len, m.inside); text = text }

-- what a front makes of the rest
reads_joined : (line : List ℕ) (p b : ℕ) (bs : List ℕ) (f : Front) (rest : Lexed) → At line p b bs → Means b bs f → Reads line (p + 1 + more_of f) rest → Reads line p (joined f p rest)
reads_joined line p b bs Space rest h m r =
    let next = moved line (p + 1 + 0) (p + 1) rest (omega arith) r in
    record { stop = next.stop; all = blank_first line (tokens_of rest.lexemes) p b next.stop bs h.here m next.all; ends = next.ends }
reads_joined line p b bs Rest rest h m r = record { stop = p; all = no_gap line p; ends = inr (byte_is line p b bs h.here ∙ m) }
reads_joined line p b bs NoToken rest h m r = record { stop = p; all = no_gap line p; ends = bad_char line p b bs h m }
reads_joined line p b bs NoNumber rest h m r = record { stop = p; all = no_gap line p; ends = (refl, bad_number line p b bs h m) }
reads_joined line p b bs (Taken w n) rest h m r = record { stop = r.stop; all = (no_gap line p, token_is line p b n bs w h m, r.all); ends = r.ends }

more_inside : (b : ℕ) (bs : List ℕ) (f : Front) → Means b bs f → more_of f ≤ length bs
more_inside b bs Space m = omega arith
more_inside b bs Rest m = omega arith
more_inside b bs NoToken m = omega arith
more_inside b bs NoNumber m = omega arith
more_inside b bs (Taken w n) m = m.inside

reads : (line : List ℕ) (skip p : ℕ) (bs : List ℕ) → drop p line ≡ bs → p + length bs ≡ length line → skip ≤ length bs → Reads line (p + skip) (scanned skip p bs)
reads line zero p [] e len h = record { stop = p + 0; all = no_gap line (p + 0); ends = inl (omega (arith, len)) }
reads line (suc skip) p [] e len h = absurd (omega arith)
reads line (suc skip) p (b ∷ bs) e len h = moved line (p + 1 + skip) (p + suc skip) (scanned skip (p + 1) bs) (omega arith) (reads line skip (p + 1) bs (after line p b bs e) (omega (arith, len)) (omega arith))
reads line zero p (b ∷ bs) e len h =
    let f = front_of b bs in
    let m = means b bs in
    let rest = reads line (more_of f) (p + 1) bs (after line p b bs e) (omega (arith, len)) (more_inside b bs f m) in
    moved line p (p + 0) (joined f p (scanned (more_of f) (p + 1) bs)) (omega arith)
    (reads_joined line p b bs f (scanned (more_of f) (p + 1) bs) (record { here = e; len = omega (arith, len) }) m rest)

-- the first few tokens, up to the next one
record Cut (line : List ℕ) (ls : List Lexeme) (from n : ℕ) : Type 0 where
  pub all : AreTokens line (tokens_of (take n ls)) from (start_at ls n)
  pub next : BeginsToken line (start_at ls n)

cut : (line : List ℕ) (ls : List Lexeme) (from stop n : ℕ) → AreTokens line (tokens_of ls) from stop → n < length ls → Cut line ls from n
cut line [] from stop n a h = absurd (omega arith)
cut line (l ∷ ls) from stop zero a h = record { all = a.0; next = record { token = token_of l; start = refl; reads = a.1 } }
cut line (l ∷ ls) from stop (suc n) a h =
    let rest = cut line ls l.stop stop n a.2 (omega arith) in
    record { all = (a.0, a.1, rest.all); next = rest.next }

ends_of : (line : List ℕ) (ts : List Token) (f : Option LexFault) (stop : ℕ) → Halts line f stop → EndsWith line ts (answer_of f) stop
ends_of line ts None stop h = h
ends_of line ts (Some (BadChar p)) stop h = h
ends_of line ts (Some (BadNumber p)) stop h = h
ends_of line ts (Some (TooManyTokens p)) stop h = absurd h

read_by : (line : List ℕ) (s : Lexed) (t : Bool) → Reads line 0 s → nat_le (length s.lexemes) 16 ≡ t
    → (let r = cond t s (record { lexemes = take 16 s.lexemes; fault = Some (TooManyTokens (start_at s.lexemes 16)) }) in IsRead line (tokens_of r.lexemes) (answer_of r.fault))
read_by line s true r e =
    let count : length s.lexemes ≤ 16 = grind (arith, nat_tests) in
    record { stop = r.stop; all = r.all; few = omega (arith, length-map s.lexemes token_of); ends = ends_of line (tokens_of s.lexemes) s.fault r.stop r.ends }
read_by line s false r e =
    let many : 16 < length s.lexemes = grind (arith, nat_tests) in
    let first = cut line s.lexemes 0 r.stop 16 r.all many in
    let count : length (tokens_of (take 16 s.lexemes)) ≡ 16 = length-map (take 16 s.lexemes) token_of ∙ length-take-le 16 s.lexemes (omega arith) in
    record { stop = start_at s.lexemes 16; all = first.all; few = omega (arith, count); ends = (refl, count, first.next) }

pub line_is_read : (line : List ℕ) → IsRead line (tokens_of (lexed line).lexemes) (answer_of (lexed line).fault)
unfolding lexed
line_is_read line =
    let s = scanned 0 0 line in
    read_by line s (nat_le (length s.lexemes) 16) (moved line (0 + 0) 0 s (omega arith) (reads line 0 0 line refl (omega arith) (omega arith))) refl

-- each token is one of the line
tokens_hold : (line : List ℕ) (ts : List Token) (from stop : ℕ) → AreTokens line ts from stop → All (IsTokenOf line) ts
tokens_hold line [] from stop a = λ k d h. absurd (omega arith)
tokens_hold line (t ∷ ts) from stop a = λ k d h. token_at line t ts d k a.1 h (tokens_hold line ts t.end stop a.2)
  where
    token_at : (line : List ℕ) (t : Token) (ts : List Token) (d : Token) (k : ℕ) → IsTokenOf line t → k < length (t ∷ ts) → All (IsTokenOf line) ts → IsTokenOf line (slice_index_or (t ∷ ts) k d)
    token_at line t ts d zero one h all = one
    token_at line t ts d (suc k) one h all = all k d (omega arith)

pub tokens_are_slices : (line : List ℕ) → All (IsTokenOf line) (tokens_of (lexed line).lexemes)
tokens_are_slices line = let read = line_is_read line in tokens_hold line (tokens_of (lexed line).lexemes) 0 read.stop read.all
