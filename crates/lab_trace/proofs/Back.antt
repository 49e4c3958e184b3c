-- What is added is taken away again.
use Rattle.std.proofs.Common.{◌≡◌, ℕ, zero, suc, ◌+◌, ◌-◌, ◌<◌, ◌≤◌, List, [], ◌∷◌, ◌++◌, length, take, Bool, true, false, Option, Some, None, Bor, option_map, refl, sym, ap, ◌∙◌, arith, append_assoc, codes, lit≤, ◌/◌, ◌%◌}
use Rattle.std.specs.Prelude.{nat_le, nat_lt, not, ◌==◌, ◌&&◌, ◌||◌, if◌then◌else◌, is_some}
use Rattle.std.specs.List.{list_all, list_any}
use Rattle.std.proofs.lemmas.Bool.Decides.{nat_tests}
use Rattle.std.specs.Fmt.{digits, digits_onto, digit_glyph, decimal}
use Rattle.hart_words.specs.Cuts.{cut}
use Rattle.hart_words.specs.Lines.{lines_of, lines_left}
use Rattle.hart_words.proofs.CutText.{cut_took, cut_whole}
use Rattle.hart_words.proofs.FirstLine.{first_and_rest, less_is_left}
use Rattle.lab_names.specs.Name.{NameView, is_name, is_name_byte}
use Rattle.lab_names.specs.Table.{at_or_below}
use Rattle.lab_trace.specs.declared.trace_line.TraceLine.{TraceLine}
use Rattle.lab_trace.specs.declared.trace_line.TraceLine.TheVariants.{Word, Half, Entry, Service, Other}
use Rattle.lab_trace.specs.Added.{Plain, BehindTab, InAddition, plain_from, plain_text, spelled, added, is_tab}
use Rattle.lab_trace.specs.Named.{is_shown, shown, with_both, named_line, named_piece, named_pieces, named_text, address_first, offset_text, name_by, place_text, name_of, instruction_in, instruction_of, told_by}

-- ---- a text to which nothing is added

back_by : (t : Bool) (b : ℕ) (bs rest : List ℕ) → (b == 9) ≡ t → plain_from Plain (spelled bs ++ rest) ≡ bs ++ plain_from Plain rest
    → plain_from Plain ((if t then 9 ∷ 9 ∷ spelled bs else b ∷ spelled bs) ++ rest) ≡ b ∷ (bs ++ plain_from Plain rest)
back_by true b bs rest e more = let nine : 9 ≡ b = grind (arith, nat_tests) in rw (← nine) (ap (λ l. 9 ∷ l) more)
back_by false b bs rest e more = rw e (ap (λ l. b ∷ l) more)

pub spelled_back : (bs rest : List ℕ) → plain_from Plain (spelled bs ++ rest) ≡ bs ++ plain_from Plain rest
spelled_back [] rest = refl
spelled_back (b ∷ bs) rest = back_by (b == 9) b bs rest refl (spelled_back bs rest)

-- ---- additions

-- no byte is a control byte
abbrev pub AreShown : List ℕ → Type 0
AreShown [] = Unit {0}
AreShown (b ∷ bs) = (32 ≤ b) × AreShown bs

-- an addition up to the end of its line is gone
in_addition : (bs rest : List ℕ) → AreShown bs → plain_from InAddition (bs ++ rest) ≡ plain_from InAddition rest
in_addition [] rest h = refl
in_addition (b ∷ bs) rest h = let other : (b == 10) ≡ false = grind (arith, nat_tests, h.0) in rw other (in_addition bs rest h.1)

behind_tab : (b : ℕ) (rest : List ℕ) → 32 ≤ b → plain_from BehindTab (b ∷ rest) ≡ plain_from InAddition rest
behind_tab b rest h = let tab : (b == 9) ≡ false = grind (arith, nat_tests, h) in let feed : (b == 10) ≡ false = grind (arith, nat_tests, h) in rw (tab, feed) refl

-- in an addition another one begins
one_more : (i rest : List ℕ) → AreShown i → plain_from InAddition (added i ++ 10 ∷ rest) ≡ 10 ∷ plain_from Plain rest
one_more [] rest h = refl
one_more (b ∷ bs) rest h = in_addition (b ∷ bs) (10 ∷ rest) h

pub both_gone : (n i rest : List ℕ) → AreShown n → AreShown i → plain_from Plain (added n ++ (added i ++ 10 ∷ rest)) ≡ 10 ∷ plain_from Plain rest
both_gone [] [] rest g h = refl
both_gone [] (b ∷ bs) rest g h = behind_tab b (bs ++ 10 ∷ rest) h.0 ∙ in_addition bs (10 ∷ rest) h.1
both_gone (a ∷ cs) i rest g h = behind_tab a (cs ++ (added i ++ 10 ∷ rest)) g.0 ∙ in_addition cs (added i ++ 10 ∷ rest) g.1 ∙ one_more i rest h

-- ---- what is added has no control byte

all_shown : (text : List ℕ) → is_shown text ≡ true → AreShown text
all_shown [] h = tt
all_shown (b ∷ bs) h = all_by (nat_le 32 b) b bs refl h (all_shown bs)
  where
    all_by : (t : Bool) (b : ℕ) (bs : List ℕ) → nat_le 32 b ≡ t → (t && is_shown bs) ≡ true → (is_shown bs ≡ true → AreShown bs) → AreShown (b ∷ bs)
    all_by true b bs e h more = let le : 32 ≤ b = grind (arith, nat_tests) in (le, more h)
    all_by false b bs e h more = cc

pub shown_is : (text : List ℕ) → AreShown (shown text)
shown_is text = by_test (is_shown text) text refl
  where
    by_test : (t : Bool) (text : List ℕ) → is_shown text ≡ t → AreShown (if t then text else [])
    by_test true text e = all_shown text e
    by_test false text e = tt

both_shown : (a b : List ℕ) → AreShown a → AreShown b → AreShown (a ++ b)
both_shown [] b g h = h
both_shown (x ∷ a) b g h = (g.0, both_shown a b g.1 h)

glyph_shown : (d : ℕ) → 32 ≤ digit_glyph false d
glyph_shown d = by_ten (nat_lt d 10)
  where
    by_ten : (t : Bool) → 32 ≤ (if t then 48 + d else 87 + d)
    by_ten true = omega arith
    by_ten false = omega arith

digits_shown : (k n : ℕ) (acc : List ℕ) → AreShown acc → AreShown (digits_onto k 10 false n acc)
digits_shown zero n acc h = h
digits_shown (suc k) n acc h = by_last (n / 10 == 0) (digits_shown k (n / 10) (digit_glyph false (n % 10) ∷ acc) (glyph_shown (n % 10), h))
  where
    by_last : (t : Bool) → AreShown (digits_onto k 10 false (n / 10) (digit_glyph false (n % 10) ∷ acc)) → AreShown (if t then digit_glyph false (n % 10) ∷ acc else digits_onto k 10 false (n / 10) (digit_glyph false (n % 10) ∷ acc))
    by_last true more = (glyph_shown (n % 10), h)
    by_last false more = more

decimal_shown : (n : ℕ) → AreShown (decimal n)
unfolding digits
decimal_shown n = digits_shown 64 n [] tt

offset_shown : (n : ℕ) → AreShown (offset_text n)
offset_shown zero = tt
offset_shown (suc n) = both_shown (codes "+") (decimal (suc n)) (lit≤ tt, tt) (decimal_shown (suc n))

name_bytes : (name : List ℕ) → list_all is_name_byte name ≡ true → AreShown name
name_bytes [] h = tt
name_bytes (b ∷ bs) h = name_by_test (nat_lt 32 b) (not (b == 127)) b bs refl h (name_bytes bs)
  where
    name_by_test : (t o : Bool) (b : ℕ) (bs : List ℕ) → nat_lt 32 b ≡ t → ((t && o) && list_all is_name_byte bs) ≡ true → (list_all is_name_byte bs ≡ true → AreShown bs) → AreShown (b ∷ bs)
    name_by_test true true b bs e h more = let le : 32 ≤ b = grind (arith, nat_tests) in (le, more h)
    name_by_test true false b bs e h more = cc
    name_by_test false o b bs e h more = cc

second : (a b : Bool) → (a && b) ≡ true → b ≡ true
second true b h = h
second false b h = cc

found_shown : (found : Option (List ℕ × ℕ)) → AreShown (name_by found)
found_shown None = tt
found_shown (Some (name, offset)) = by_name (is_name name) refl
  where
    by_name : (t : Bool) → is_name name ≡ t → AreShown (if t then codes "<" ++ name ++ offset_text offset ++ codes ">" else [])
    by_name true e = both_shown (codes "<" ++ name ++ offset_text offset) (codes ">") (both_shown (codes "<" ++ name) (offset_text offset) (lit≤ tt, name_bytes name (second (nat_lt 0 (length name)) (list_all is_name_byte name) e)) (offset_shown offset)) (lit≤ tt, tt)
    by_name false e = tt

place_shown : (names : List NameView) (at : Option ℕ) → AreShown (place_text names at)
place_shown names None = tt
place_shown names (Some at) = found_shown (at_or_below at names)

pub name_shown : (names : List NameView) (next : Option ℕ) (told : TraceLine) → AreShown (name_of names next told)
name_shown names next (Word pc bits) = found_shown (at_or_below pc names)
name_shown names next (Half pc bits) = found_shown (at_or_below pc names)
name_shown names next (Entry pc) = found_shown (at_or_below pc names)
name_shown names next Service = place_shown names next
name_shown names next Other = tt

-- ---- lines

parted : (s n i rest : List ℕ) → (s ++ n ++ i ++ codes "\n") ++ rest ≡ s ++ (n ++ (i ++ 10 ∷ rest))
parted s n i rest = append_assoc (s ++ n ++ i) (10 ∷ []) rest ∙ append_assoc (s ++ n) i (10 ∷ rest) ∙ append_assoc s n (i ++ 10 ∷ rest)

line_back : (line n i rest : List ℕ) → AreShown n → AreShown i → plain_from Plain (with_both line n i ++ rest) ≡ line ++ 10 ∷ plain_from Plain rest
line_back line n i rest g h = ap (plain_from Plain) (parted (spelled line) (added n) (added i) rest) ∙ spelled_back line (added n ++ (added i ++ 10 ∷ rest)) ∙ ap (λ r. line ++ r) (both_gone n i rest g h)

named_back : (names : List NameView) (next : Option ℕ) (line rest : List ℕ) → plain_from Plain (named_line names next line ++ rest) ≡ line ++ 10 ∷ plain_from Plain rest
unfolding named_line
named_back names next line rest =
    line_back line (name_of names next (told_by line)) (instruction_of (told_by line)) rest (name_shown names next (told_by line)) (shown_is (instruction_in (told_by line)))

nothing_behind : (bs : List ℕ) → bs ++ [] ≡ bs
nothing_behind [] = refl
nothing_behind (b ∷ bs) = ap (λ l. b ∷ l) (nothing_behind bs)

spelled_alone : (bs : List ℕ) → plain_from Plain (spelled bs) ≡ bs
spelled_alone bs = ap (plain_from Plain) (sym (nothing_behind (spelled bs))) ∙ spelled_back bs [] ∙ nothing_behind bs

-- ---- texts

-- what is left of a text after its first piece is again a text, whose first piece there always is
next_pieces : (names : List NameView) (piece : List ℕ) (pieces : List (List ℕ)) (next : List ℕ) (more : List (List ℕ)) → pieces ≡ next ∷ more
    → named_pieces names (piece ∷ pieces) ≡ named_piece names (address_first pieces) true piece ++ named_pieces names pieces
next_pieces names piece pieces next more e = rw e refl

-- a first piece, and what follows it
pub first_piece : (names : List NameView) (text piece : List ℕ) (after : Option (List ℕ)) → lines_of text ≡ piece ∷ lines_left after
    → named_pieces names (lines_of text) ≡ named_piece names (address_first (lines_left after)) (is_some after) piece ++ named_pieces names (lines_left after)
first_piece names text piece None e = ap (named_pieces names) e ∙ sym (nothing_behind (spelled piece))
first_piece names text piece (Some rest) e =
    ap (named_pieces names) e ∙ next_pieces names piece (lines_of rest) (cut 10 rest).0 (lines_left (cut 10 rest).1) (first_and_rest rest (cut 10 rest).0 (cut 10 rest).1 refl)

-- a first piece as it is cut, with the address that the next one tells
pub piece_first : (names : List NameView) (text piece : List ℕ) (after : Option (Bor (List ℕ))) (some : Bool) (next : Option ℕ) → some ≡ is_some after → next ≡ address_first (lines_left (option_map (λ (s : Bor (List ℕ)). s.now) after)) → lines_of text ≡ piece ∷ lines_left (option_map (λ (s : Bor (List ℕ)). s.now) after)
    → named_pieces names (lines_of text) ≡ named_piece names next some piece ++ named_pieces names (lines_left (option_map (λ (s : Bor (List ℕ)). s.now) after))
piece_first names text piece None some next e f cuts = rw e (first_piece names text piece None cuts)
piece_first names text piece (Some rest) some next e f cuts = rw (e, f) (first_piece names text piece (Some rest.now) cuts)

cut_back : (names : List NameView) (text piece : List ℕ) (after : Option (List ℕ)) → (piece, after) ≡ cut 10 text
    → ((rest : List ℕ) → length rest < length text → plain_from Plain (named_pieces names (lines_of rest)) ≡ rest) → plain_from Plain (named_pieces names (lines_of text)) ≡ text
cut_back names text piece None is shorter =
    ap (λ p. plain_from Plain (named_pieces names p)) (first_and_rest text piece None is) ∙ spelled_alone piece ∙ sym (cut_whole 10 text piece (sym is))
cut_back names text piece (Some rest) is shorter =
    let less = less_is_left text piece (Some rest) is in
    ap (plain_from Plain) (first_piece names text piece (Some rest) (first_and_rest text piece (Some rest) is))
    ∙ named_back names (address_first (lines_of rest)) piece (named_pieces names (lines_of rest))
    ∙ ap (λ r. piece ++ 10 ∷ r) (shorter rest (omega (arith, less)))
    ∙ sym (cut_took 10 text piece rest (sym is))

pieces_back : (names : List NameView) (n : ℕ) (text : List ℕ) → length text ≤ n → plain_from Plain (named_pieces names (lines_of text)) ≡ text
pieces_back names zero text few = cut_back names text (cut 10 text).0 (cut 10 text).1 refl (λ rest less. absurd (omega (arith, less, few)))
pieces_back names (suc n) text few = cut_back names text (cut 10 text).0 (cut 10 text).1 refl (λ rest less. pieces_back names n rest (omega (arith, less, few)))

pub text_back : (names : List NameView) (text : List ℕ) → plain_text (named_text names text) ≡ text
unfolding plain_text named_text
text_back names text = pieces_back names (length text) text (omega arith)

-- an addition that there is
pub added_some : (text : List ℕ) → 0 < length text → added text ≡ 9 ∷ text
added_some [] h = let no : ⊥ = omega (arith, h) in absurd no
added_some (b ∷ bs) h = refl

spelled_by : (t : Bool) (b : ℕ) (bs : List ℕ) → (t || list_any is_tab bs) ≡ false → (list_any is_tab bs ≡ false → spelled bs ≡ bs) → (if t then 9 ∷ 9 ∷ spelled bs else b ∷ spelled bs) ≡ b ∷ bs
spelled_by true b bs h more = cc
spelled_by false b bs h more = ap (λ l. b ∷ l) (more h)

-- a text without a tab is spelled as it is
pub spelled_same : (bs : List ℕ) → list_any is_tab bs ≡ false → spelled bs ≡ bs
spelled_same [] h = refl
spelled_same (b ∷ bs) h = spelled_by (b == 9) b bs h (spelled_same bs)

one_by : (t : Bool) (b : ℕ) (bs : List ℕ) → (if t then 9 ∷ 9 ∷ [] else b ∷ []) ++ spelled bs ≡ (if t then 9 ∷ 9 ∷ spelled bs else b ∷ spelled bs)
one_by true b bs = refl
one_by false b bs = refl

-- byte by byte
pub spelled_one : (b : ℕ) (bs : List ℕ) → spelled (b ∷ []) ++ spelled bs ≡ spelled (b ∷ bs)
spelled_one b bs = one_by (b == 9) b bs
