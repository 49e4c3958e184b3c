-- A line is read in one way: tokens that begin at one place are one, since none could be longer, and reading can't end at
-- two places, since a gap holds blanks alone.
use Rattle.std.proofs.Common.{◌≡◌, ℕ, zero, suc, ◌+◌, ◌-◌, ◌<◌, ◌≤◌, List, [], ◌∷◌, drop, take, length, Option, Some, None, Bool, true, false, refl, sym, ap, subst, ◌∙◌, arith, inl, inr, length-drop}
use Rattle.std.specs.Prelude.{slice_index, slice_range, ℤ, ◌⊎◌, ◌&&◌, ◌||◌, ◌==◌, not}
use Rattle.std.specs.declared.result.Result.{Result}
use Rattle.std.specs.declared.result.Result.TheVariants.{Ok, Err}
use Rattle.std.proofs.lemmas.List.{get_or-drop, length-take}
use Rattle.std.proofs.lemmas.Bool.Decides.{nat_tests}
use Rattle.asm_text.specs.declared.token.Token.{Token}
use Rattle.asm_text.specs.declared.token_kind.TokenKind.{TokenKind}
use Rattle.asm_text.specs.declared.token_kind.TokenKind.TheVariants.{Name, Number, Comma, Colon, Open, Close}
use Rattle.asm_text.specs.declared.byte_class.ByteClass.{ByteClass}
use Rattle.asm_text.specs.declared.byte_class.ByteClass.TheVariants.{Blank, Comment, NameStart, Digit, Minus, Mark, Other}
use Rattle.asm_text.specs.declared.lex_fault.LexFault.{LexFault}
use Rattle.asm_text.specs.declared.lex_fault.LexFault.TheVariants.{BadChar, BadNumber, TooManyTokens}
use Rattle.asm_text.specs.Bytes.{is_digit, begins_name, is_name_byte, is_number_byte, class_of}
use Rattle.asm_text.specs.Numbers.{number_of}
use Rattle.asm_text.specs.Pieces.{all_pass, is_name}
use Rattle.asm_text.specs.Reading.{is_blank, is_mark_byte, begins_number, begins_nothing, IsGap, IsNumberText, IsText, IsTokenOf, AreTokens, IsBadNumber, BeginsToken, EndsWith, IsRead}
use Rattle.asm_text.proofs.NameLemmas.{both}

-- bytes of a slice
slice_length : (line : List ℕ) (from to : ℕ) → to ≤ length line → length (slice_range line from to) ≡ to - from
slice_length line from to h = length-take (to - from) (drop from line) ∙ (let e = length-drop from line in let f : length (drop from line) ≡ length line - from = omega (arith, e) in omega (arith, f))

take_at : (xs : List ℕ) (n j : ℕ) → j < n → slice_index (take n xs) j ≡ slice_index xs j
take_at xs zero j h = absurd (omega arith)
take_at [] (suc n) j h = refl
take_at (x ∷ xs) (suc n) zero h = refl
take_at (x ∷ xs) (suc n) (suc j) h = take_at xs n j (omega arith)

slice_at : (line : List ℕ) (from to j : ℕ) → j < to - from → slice_index (slice_range line from to) j ≡ slice_index line (from + j)
slice_at line from to j h = take_at (drop from line) (to - from) j h ∙ get_or-drop from line j 0

all_at : (q : ℕ → Bool) (xs : List ℕ) (j : ℕ) → all_pass q xs ≡ true → j < length xs → q (slice_index xs j) ≡ true
all_at q [] j e h = absurd (omega arith)
all_at q (x ∷ xs) zero e h = (both (q x) (all_pass q xs) e).0
all_at q (x ∷ xs) (suc j) e h = all_at q xs j (both (q x) (all_pass q xs) e).1 (omega arith)

byte_in : (q : ℕ → Bool) (line : List ℕ) (from to i : ℕ) → all_pass q (slice_range line from to) ≡ true → to ≤ length line → from ≤ i → i < to → q (slice_index line i) ≡ true
byte_in q line from to i e inside low high =
    let len = slice_length line from to inside in
    let short : i - from < to - from = omega arith in
    let place : from + (i - from) ≡ i = omega arith in
    sym (ap q (slice_at line from to (i - from) short ∙ ap (slice_index line) place)) ∙ all_at q (slice_range line from to) (i - from) e (omega (arith, len))

-- a run of bytes that pass a test, as long as can be
record IsRun (q : ℕ → Bool) (line : List ℕ) (from to : ℕ) : Type 0 where
  pub some : from < to
  pub goes_on : (i : ℕ) → from < i → i < to → q (slice_index line i) ≡ true
  pub ends : q (slice_index line to) ≡ false

no_longer : (q : ℕ → Bool) (line : List ℕ) (from m n : ℕ) → IsRun q line from m → IsRun q line from n → m < n → ⊥
no_longer q line from m n a b h = let yes_ = b.goes_on m a.some h in let no_ = a.ends in let clash : true ≡ false = sym yes_ ∙ no_ in cc

run_same : (q : ℕ → Bool) (line : List ℕ) (from m n : ℕ) → IsRun q line from m → IsRun q line from n → m ≡ n
run_same q line from m n a b =
    let low : m < n → ⊥ = no_longer q line from m n a b in
    let high : n < m → ⊥ = no_longer q line from n m b a in
    omega (arith, low, high)

-- the kind of the token that a byte may begin
abbrev kind_from : ByteClass → Option TokenKind
kind_from Blank = None
kind_from Comment = None
kind_from NameStart = Some Name
kind_from Digit = Some Number
kind_from Minus = Some Number
kind_from (Mark k) = Some k
kind_from Other = None

name_class : (b : ℕ) → begins_name b ≡ true → kind_from (class_of b) ≡ Some Name
unfolding class_of
name_class b h = ap kind_from (let e : class_of b ≡ NameStart = grind (arith, nat_tests) in e)

digit_class : (b : ℕ) → is_digit b ≡ true → kind_from (class_of b) ≡ Some Number
unfolding class_of
digit_class b h = ap kind_from (let e : class_of b ≡ Digit = grind (arith, nat_tests) in e)

blank_class : (b : ℕ) → is_blank b ≡ true → kind_from (class_of b) ≡ None
unfolding class_of
blank_class b h = ap kind_from (let e : class_of b ≡ Blank = grind (arith, nat_tests) in e)

comment_class : kind_from (class_of 35) ≡ None
unfolding class_of
comment_class = refl

minus_class : kind_from (class_of 45) ≡ Some Number
unfolding class_of
minus_class = refl

mark_classes : (kind_from (class_of 44) ≡ Some Comma) × (kind_from (class_of 58) ≡ Some Colon) × (kind_from (class_of 40) ≡ Some Open) × (kind_from (class_of 41) ≡ Some Close)
unfolding class_of
mark_classes = (refl, refl, refl, refl)

is_same : (m n : ℕ) → (m == n) ≡ true → m ≡ n
is_same m n e = grind (arith, nat_tests)

number_by : (b : ℕ) (t : Bool) (x : ℕ) → is_digit b ≡ t → (t || (b == 45 && is_digit x)) ≡ true → kind_from (class_of b) ≡ Some Number
number_by b true x d e = digit_class b d
number_by b false x d e = ap (λ c. kind_from (class_of c)) (is_same b 45 (both (b == 45) (is_digit x) e).0) ∙ minus_class

number_class : (b x : ℕ) → begins_number b x ≡ true → kind_from (class_of b) ≡ Some Number
number_class b x e = number_by b (is_digit b) x refl e

text_class : (k : TokenKind) (z : ℤ) (text : List ℕ) (next : ℕ) → IsText k z text next → kind_from (class_of (slice_index text 0)) ≡ Some k
text_class Name z [] next h = let e = h.0 in cc
text_class Name z (b ∷ bs) next h = name_class b (both (begins_name b) (all_pass is_name_byte bs) h.0).0
text_class Number z text next h = number_class (slice_index text 0) (slice_index text 1) h.0.begins
text_class Comma z text next h = ap (λ xs. kind_from (class_of (slice_index xs 0))) h.0 ∙ mark_classes.0
text_class Colon z text next h = ap (λ xs. kind_from (class_of (slice_index xs 0))) h.0 ∙ mark_classes.1
text_class Open z text next h = ap (λ xs. kind_from (class_of (slice_index xs 0))) h.0 ∙ mark_classes.2
text_class Close z text next h = ap (λ xs. kind_from (class_of (slice_index xs 0))) h.0 ∙ mark_classes.3

-- the first byte of a token says its kind, and is no blank
first_byte : (line : List ℕ) (s m : ℕ) → s < m → slice_index (slice_range line s m) 0 ≡ slice_index line s
first_byte line s m h = slice_at line s m 0 (omega arith) ∙ ap (slice_index line) (let e : s + 0 ≡ s = omega arith in e)

first_class : (line : List ℕ) (t : Token) → IsTokenOf line t → kind_from (class_of (slice_index line t.start)) ≡ Some t.kind
first_class line t h = ap (λ b. kind_from (class_of b)) (sym (first_byte line t.start t.end h.some)) ∙ text_class t.kind t.value _ _ h.text

no_blank_by : (b : ℕ) (t : Bool) (k : TokenKind) → is_blank b ≡ t → kind_from (class_of b) ≡ Some k → is_blank b ≡ false
no_blank_by b true k e h = let clash = sym (blank_class b e) ∙ h in cc
no_blank_by b false k e h = e

no_blank : (b : ℕ) (k : TokenKind) → kind_from (class_of b) ≡ Some k → is_blank b ≡ false
no_blank b k h = no_blank_by b (is_blank b) k refl h

-- where a token ends, and what it is worth
name_passes : (text : List ℕ) → is_name text ≡ true → all_pass is_name_byte text ≡ true
name_passes [] e = refl
name_passes (b ∷ bs) e =
    let split = both (begins_name b) (all_pass is_name_byte bs) e in
    ap (λ x. (x || is_digit b) && all_pass is_name_byte bs) split.0 ∙ split.1

name_run : (line : List ℕ) (s m : ℕ) (z : ℤ) → s < m → m ≤ length line → IsText Name z (slice_range line s m) (slice_index line m) → IsRun is_name_byte line s m
name_run line s m z some inside h = record {
  some = some;
  goes_on = λ i low high. byte_in is_name_byte line s m i (name_passes (slice_range line s m) h.0) inside (omega arith) high;
  ends = h.1;
}

number_byte : (line : List ℕ) (s m i : ℕ) → all_pass is_number_byte (drop 1 (slice_range line s m)) ≡ true → m ≤ length line → s < i → i < m → is_number_byte (slice_index line i) ≡ true
number_byte line s m i e inside low high =
    let xs = slice_range line s m in
    let j = i - (s + 1) in
    let len = slice_length line s m inside in
    let rest : length (drop 1 xs) ≡ length xs - 1 = length-drop 1 xs in
    let place : s + (1 + j) ≡ i = omega arith in
    sym (ap is_number_byte (get_or-drop 1 xs j 0 ∙ slice_at line s m (1 + j) (omega arith) ∙ ap (slice_index line) place)) ∙ all_at is_number_byte (drop 1 xs) j e (omega (arith, len, rest))

number_run : (line : List ℕ) (s m : ℕ) → s < m → m ≤ length line → IsNumberText (slice_range line s m) (slice_index line m) → IsRun is_number_byte line s m
number_run line s m some inside h = record {
  some = some;
  goes_on = λ i low high. number_byte line s m i h.goes_on inside low high;
  ends = h.ends;
}

mark_end : (line : List ℕ) (s m x : ℕ) → s < m → m ≤ length line → slice_range line s m ≡ x ∷ [] → m ≡ s + 1
mark_end line s m x some inside e =
    let len = slice_length line s m inside in
    let one : length (slice_range line s m) ≡ 1 = ap (λ (xs : List ℕ). length xs) e in
    omega (arith, len, one)

same_end : (line : List ℕ) (k : TokenKind) (s m n : ℕ) (y z : ℤ) → s < m → m ≤ length line → s < n → n ≤ length line
    → IsText k y (slice_range line s m) (slice_index line m) → IsText k z (slice_range line s n) (slice_index line n) → m ≡ n
same_end line Name s m n y z a b c d h g = run_same is_name_byte line s m n (name_run line s m y a b h) (name_run line s n z c d g)
same_end line Number s m n y z a b c d h g = run_same is_number_byte line s m n (number_run line s m a b h.0) (number_run line s n c d g.0)
same_end line Comma s m n y z a b c d h g = mark_end line s m 44 a b h.0 ∙ sym (mark_end line s n 44 c d g.0)
same_end line Colon s m n y z a b c d h g = mark_end line s m 58 a b h.0 ∙ sym (mark_end line s n 58 c d g.0)
same_end line Open s m n y z a b c d h g = mark_end line s m 40 a b h.0 ∙ sym (mark_end line s n 40 c d g.0)
same_end line Close s m n y z a b c d h g = mark_end line s m 41 a b h.0 ∙ sym (mark_end line s n 41 c d g.0)

some_same : (o : Option ℤ) (y z : ℤ) → o ≡ Some y → o ≡ Some z → y ≡ z
some_same o y z e f = cc

same_value : (k : TokenKind) (y z : ℤ) (text : List ℕ) (next : ℕ) → IsText k y text next → IsText k z text next → y ≡ z
same_value Name y z text next h g = h.2 ∙ sym g.2
same_value Number y z text next h g = some_same (number_of text) y z h.1 g.1
same_value Comma y z text next h g = h.1 ∙ sym g.1
same_value Colon y z text next h g = h.1 ∙ sym g.1
same_value Open y z text next h g = h.1 ∙ sym g.1
same_value Close y z text next h g = h.1 ∙ sym g.1

token_by : (k j : TokenKind) (s r m n : ℕ) (y z : ℤ) → k ≡ j → s ≡ r → m ≡ n → y ≡ z
    → (let t : Token = record { kind = k; start = s; end = m; value = y } in let u : Token = record { kind = j; start = r; end = n; value = z } in t ≡ u)
token_by k j s r m n y z a b c d = cc

kind_same : (o : Option TokenKind) (k j : TokenKind) → o ≡ Some k → o ≡ Some j → k ≡ j
kind_same o k j e f = cc

pub token_same : (line : List ℕ) (t u : Token) → IsTokenOf line t → IsTokenOf line u → t.start ≡ u.start → t ≡ u
token_same line t u h g e =
    let kinds : t.kind ≡ u.kind = kind_same _ t.kind u.kind (first_class line t h) (ap (λ s. kind_from (class_of (slice_index line s))) e ∙ first_class line u g) in
    let OfKind : TokenKind → Type 0 = λ k. IsText k u.value (slice_range line u.start u.end) (slice_index line u.end) in
    let OfStart : ℕ → Type 0 = λ s. IsText t.kind u.value (slice_range line s u.end) (slice_index line u.end) in
    let other : IsText t.kind u.value (slice_range line t.start u.end) (slice_index line u.end) = subst OfStart (sym e) (subst OfKind (sym kinds) g.text) in
    let low : t.start < u.end = omega (arith, g.some) in
    let ends : t.end ≡ u.end = same_end line t.kind t.start t.end u.end t.value u.value h.some h.inside low g.inside h.text other in
    let OfEnd : ℕ → Type 0 = λ m. IsText t.kind u.value (slice_range line t.start m) (slice_index line m) in
    let values : t.value ≡ u.value = same_value t.kind t.value u.value _ _ h.text (subst OfEnd (sym ends) other) in
    token_by t.kind u.kind t.start u.start t.end u.end t.value u.value kinds e ends values

-- why reading ends at a place after this many tokens
abbrev Stop : List ℕ → ℕ → Result (Unit {0}) LexFault → ℕ → Type 0
Stop line n (Ok u) stop = (stop ≡ length line) ⊎ (slice_index line stop ≡ 35)
Stop line n (Err (BadChar place)) stop = (place ≡ stop) × (place < length line) × (begins_nothing (slice_index line place) (slice_index line (place + 1)) ≡ true)
Stop line n (Err (BadNumber place)) stop = (place ≡ stop) × IsBadNumber line place
Stop line n (Err (TooManyTokens place)) stop = (place ≡ stop) × (n ≡ 16) × BeginsToken line place

stop_of : (line : List ℕ) (ts : List Token) (a : Result (Unit {0}) LexFault) (stop : ℕ) → EndsWith line ts a stop → Stop line (length ts) a stop
stop_of line ts (Ok u) stop h = h
stop_of line ts (Err (BadChar place)) stop h = h
stop_of line ts (Err (BadNumber place)) stop h = h
stop_of line ts (Err (TooManyTokens place)) stop h = h

-- a number's first bytes, in its text and in the line
number_on_by : (line : List ℕ) (s m : ℕ) (t : Bool) → s < m → m ≤ length line → (s + 2 == m) ≡ t → (t ≡ false → (s + 1 ≡ m) ⊎ (s + 2 < m)) → begins_number (slice_index line s) (slice_index (slice_range line s m) 1) ≡ true → begins_number (slice_index line s) (slice_index line (s + 1)) ≡ true
number_on_by line s m true some inside e f h = ap (begins_number (slice_index line s)) (sym (slice_at line s m 1 (let two : s + 2 ≡ m = is_same (s + 2) m e in omega arith))) ∙ h
number_on_by line s m false some inside e f h = elim (f refl) [ inl one ↦ alone line s m one inside h | inr more ↦ ap (begins_number (slice_index line s)) (sym (slice_at line s m 1 (omega arith))) ∙ h ]
  where
    past : (xs : List ℕ) → length xs ≡ 1 → slice_index xs 1 ≡ 0
    past [] e = cc
    past (x ∷ []) e = refl
    past (x ∷ y ∷ xs) e = absurd (omega arith)

    digit_first : (b x : ℕ) (t : Bool) → is_digit b ≡ t → (t || (b == 45 && is_digit 0)) ≡ true → begins_number b x ≡ true
    digit_first b x true d e = ap (λ y. y || (b == 45 && is_digit x)) d
    digit_first b x false d e = let clash = (both (b == 45) (is_digit 0) e).1 in cc

    alone : (line : List ℕ) (s m : ℕ) → s + 1 ≡ m → m ≤ length line → begins_number (slice_index line s) (slice_index (slice_range line s m) 1) ≡ true → begins_number (slice_index line s) (slice_index line (s + 1)) ≡ true
    alone line s m one inside h =
        let len = slice_length line s m inside in
        let none : slice_index (slice_range line s m) 1 ≡ 0 = past (slice_range line s m) (omega (arith, len)) in
        digit_first (slice_index line s) (slice_index line (s + 1)) (is_digit (slice_index line s)) refl (sym (ap (begins_number (slice_index line s)) none) ∙ h)

not_two : (s m : ℕ) → s < m → (s + 2 == m) ≡ false → (s + 1 ≡ m) ⊎ (s + 2 < m)
not_two s m h e = grind (arith, nat_tests)

number_on : (line : List ℕ) (s m next : ℕ) → s < m → m ≤ length line → IsNumberText (slice_range line s m) next → begins_number (slice_index line s) (slice_index line (s + 1)) ≡ true
number_on line s m next some inside h =
    number_on_by line s m (s + 2 == m) some inside refl (not_two s m some)
    (sym (ap (λ b. begins_number b (slice_index (slice_range line s m) 1)) (first_byte line s m some)) ∙ h.begins)

-- what begins nothing begins no token
nor : (a c d n m : Bool) → n ≡ true → not (a || (c || (d || (n || m)))) ≡ true → ⊥
nor true c d n m e f = cc
nor false true d n m e f = cc
nor false false true n m e f = cc
nor false false false true m e f = cc
nor false false false false m e f = cc

no_number : (b x : ℕ) → begins_nothing b x ≡ true → begins_number b x ≡ true → ⊥
no_number b x e f = nor (is_blank b) (b == 35) (begins_name b) (begins_number b x) (is_mark_byte b) f e

no_name_by : (a c d n m : Bool) → d ≡ true → not (a || (c || (d || (n || m)))) ≡ true → ⊥
no_name_by true c d n m e f = cc
no_name_by false true d n m e f = cc
no_name_by false false true n m e f = cc
no_name_by false false false n m e f = cc

-- for a number the bytes are the line's, for other kinds the first byte alone tells
nothing_text : (line : List ℕ) (k : TokenKind) (z : ℤ) (s m : ℕ) → s < m → m ≤ length line → IsText k z (slice_range line s m) (slice_index line m) → begins_nothing (slice_index (slice_range line s m) 0) (slice_index line (s + 1)) ≡ true → ⊥
nothing_text line Name z s m some inside h e = name_by (slice_range line s m) (slice_index line (s + 1)) h.0 e
  where
    name_by : (text : List ℕ) (x : ℕ) → is_name text ≡ true → begins_nothing (slice_index text 0) x ≡ true → ⊥
    name_by [] x h e = cc
    name_by (b ∷ bs) x h e = no_name_by (is_blank b) (b == 35) (begins_name b) (begins_number b x) (is_mark_byte b) (both (begins_name b) (all_pass is_name_byte bs) h).0 e
nothing_text line Number z s m some inside h e =
    no_number (slice_index line s) (slice_index line (s + 1)) (sym (ap (λ b. begins_nothing b (slice_index line (s + 1))) (first_byte line s m some)) ∙ e) (number_on line s m (slice_index line m) some inside h.0)
nothing_text line Comma z s m some inside h e = let clash = sym (ap (λ xs. begins_nothing (slice_index xs 0) (slice_index line (s + 1))) h.0) ∙ e in cc
nothing_text line Colon z s m some inside h e = let clash = sym (ap (λ xs. begins_nothing (slice_index xs 0) (slice_index line (s + 1))) h.0) ∙ e in cc
nothing_text line Open z s m some inside h e = let clash = sym (ap (λ xs. begins_nothing (slice_index xs 0) (slice_index line (s + 1))) h.0) ∙ e in cc
nothing_text line Close z s m some inside h e = let clash = sym (ap (λ xs. begins_nothing (slice_index xs 0) (slice_index line (s + 1))) h.0) ∙ e in cc

nothing_token : (line : List ℕ) (u : Token) → IsTokenOf line u → begins_nothing (slice_index line u.start) (slice_index line (u.start + 1)) ≡ true → ⊥
nothing_token line u h e = nothing_text line u.kind u.value u.start u.end h.some h.inside h.text (ap (λ b. begins_nothing b (slice_index line (u.start + 1))) (first_byte line u.start u.end h.some) ∙ e)

-- a number that is none is no token
bad_by : (line : List ℕ) (k : TokenKind) (z : ℤ) (s m : ℕ) → k ≡ Number → (bad : IsBadNumber line s) → s < m → m ≤ length line → IsText k z (slice_range line s m) (slice_index line m) → ⊥
bad_by line k z s m e bad some inside h =
    let OfKind : TokenKind → Type 0 = λ j. IsText j z (slice_range line s m) (slice_index line m) in
    let text : IsText Number z (slice_range line s m) (slice_index line m) = subst OfKind e h in
    let ends : m ≡ bad.stop = run_same is_number_byte line s m bad.stop (number_run line s m some inside text.0) (number_run line s bad.stop bad.some bad.inside bad.text) in
    let clash : Some z ≡ None = sym text.1 ∙ ap (λ n. number_of (slice_range line s n)) ends ∙ bad.refused in
    cc

bad_class : (line : List ℕ) (s : ℕ) → IsBadNumber line s → kind_from (class_of (slice_index line s)) ≡ Some Number
bad_class line s bad = number_class (slice_index line s) (slice_index line (s + 1)) (number_on line s bad.stop (slice_index line bad.stop) bad.some bad.inside bad.text)

bad_token : (line : List ℕ) (u : Token) → IsTokenOf line u → IsBadNumber line u.start → ⊥
bad_token line u h bad = bad_by line u.kind u.value u.start u.end (kind_same _ u.kind Number (first_class line u h) (bad_class line u.start bad)) bad h.some h.inside h.text

-- a comment begins neither
comment_byte : (line : List ℕ) (s : ℕ) (k : TokenKind) → slice_index line s ≡ 35 → kind_from (class_of (slice_index line s)) ≡ Some k → ⊥
comment_byte line s k e h = let clash : None ≡ Some k = sym comment_class ∙ sym (ap (λ b. kind_from (class_of b)) e) ∙ h in cc

comment_nothing : (line : List ℕ) (s x : ℕ) → slice_index line s ≡ 35 → begins_nothing (slice_index line s) x ≡ true → ⊥
comment_nothing line s x e h = let clash = sym (ap (λ b. begins_nothing b x) e) ∙ h in cc

-- what stands where reading ends
in_line : (line : List ℕ) (s : ℕ) → slice_index line s ≡ 35 → s < length line
in_line [] s e = absurd (omega arith)
in_line (b ∷ bs) zero e = omega arith
in_line (b ∷ bs) (suc s) e = omega (arith, in_line bs s e)

-- an answer's cause at a place, and that the answer tells this place
abbrev Here : List ℕ → ℕ → ℕ → Result (Unit {0}) LexFault → Type 0
Here line n s (Ok u) = (s ≡ length line) ⊎ (slice_index line s ≡ 35)
Here line n s (Err (BadChar place)) = (s < length line) × (begins_nothing (slice_index line s) (slice_index line (s + 1)) ≡ true)
Here line n s (Err (BadNumber place)) = IsBadNumber line s
Here line n s (Err (TooManyTokens place)) = (n ≡ 16) × BeginsToken line s

abbrev Tells : ℕ → Result (Unit {0}) LexFault → Type 0
Tells s (Ok u) = Unit {0}
Tells s (Err (BadChar place)) = place ≡ s
Tells s (Err (BadNumber place)) = place ≡ s
Tells s (Err (TooManyTokens place)) = place ≡ s

here : (line : List ℕ) (n s : ℕ) (a : Result (Unit {0}) LexFault) → Stop line n a s → Here line n s a × Tells s a
here line n s (Ok u) h = (h, tt)
here line n s (Err (BadChar place)) h =
    let P : ℕ → Type 0 = λ p. begins_nothing (slice_index line p) (slice_index line (p + 1)) ≡ true in
    let low : place < length line = h.1 in
    ((omega (arith, h.0), subst P h.0 h.2), h.0)
here line n s (Err (BadNumber place)) h = let P : ℕ → Type 0 = λ p. IsBadNumber line p in (subst P h.0 h.1, h.0)
here line n s (Err (TooManyTokens place)) h = let P : ℕ → Type 0 = λ p. BeginsToken line p in ((h.1, subst P h.0 h.2), h.0)

many_inside : (line : List ℕ) (s : ℕ) → BeginsToken line s → s < length line
many_inside line s h = let some = h.reads.some in let inside = h.reads.inside in omega (arith, h.start)

many_class : (line : List ℕ) (s : ℕ) (h : BeginsToken line s) → kind_from (class_of (slice_index line s)) ≡ Some h.token.kind
many_class line s h = ap (λ p. kind_from (class_of (slice_index line p))) (sym h.start) ∙ first_class line h.token h.reads

inside_at : (line : List ℕ) (n s : ℕ) (a : Result (Unit {0}) LexFault) → Here line n s a → s ≤ length line
inside_at line n s (Ok u) (inl e) = omega (arith, e)
inside_at line n s (Ok u) (inr e) = omega (arith, in_line line s e)
inside_at line n s (Err (BadChar place)) h = omega (arith, h.0)
inside_at line n s (Err (BadNumber place)) h = let some = h.some in let inside = h.inside in omega arith
inside_at line n s (Err (TooManyTokens place)) h = omega (arith, many_inside line s h.1)

no_blank_by_nothing : (a r : Bool) → not (a || r) ≡ true → a ≡ false
no_blank_by_nothing true r e = cc
no_blank_by_nothing false r e = refl

unblank : (line : List ℕ) (n s : ℕ) (a : Result (Unit {0}) LexFault) → Here line n s a → s < length line → is_blank (slice_index line s) ≡ false
unblank line n s (Ok u) (inl e) h = absurd (omega arith)
unblank line n s (Ok u) (inr e) h = ap is_blank e
unblank line n s (Err (BadChar place)) g h = no_blank_by_nothing (is_blank (slice_index line s)) _ g.1
unblank line n s (Err (BadNumber place)) g h = no_blank (slice_index line s) Number (bad_class line s g)
unblank line n s (Err (TooManyTokens place)) g h = no_blank (slice_index line s) g.1.token.kind (many_class line s g.1)

-- no token stands where reading ends, but for the 17th
no_token_by : (line : List ℕ) (n : ℕ) (a : Result (Unit {0}) LexFault) (u : Token) → IsTokenOf line u → n < 16 → Here line n u.start a → ⊥
no_token_by line n (Ok v) u h few (inl e) = let some = h.some in let inside = h.inside in absurd (omega (arith, e))
no_token_by line n (Ok v) u h few (inr e) = comment_byte line u.start u.kind e (first_class line u h)
no_token_by line n (Err (BadChar place)) u h few g = nothing_token line u h g.1
no_token_by line n (Err (BadNumber place)) u h few g = bad_token line u h g
no_token_by line n (Err (TooManyTokens place)) u h few g = absurd (omega (arith, g.0))

no_token : (line : List ℕ) (n s : ℕ) (a : Result (Unit {0}) LexFault) (u : Token) → IsTokenOf line u → n < 16 → s ≡ u.start → Here line n s a → ⊥
no_token line n s a u h few e g = let P : ℕ → Type 0 = λ x. Here line n x a in no_token_by line n a u h few (subst P e g)

-- at one place there is one answer
many_nothing : (line : List ℕ) (s : ℕ) → BeginsToken line s → begins_nothing (slice_index line s) (slice_index line (s + 1)) ≡ true → ⊥
many_nothing line s h e = let P : ℕ → Type 0 = λ x. begins_nothing (slice_index line x) (slice_index line (x + 1)) ≡ true in nothing_token line h.token h.reads (subst P (sym h.start) e)

many_bad : (line : List ℕ) (s : ℕ) → BeginsToken line s → IsBadNumber line s → ⊥
many_bad line s h e = let P : ℕ → Type 0 = λ x. IsBadNumber line x in bad_token line h.token h.reads (subst P (sym h.start) e)

bad_nothing : (line : List ℕ) (s : ℕ) → IsBadNumber line s → begins_nothing (slice_index line s) (slice_index line (s + 1)) ≡ true → ⊥
bad_nothing line s bad e = no_number (slice_index line s) (slice_index line (s + 1)) e (number_on line s bad.stop (slice_index line bad.stop) bad.some bad.inside bad.text)

ok_char : (line : List ℕ) (s : ℕ) → (s ≡ length line) ⊎ (slice_index line s ≡ 35) → s < length line → begins_nothing (slice_index line s) (slice_index line (s + 1)) ≡ true → ⊥
ok_char line s (inl e) h g = absurd (omega arith)
ok_char line s (inr e) h g = comment_nothing line s (slice_index line (s + 1)) e g

ok_bad : (line : List ℕ) (s : ℕ) → (s ≡ length line) ⊎ (slice_index line s ≡ 35) → IsBadNumber line s → ⊥
ok_bad line s (inl e) h = let some = h.some in let inside = h.inside in absurd (omega arith)
ok_bad line s (inr e) h = comment_byte line s Number e (bad_class line s h)

ok_many : (line : List ℕ) (s : ℕ) → (s ≡ length line) ⊎ (slice_index line s ≡ 35) → BeginsToken line s → ⊥
ok_many line s (inl e) h = absurd (omega (arith, many_inside line s h))
ok_many line s (inr e) h = comment_byte line s h.token.kind e (many_class line s h)

same_answer : (line : List ℕ) (n s : ℕ) (a b : Result (Unit {0}) LexFault) → Here line n s a → Here line n s b → Tells s a → Tells s b → a ≡ b
same_answer line n s (Ok u) (Ok v) h g x y = refl
same_answer line n s (Ok u) (Err (BadChar q)) h g x y = absurd (ok_char line s h g.0 g.1)
same_answer line n s (Ok u) (Err (BadNumber q)) h g x y = absurd (ok_bad line s h g)
same_answer line n s (Ok u) (Err (TooManyTokens q)) h g x y = absurd (ok_many line s h g.1)
same_answer line n s (Err (BadChar p)) (Ok v) h g x y = absurd (ok_char line s g h.0 h.1)
same_answer line n s (Err (BadChar p)) (Err (BadChar q)) h g x y = ap (λ z. Err (BadChar z)) (x ∙ sym y)
same_answer line n s (Err (BadChar p)) (Err (BadNumber q)) h g x y = absurd (bad_nothing line s g h.1)
same_answer line n s (Err (BadChar p)) (Err (TooManyTokens q)) h g x y = absurd (many_nothing line s g.1 h.1)
same_answer line n s (Err (BadNumber p)) (Ok v) h g x y = absurd (ok_bad line s g h)
same_answer line n s (Err (BadNumber p)) (Err (BadChar q)) h g x y = absurd (bad_nothing line s h g.1)
same_answer line n s (Err (BadNumber p)) (Err (BadNumber q)) h g x y = ap (λ z. Err (BadNumber z)) (x ∙ sym y)
same_answer line n s (Err (BadNumber p)) (Err (TooManyTokens q)) h g x y = absurd (many_bad line s g.1 h)
same_answer line n s (Err (TooManyTokens p)) (Ok v) h g x y = absurd (ok_many line s g h.1)
same_answer line n s (Err (TooManyTokens p)) (Err (BadChar q)) h g x y = absurd (many_nothing line s h.1 g.1)
same_answer line n s (Err (TooManyTokens p)) (Err (BadNumber q)) h g x y = absurd (many_bad line s h.1 g)
same_answer line n s (Err (TooManyTokens p)) (Err (TooManyTokens q)) h g x y = ap (λ z. Err (TooManyTokens z)) (x ∙ sym y)

-- a gap ends before what is no blank
gap_ends : (line : List ℕ) (from stop p : ℕ) → IsGap line from stop → stop ≤ length line → from ≤ p → is_blank (slice_index line p) ≡ false → stop ≤ p
gap_ends line from stop p g inside low h =
    let early : p < stop → ⊥ = λ high. (let clash : true ≡ false = sym (byte_in is_blank line from stop p g.blank inside low high) ∙ h in cc) in
    omega (arith, early)

token_unblank : (line : List ℕ) (t : Token) → IsTokenOf line t → is_blank (slice_index line t.start) ≡ false
token_unblank line t h = no_blank (slice_index line t.start) t.kind (first_class line t h)

token_inside : (line : List ℕ) (t : Token) → IsTokenOf line t → t.start < length line
token_inside line t h = let some = h.some in let inside = h.inside in omega arith

starts_same : (line : List ℕ) (from : ℕ) (t u : Token) → IsGap line from t.start → IsTokenOf line t → IsGap line from u.start → IsTokenOf line u → t.start ≡ u.start
starts_same line from t u a h b g =
    let low : u.start ≤ t.start = gap_ends line from u.start t.start b (omega (arith, token_inside line u g)) a.inside (token_unblank line t h) in
    let high : t.start ≤ u.start = gap_ends line from t.start u.start a (omega (arith, token_inside line t h)) b.inside (token_unblank line u g) in
    omega arith

-- a token can't stand after a gap that reading ends with
ended : (line : List ℕ) (n from s : ℕ) (a : Result (Unit {0}) LexFault) (u : Token) → Here line n s a → n < 16 → IsGap line from s → IsGap line from u.start → IsTokenOf line u → ⊥
ended line n from s a u h few g b t =
    let high : s ≤ u.start = gap_ends line from s u.start g (inside_at line n s a h) b.inside (token_unblank line u t) in
    let short : s < length line = omega (arith, token_inside line u t) in
    let low : u.start ≤ s = gap_ends line from u.start s b (omega (arith, token_inside line u t)) g.inside (unblank line n s a h short) in
    no_token line n s a u t few (omega arith) h

stops_by : (line : List ℕ) (n from r s : ℕ) (a b : Result (Unit {0}) LexFault) → Here line n r a → Here line n s b → IsGap line from r → IsGap line from s → r < s → ⊥
stops_by line n from r s a b h g x y e =
    let inside = inside_at line n s b g in
    let low : s ≤ r = gap_ends line from s r y inside x.inside (unblank line n r a h (omega (arith, inside))) in
    omega arith

stops_same : (line : List ℕ) (n from r s : ℕ) (a b : Result (Unit {0}) LexFault) → Here line n r a → Here line n s b → IsGap line from r → IsGap line from s → r ≡ s
stops_same line n from r s a b h g x y =
    let early : r < s → ⊥ = stops_by line n from r s a b h g x y in
    let late : s < r → ⊥ = stops_by line n from s r b a g h y x in
    omega (arith, early, late)

one_way : (line : List ℕ) (ts us : List Token) (n from r s : ℕ) (a b : Result (Unit {0}) LexFault)
    → AreTokens line ts from r → AreTokens line us from s → n + length ts ≤ 16 → n + length us ≤ 16
    → Here line (n + length ts) r a → Here line (n + length us) s b → Tells r a → Tells s b → (ts ≡ us) × (a ≡ b)
one_way line [] [] n from r s a b x y few many h g v w =
    let e = stops_same line (n + 0) from r s a b h g x y in
    let P : ℕ → Type 0 = λ p. Here line (n + 0) p b in
    let Q : ℕ → Type 0 = λ p. Tells p b in
    (refl, same_answer line (n + 0) r a b h (subst P (sym e) g) v (subst Q (sym e) w))
one_way line [] (u ∷ us) n from r s a b x y few many h g v w = absurd (ended line (n + 0) from r a u h (omega arith) x y.0 y.1)
one_way line (t ∷ ts) [] n from r s a b x y few many h g v w = absurd (ended line (n + 0) from s b t g (omega arith) y x.0 x.1)
one_way line (t ∷ ts) (u ∷ us) n from r s a b x y few many h g v w =
    let e : t ≡ u = token_same line t u x.1 y.1 (starts_same line from t u x.0 x.1 y.0 y.1) in
    let P : ℕ → Type 0 = λ p. AreTokens line us p s in
    let Q : ℕ → Type 0 = λ m. Here line m r a in
    let R : ℕ → Type 0 = λ m. Here line m s b in
    let counted : n + suc (length ts) ≡ n + 1 + length ts = omega arith in
    let counted_too : n + suc (length us) ≡ n + 1 + length us = omega arith in
    let rest = one_way line ts us (n + 1) t.end r s a b x.2 (subst P (sym (ap (λ (z : Token). z.end) e)) y.2) (omega arith) (omega arith) (subst Q counted h) (subst R counted_too g) v w in
    (ap (λ z. z ∷ ts) e ∙ ap (λ zs. u ∷ zs) rest.0, rest.1)

pub read_one_way : (line : List ℕ) (ts us : List Token) (a b : Result (Unit {0}) LexFault) → IsRead line ts a → IsRead line us b → (ts ≡ us) × (a ≡ b)
read_one_way line ts us a b x y =
    let Q : ℕ → Type 0 = λ m. Here line m x.stop a in
    let R : ℕ → Type 0 = λ m. Here line m y.stop b in
    let zero_ts : length ts ≡ 0 + length ts = omega arith in
    let zero_us : length us ≡ 0 + length us = omega arith in
    let h = here line (length ts) x.stop a (stop_of line ts a x.stop x.ends) in
    let g = here line (length us) y.stop b (stop_of line us b y.stop y.ends) in
    let few : length ts ≤ 16 = x.few in
    let many : length us ≤ 16 = y.few in
    one_way line ts us 0 0 x.stop y.stop a b x.all y.all (omega arith) (omega arith) (subst Q zero_ts h.0) (subst R zero_us g.0) h.1 g.1
