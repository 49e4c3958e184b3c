-- What a front says of the bytes that it is read from.
use Rattle.std.proofs.Common.{◌≡◌, ℕ, suc, ◌+◌, ◌≤◌, List, [], ◌∷◌, take, length, Option, Some, None, Bool, true, false, cond, refl, sym, ap, ◌∙◌, arith}
use Rattle.std.specs.Prelude.{slice_index, ℤ, pos, ◌&&◌, ◌||◌, ◌==◌}
use Rattle.std.specs.List.{prefix_len}
use Rattle.std.proofs.lemmas.List.Sums.{prefix_len-le-length}
use Rattle.std.proofs.lemmas.Bool.Decides.{nat_tests}
use Rattle.asm_text.specs.declared.byte_class.ByteClass.{ByteClass}
use Rattle.asm_text.specs.declared.byte_class.ByteClass.TheVariants.{Blank, Comment, NameStart, Digit, Minus, Mark, Other}
use Rattle.asm_text.specs.declared.token_kind.TokenKind.{TokenKind}
use Rattle.asm_text.specs.declared.token_kind.TokenKind.TheVariants.{Name, Number, Comma, Colon, Open, Close}
use Rattle.asm_text.specs.Bytes.{is_digit, begins_name, is_name_byte, is_number_byte, class_of}
use Rattle.asm_text.specs.Numbers.{number_of}
use Rattle.asm_text.specs.Words.{Word, kind_of, value_of}
use Rattle.asm_text.specs.Lexing.{Front, Space, Rest, Taken, NoToken, NoNumber, front_of, front_by, number_front, numbered}
use Rattle.asm_text.specs.Pieces.{all_pass, is_mark, mark_byte}
use Rattle.asm_text.specs.Reading.{is_blank, is_mark_byte, begins_number, begins_nothing, IsNumberText, IsText}

pub record BadText (b : ℕ) (bs : List ℕ) : Type 0 where
  pub text : IsNumberText (b ∷ take (prefix_len is_number_byte bs) bs) (slice_index bs (prefix_len is_number_byte bs))
  pub refused : number_of (b ∷ take (prefix_len is_number_byte bs) bs) ≡ None

pub record TokenText (b : ℕ) (bs : List ℕ) (w : Word) (n : ℕ) : Type 0 where
  pub inside : n ≤ length bs
  pub text : IsText (kind_of w) (value_of w) (b ∷ take n bs) (slice_index bs n)

abbrev pub Means : ℕ → List ℕ → Front → Type 0
Means b bs Space = is_blank b ≡ true
Means b bs Rest = b ≡ 35
Means b bs NoToken = begins_nothing b (slice_index bs 0) ≡ true
Means b bs NoNumber = BadText b bs
Means b bs (Taken w n) = TokenText b bs w n

one_more : (k : ℕ) → 1 + k ≡ suc k
one_more k = omega arith

-- the first bytes that pass a test pass it
passes_by : (q : ℕ → Bool) (b : ℕ) (bs : List ℕ) (t : Bool) → q b ≡ t → all_pass q (take (prefix_len q bs) bs) ≡ true → all_pass q (take (cond t (1 + prefix_len q bs) 0) (b ∷ bs)) ≡ true
passes_by q b bs true h r = ap (λ m. all_pass q (take m (b ∷ bs))) (one_more (prefix_len q bs)) ∙ ap (λ x. x && all_pass q (take (prefix_len q bs) bs)) h ∙ r
passes_by q b bs false h r = refl

pub run_passes : (q : ℕ → Bool) (bs : List ℕ) → all_pass q (take (prefix_len q bs) bs) ≡ true
run_passes q [] = refl
run_passes q (b ∷ bs) = passes_by q b bs (q b) refl (run_passes q bs)

-- and the next one doesn't
stops_by : (q : ℕ → Bool) (b : ℕ) (bs : List ℕ) (t : Bool) → q b ≡ t → q (slice_index bs (prefix_len q bs)) ≡ false → q (slice_index (b ∷ bs) (cond t (1 + prefix_len q bs) 0)) ≡ false
stops_by q b bs true h r = ap (λ m. q (slice_index (b ∷ bs) m)) (one_more (prefix_len q bs)) ∙ r
stops_by q b bs false h r = h

pub run_stops : (q : ℕ → Bool) (bs : List ℕ) → q 0 ≡ false → q (slice_index bs (prefix_len q bs)) ≡ false
run_stops q [] z = z
run_stops q (b ∷ bs) z = stops_by q b bs (q b) refl (run_stops q bs z)

-- what a byte's class says of the byte
pub record IsMark (b : ℕ) (k : TokenKind) : Type 0 where
  pub kind : is_mark k ≡ true
  pub byte : b ≡ mark_byte k

pub record IsNone (b : ℕ) : Type 0 where
  pub blank : is_blank b ≡ false
  pub comment : (b == 35) ≡ false
  pub name : begins_name b ≡ false
  pub digit : is_digit b ≡ false
  pub minus : (b == 45) ≡ false
  pub mark : is_mark_byte b ≡ false

abbrev pub HasClass : ℕ → ByteClass → Type 0
HasClass b Blank = is_blank b ≡ true
HasClass b Comment = b ≡ 35
HasClass b NameStart = begins_name b ≡ true
HasClass b Digit = is_digit b ≡ true
HasClass b Minus = b ≡ 45
HasClass b (Mark k) = IsMark b k
HasClass b Other = IsNone b

is_same : (m n : ℕ) → (m == n) ≡ true → m ≡ n
is_same m n e = grind (arith, nat_tests)

by_test : (b : ℕ) (t : Bool) (x y : ByteClass) → (t ≡ true → HasClass b x) → (t ≡ false → HasClass b y) → HasClass b (cond t x y)
by_test b true x y f g = f refl
by_test b false x y f g = g refl

no_mark : (b : ℕ) → (b == 44) ≡ false → (b == 58) ≡ false → (b == 40) ≡ false → (b == 41) ≡ false → is_mark_byte b ≡ false
no_mark b e f g h = rw (e, f, g, h) refl

pub class_is : (b : ℕ) → HasClass b (class_of b)
unfolding class_of
class_is b =
    by_test b (b == 32 || b == 9) Blank _ (λ e. e) (λ blank.
    by_test b (b == 35) Comment _ (λ e. is_same b 35 e) (λ comment.
    by_test b (begins_name b) NameStart _ (λ e. e) (λ name.
    by_test b (is_digit b) Digit _ (λ e. e) (λ digit.
    by_test b (b == 45) Minus _ (λ e. is_same b 45 e) (λ minus.
    by_test b (b == 44) (Mark Comma) _ (λ e. record { kind = refl; byte = is_same b 44 e }) (λ comma.
    by_test b (b == 58) (Mark Colon) _ (λ e. record { kind = refl; byte = is_same b 58 e }) (λ colon.
    by_test b (b == 40) (Mark Open) _ (λ e. record { kind = refl; byte = is_same b 40 e }) (λ opens.
    by_test b (b == 41) (Mark Close) Other (λ e. record { kind = refl; byte = is_same b 41 e }) (λ closes.
    record { blank = blank; comment = comment; name = name; digit = digit; minus = minus; mark = no_mark b comma colon opens closes })))))))))

-- a byte of no class begins nothing, and neither does a minus before no digit
nothing : (b next : ℕ) → IsNone b → begins_nothing b next ≡ true
nothing b next h = rw (h.blank, h.comment, h.name, h.digit, h.minus, h.mark) refl

lone_minus : (b next : ℕ) → b ≡ 45 → is_digit next ≡ false → begins_nothing b next ≡ true
lone_minus b next e h = ap (λ x. begins_nothing x next) e ∙ rw h refl

digit_begins : (b next : ℕ) → is_digit b ≡ true → begins_number b next ≡ true
digit_begins b next h = ap (λ x. x || (b == 45 && is_digit next)) h

minus_begins : (b next : ℕ) → b ≡ 45 → is_digit next ≡ true → begins_number b next ≡ true
minus_begins b next e h = ap (λ x. begins_number x next) e ∙ h

-- a digit that follows is among the bytes that a number takes
no_digit : (c : ℕ) → is_number_byte c ≡ false → is_digit c ≡ is_digit 0
no_digit c h = grind (arith, nat_tests)

kept_by : (c : ℕ) (cs : List ℕ) (t : Bool) → is_number_byte c ≡ t → is_digit c ≡ is_digit (slice_index (take (cond t (1 + prefix_len is_number_byte cs) 0) (c ∷ cs)) 0)
kept_by c cs true h = ap (λ m. is_digit (slice_index (take m (c ∷ cs)) 0)) (sym (one_more (prefix_len is_number_byte cs)))
kept_by c cs false h = no_digit c h

digit_kept : (bs : List ℕ) → is_digit (slice_index bs 0) ≡ is_digit (slice_index (take (prefix_len is_number_byte bs) bs) 0)
digit_kept [] = refl
digit_kept (c ∷ cs) = kept_by c cs (is_number_byte c) refl

number_text : (b : ℕ) (bs : List ℕ) → begins_number b (slice_index bs 0) ≡ true → IsNumberText (b ∷ take (prefix_len is_number_byte bs) bs) (slice_index bs (prefix_len is_number_byte bs))
number_text b bs h = record {
  begins = ap (λ x. is_digit b || (b == 45 && x)) (sym (digit_kept bs)) ∙ h;
  goes_on = run_passes is_number_byte bs;
  ends = run_stops is_number_byte bs refl;
}

-- a number that is read or refused
number_means : (b : ℕ) (bs : List ℕ) (o : Option ℤ) → begins_number b (slice_index bs 0) ≡ true → number_of (b ∷ take (prefix_len is_number_byte bs) bs) ≡ o → Means b bs (numbered o (prefix_len is_number_byte bs))
number_means b bs None h e = record { text = number_text b bs h; refused = e }
number_means b bs (Some z) h e = record { inside = prefix_len-le-length is_number_byte bs; text = (number_text b bs h, e) }

minus_means : (t : Bool) (b : ℕ) (bs : List ℕ) → b ≡ 45 → is_digit (slice_index bs 0) ≡ t → Means b bs (cond t (number_front b bs) NoToken)
minus_means true b bs e h = number_means b bs _ (minus_begins b (slice_index bs 0) e h) refl
minus_means false b bs e h = lone_minus b (slice_index bs 0) e h

mark_text : (b : ℕ) (bs : List ℕ) (k : TokenKind) → is_mark k ≡ true → b ≡ mark_byte k → IsText k (pos 0) (b ∷ take 0 bs) (slice_index bs 0)
mark_text b bs Comma h e = (ap (λ x. x ∷ []) e, refl)
mark_text b bs Colon h e = (ap (λ x. x ∷ []) e, refl)
mark_text b bs Open h e = (ap (λ x. x ∷ []) e, refl)
mark_text b bs Close h e = (ap (λ x. x ∷ []) e, refl)
mark_text b bs Name h e = cc
mark_text b bs Number h e = cc

means_by : (c : ByteClass) (b : ℕ) (bs : List ℕ) → HasClass b c → Means b bs (front_by c b bs)
means_by Blank b bs h = h
means_by Comment b bs h = h
means_by NameStart b bs h = record { inside = prefix_len-le-length is_name_byte bs; text = (ap (λ x. x && all_pass is_name_byte (take (prefix_len is_name_byte bs) bs)) h ∙ run_passes is_name_byte bs, run_stops is_name_byte bs refl, refl) }
means_by Digit b bs h = number_means b bs _ (digit_begins b (slice_index bs 0) h) refl
means_by Minus b bs h = minus_means (is_digit (slice_index bs 0)) b bs h refl
means_by (Mark k) b bs h = record { inside = omega arith; text = mark_text b bs k h.kind h.byte }
means_by Other b bs h = nothing b (slice_index bs 0) h

-- what the front of b ∷ bs says
pub means : (b : ℕ) (bs : List ℕ) → Means b bs (front_of b bs)
unfolding front_of
means b bs = means_by (class_of b) b bs (class_is b)
