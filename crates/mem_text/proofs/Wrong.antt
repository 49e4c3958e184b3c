-- What is refused is the first byte with which something is wrong.
use Rattle.std.proofs.Common.{◌≡◌, ℕ, ◌+◌, ◌≤◌, ◌⊎◌, inl, inr, List, [], ◌∷◌, ◌++◌, length, Bool, true, false, Option, Some, None, Result, Ok, Err, refl, sym, ap, subst, ◌∙◌, append_assoc, arith}
use Rattle.std.specs.Prelude.{IfErr, slice_index}
use Rattle.hart_memory.specs.Place.{holds}
use Rattle.hart_memory.specs.Image.{ImageView, AreSound, meets_any}
use Rattle.mem_text.specs.Bytes.{is_hex, kind_of}
use Rattle.mem_text.specs.Items.{Item, White, LineRemark, BlockRemark, AddressOf, NumberOf, item_text, items_text, AreItems, IsDigits, may_precede, digits_after, IsMemoryText}
use Rattle.mem_text.specs.Moves.{longer_by, longer_address, longer_number, behind_digits, between, after_slash, in_line, in_block, after_star, after_at, move_of}
use Rattle.mem_text.specs.Bytes.{digit_of}
use Rattle.mem_text.specs.Laying.{Laying, nothing_laid, whole_image, moved_to, with_byte, is_full, why_by, why_not}
use Rattle.mem_text.specs.Reading.{Fault, State, fresh, on_with, begun, made, step, reads, whole, ended, ended_in, read_text}
use Rattle.mem_text.specs.Standing.{Gives}
use Rattle.mem_text.specs.FirstWrong.{laid, BeginsText, BeginsItems, IsMisplaced, IsWrongByte, StopsAt, IsCutShort, IsFirstWrong, RefusesFirst}
use Rattle.mem_text.specs.declared.mem_why.MemWhy.{MemWhy}
use Rattle.mem_text.specs.declared.mem_why.MemWhy.TheVariants.{BadByte, TooMany, OutsideMemory, Overlap, Truncated}
use Rattle.mem_text.specs.declared.mem_error.MemError.{MemError}
use Rattle.mem_text.specs.declared.mem_error.MemError.TheVariants.{Memory, Refused}
use Rattle.mem_text.specs.declared.moves.Move.{Move}
use Rattle.mem_text.specs.declared.moves.Move.TheVariants.{Go, Close, Begin, Bad}
use Rattle.mem_text.specs.declared.token.Token.{Token}
use Rattle.mem_text.specs.declared.token.Token.TheVariants.{Between, AfterSlash, LineComment, BlockComment, AfterStar, AfterAt, Address, Number}
use Rattle.mem_text.specs.declared.byte_kind.ByteKind.{ByteKind}
use Rattle.mem_text.specs.declared.byte_kind.ByteKind.TheVariants.{Digit, LineFeed, Blank, Slash, Star, At, Underscore, Other}
use Rattle.mem_text.proofs.ByteKinds.{fact, at_kind, feed_kind}
use Rattle.mem_text.proofs.Onward.{reads-append, whole-append, whole-reads}
use Rattle.mem_text.proofs.Forward.{is_text}
use Rattle.mem_text.proofs.Backward.{Lays, Stands, step_by, items_answered, lays_before, text_is_read}
use Rattle.mem_text.proofs.Soundness.{text_is_sound}
use Rattle.mem_text.proofs.Foretelling.{some_continuation}

-- ---- where reading stops
record FailsAt (place : ℕ) (s : State) (bytes : List ℕ) (f : Fault) : Type 0 where
  front : List ℕ
  byte : ℕ
  behind : List ℕ
  state : State
  text : bytes ≡ front ++ byte ∷ behind
  read : reads place s front ≡ Ok state
  fails : step (place + length front) state byte ≡ Err f

record FailsEnd (place : ℕ) (s : State) (bytes : List ℕ) (f : Fault) : Type 0 where
  state : State
  read : reads place s bytes ≡ Ok state
  fails : ended (place + length bytes) state ≡ Err f

abbrev Fails : ℕ → State → List ℕ → Fault → Type 0
Fails place s bytes f = FailsAt place s bytes f ⊎ FailsEnd place s bytes f

one_later : (b place : ℕ) (s t : State) (bs : List ℕ) (f : Fault) → step place s b ≡ Ok t → Fails (place + 1) t bs f → Fails place s (b ∷ bs) f
one_later b place s t bs f e (inl h) = inl (record {
  front = b ∷ h.front;
  byte = h.byte;
  behind = h.behind;
  state = h.state;
  text = ap (λ l. b ∷ l) h.text;
  read = ap (λ r. on_with r (λ t. reads (place + 1) t h.front)) e ∙ h.read;
  fails = let k : place + length (b ∷ h.front) ≡ place + 1 + length h.front = omega arith in ap (λ n. step n h.state h.byte) k ∙ h.fails;
})
one_later b place s t bs f e (inr h) = inr (record {
  state = h.state;
  read = ap (λ r. on_with r (λ t. reads (place + 1) t bs)) e ∙ h.read;
  fails = let k : place + length (b ∷ bs) ≡ place + 1 + length bs = omega arith in ap (λ n. ended n h.state) k ∙ h.fails;
})

one_byte : (r : Result State Fault) (b place : ℕ) (s : State) (bs : List ℕ) (f : Fault) → step place s b ≡ r → on_with r (λ t. whole (place + 1) t bs) ≡ Err f
    → ((t : State) → whole (place + 1) t bs ≡ Err f → Fails (place + 1) t bs f) → Fails place s (b ∷ bs) f
one_byte (Ok t) b place s bs f is e next = one_later b place s t bs f is (next t e)
one_byte (Err g) b place s bs f is e next = inl (record {
  front = [];
  byte = b;
  behind = bs;
  state = s;
  text = refl;
  read = refl;
  fails = let k : place + 0 ≡ place = omega arith in ap (λ n. step n s b) k ∙ is ∙ ap Err (let same : g ≡ f = cc in same);
})

fails_in : (bytes : List ℕ) (place : ℕ) (s : State) (f : Fault) → whole place s bytes ≡ Err f → Fails place s bytes f
fails_in [] place s f e = inr (record { state = s; read = refl; fails = let k : place + 0 ≡ place = omega arith in ap (λ n. ended n s) k ∙ e })
fails_in (b ∷ bs) place s f e = one_byte (step place s b) b place s bs f refl e (λ t h. fails_in bs (place + 1) t f h)

-- ---- a number begins between tokens alone
abbrev NoBegin : Move → Type 0
NoBegin (Go t) = Unit {0}
NoBegin (Close t) = Unit {0}
NoBegin (Begin d) = ⊥
NoBegin Bad = Unit {0}

slash_none : (k : ByteKind) → NoBegin (after_slash k)
slash_none Slash = tt
slash_none Star = tt
slash_none k = tt

line_none : (k : ByteKind) → NoBegin (in_line k)
line_none LineFeed = tt
line_none k = tt

block_none : (k : ByteKind) → NoBegin (in_block k)
block_none Star = tt
block_none k = tt

star_none : (k : ByteKind) → NoBegin (after_star k)
star_none Slash = tt
star_none k = tt

at_none : (k : ByteKind) → NoBegin (after_at k)
at_none (Digit d) = tt
at_none k = tt

longer_none : (c : Bool) (t : Token) → NoBegin (longer_by c t)
longer_none true t = tt
longer_none false t = tt

behind_none : (t : Token) (m : Move) (k : ByteKind) → NoBegin m → NoBegin (behind_digits t m k)
behind_none t m (Digit d) h = h
behind_none t m Underscore h = tt
behind_none t m k h = tt

between_begins : (k : ByteKind) (d : ℕ) → between k ≡ Begin d → k ≡ Digit d
between_begins (Digit e) d h = ap Digit (let same : e ≡ d = cc in same)
between_begins LineFeed d h = absurd cc
between_begins k d h = absurd cc

begins : (t : Token) (k : ByteKind) (d : ℕ) → move_of t k ≡ Begin d → (t ≡ Between) × (k ≡ Digit d)
begins Between k d e = (refl, between_begins k d e)
begins AfterSlash k d e = absurd (subst NoBegin e (slash_none k))
begins LineComment k d e = absurd (subst NoBegin e (line_none k))
begins BlockComment k d e = absurd (subst NoBegin e (block_none k))
begins AfterStar k d e = absurd (subst NoBegin e (star_none k))
begins AfterAt k d e = absurd (subst NoBegin e (at_none k))
begins (Address n v) k d e = absurd (subst NoBegin e (behind_none (Address n v) (longer_address n v (digit_of k)) k (longer_none _ _)))
begins (Number n v) k d e = absurd (subst NoBegin e (behind_none (Number n v) (longer_number n v (digit_of k)) k (longer_none _ _)))

-- ---- what a step refuses
abbrev Refusal : Move → Laying → MemWhy → Type 0
Refusal mv l why = (why ≡ BadByte) ⊎ ((d : ℕ) × (mv ≡ Begin d) × (why_not l ≡ Some why))

begun_refuses : (w : Option MemWhy) (place d : ℕ) (l : Laying) (f : Fault) → begun w place d l ≡ Err f → (f.place ≡ place) × (w ≡ Some f.why)
begun_refuses None place d l f e = absurd cc
begun_refuses (Some why) place d l f e = let same : record { place = place; why = why } ≡ f = cc in (ap (λ (f : Fault). f.place) (sym same), ap (λ (f : Fault). Some f.why) same)

made_refuses : (mv : Move) (place : ℕ) (s : State) (f : Fault) → made mv place s ≡ Err f → (f.place ≡ place) × Refusal mv s.laying f.why
made_refuses (Go t) place s f e = absurd cc
made_refuses (Close t) place s f e = absurd cc
made_refuses (Begin d) place s f e = let p = begun_refuses (why_not s.laying) place d s.laying f e in (p.0, inr (d, refl, p.1))
made_refuses Bad place s f e = let same : record { place = place; why = BadByte } ≡ f = cc in (ap (λ (f : Fault). f.place) (sym same), inl (ap (λ (f : Fault). f.why) (sym same)))

step_refuses : (place b : ℕ) (s : State) (f : Fault) → step place s b ≡ Err f → (f.place ≡ place) × Refusal (move_of s.token (kind_of b)) s.laying f.why
unfolding step
step_refuses place b s f e = made_refuses (move_of s.token (kind_of b)) place s f e

-- ---- items are spelled well, whatever they mean
abbrev Meant : MemWhy → Type 0
Meant BadByte = ⊥
Meant Truncated = ⊥
Meant TooMany = Unit {0}
Meant OutsideMemory = Unit {0}
Meant Overlap = Unit {0}

abbrev Spelled : Result ImageView Fault → Type 0
Spelled (Ok i) = Unit {0}
Spelled (Err f) = Meant f.why

meant_by : (a b c : Bool) (why : MemWhy) → why_by a b c ≡ Some why → Meant why
meant_by a b c TooMany e = tt
meant_by a b c OutsideMemory e = tt
meant_by a b c Overlap e = tt
meant_by true b c BadByte e = absurd cc
meant_by false false c BadByte e = absurd cc
meant_by false true true BadByte e = absurd cc
meant_by false true false BadByte e = absurd cc
meant_by true b c Truncated e = absurd cc
meant_by false false c Truncated e = absurd cc
meant_by false true true Truncated e = absurd cc
meant_by false true false Truncated e = absurd cc

meant : (l : Laying) (why : MemWhy) → why_not l ≡ Some why → Meant why
unfolding why_not
meant l why e = meant_by (is_full l) (holds (l.from + length l.filled) 1) (meets_any (l.from + length l.filled) 1 l.image.segments) why e

stands_spelled : (l : Laying) (w : Option MemWhy) (next : Type 0) → why_not l ≡ w → next → Stands Spelled w next
stands_spelled l None next e h = h
stands_spelled l (Some why) next e h = λ place. meant l why e

lays_spelled : (is : List Item) (l : Laying) → Lays Spelled is l
lays_spelled [] l = tt
lays_spelled (White b ∷ is) l = lays_spelled is l
lays_spelled (LineRemark t ∷ is) l = lays_spelled is l
lays_spelled (BlockRemark t ∷ is) l = lays_spelled is l
lays_spelled (AddressOf t ∷ is) l = lays_spelled is (moved_to (digits_after 0 t) l)
lays_spelled (NumberOf t ∷ is) l = stands_spelled l (why_not l) _ refl (lays_spelled is (with_byte (digits_after 0 t) l))

items_spelled : (entry : ℕ) (items : List Item) (bytes : List ℕ) → AreItems items → items_text items ≡ bytes → Spelled (whole 0 (fresh entry) bytes)
items_spelled entry items bytes are text =
    subst (λ t. Spelled (whole 0 (fresh entry) t)) text (items_answered items (nothing_laid entry) Spelled are (lays_spelled items (nothing_laid entry)) 0)

-- ---- what reading says of texts
text_of : (entry : ℕ) (bytes : List ℕ) (i : ImageView) → read_text entry bytes ≡ Ok i → IsMemoryText bytes entry i
text_of entry bytes i e = is_text entry bytes i (text_is_sound entry bytes i e) e

begins_text : (entry : ℕ) (bytes : List ℕ) (s : State) → reads 0 (fresh entry) bytes ≡ Ok s → BeginsText entry bytes
begins_text entry bytes s e = let c = some_continuation entry bytes s e in (c.0, c.1, text_of entry (bytes ++ c.0) c.1 c.2)

refused_with : (entry : ℕ) (front rest : List ℕ) (byte : ℕ) (s : State) (f : Fault) → reads 0 (fresh entry) front ≡ Ok s → step (0 + length front) s byte ≡ Err f
    → whole 0 (fresh entry) ((front ++ byte ∷ []) ++ rest) ≡ Err f
refused_with entry front rest byte s f read e =
    ap (whole 0 (fresh entry)) (append_assoc front (byte ∷ []) rest)
    ∙ (whole-append front (byte ∷ rest) 0 (fresh entry)
    ∙ (ap (λ r. on_with r (λ t. whole (0 + length front) t (byte ∷ rest))) read
    ∙ ap (λ r. on_with r (λ t. whole (0 + length front + 1) t rest)) e))

not_both : {A : Type 0} (r : Result A Fault) (x : A) (f : Fault) → r ≡ Ok x → r ≡ Err f → ⊥
not_both r x f e g = cc

never_text : (entry : ℕ) (front : List ℕ) (byte : ℕ) (s : State) (f : Fault) → reads 0 (fresh entry) front ≡ Ok s → step (0 + length front) s byte ≡ Err f → BeginsText entry (front ++ byte ∷ []) → ⊥
unfolding read_text
never_text entry front byte s f read e h =
    not_both (whole 0 (fresh entry) ((front ++ byte ∷ []) ++ h.0)) h.1 f (text_is_read entry ((front ++ byte ∷ []) ++ h.0) h.1 h.2) (refused_with entry front h.0 byte s f read e)

never_items : (entry : ℕ) (front : List ℕ) (byte : ℕ) (s : State) (f : Fault) → reads 0 (fresh entry) front ≡ Ok s → step (0 + length front) s byte ≡ Err f → f.why ≡ BadByte → BeginsItems (front ++ byte ∷ []) → ⊥
never_items entry front byte s f read e bad h =
    let spelled = items_spelled entry h.1 ((front ++ byte ∷ []) ++ h.0) h.2 h.3 in
    subst Meant bad (subst Spelled (refused_with entry front h.0 byte s f read e) spelled)

-- ---- a number that may not stand
-- a line feed may stand behind every item
feed_behind : (i : Item) (t rest : List ℕ) → may_precede i t ≡ true → may_precede i (t ++ 10 ∷ rest) ≡ true
feed_behind (White b) t rest e = refl
feed_behind (LineRemark x) [] rest e = refl
feed_behind (LineRemark x) (c ∷ t) rest e = e
feed_behind (BlockRemark x) t rest e = refl
feed_behind (AddressOf x) [] rest e = refl
feed_behind (AddressOf x) (c ∷ t) rest e = e
feed_behind (NumberOf x) [] rest e = refl
feed_behind (NumberOf x) (c ∷ t) rest e = e

items-append : (is js : List Item) → items_text (is ++ js) ≡ items_text is ++ items_text js
items-append [] js = refl
items-append (i ∷ is) js = ap (λ t. item_text i ++ t) (items-append is js) ∙ sym (append_assoc (item_text i) (items_text is) (items_text js))

-- these items, a line feed and a number of one digit
abbrev with_digit : ℕ → List Item → List Item
with_digit byte is = is ++ White 10 ∷ NumberOf (byte ∷ []) ∷ []

one_digit : (byte : ℕ) → is_hex byte ≡ true → IsDigits 2 (byte ∷ [])
one_digit byte h = record { begins = h; on = rw h refl; few = rw h (omega arith) }

are_with_digit : (byte : ℕ) (is : List Item) → is_hex byte ≡ true → AreItems is → AreItems (with_digit byte is)
are_with_digit byte [] h a = (refl, refl, (one_digit byte h, refl, tt))
are_with_digit byte (i ∷ is) h a = (
  a.0,
  subst (λ t. may_precede i t ≡ true) (sym (items-append is (White 10 ∷ NumberOf (byte ∷ []) ∷ []))) (feed_behind i (items_text is) (byte ∷ []) a.1),
  are_with_digit byte is h a.2,
)

-- the cause of what is refused behind these items
abbrev CauseIn : Option MemWhy → Result ImageView Fault → Type 0
CauseIn w r = (f : Fault) → r ≡ Err f → w ≡ Some f.why

cause_stands : (w : Option MemWhy) (x : ImageView) → Stands (CauseIn w) w (CauseIn w (Ok x))
cause_stands None x = λ f e. absurd cc
cause_stands (Some why) x = λ place f e. let same : record { place = place; why = why } ≡ f = cc in ap (λ (f : Fault). Some f.why) same

cause_found : (entry : ℕ) (front : List ℕ) (byte : ℕ) (i : ImageView) (h : IsMemoryText front entry i) → is_hex byte ≡ true → CauseIn (why_not (laid h.items (nothing_laid entry))) (whole 0 (fresh entry) (front ++ 10 ∷ byte ∷ []))
cause_found entry front byte i h digit =
    let l = nothing_laid entry in
    let P = CauseIn (why_not (laid h.items l)) in
    let js = White 10 ∷ NumberOf (byte ∷ []) ∷ [] in
    let lays : Lays P (h.items ++ js) l = lays_before h.items js l i P h.same h.sound (cause_stands (why_not (laid h.items l)) _) in
    subst (λ t. P (whole 0 (fresh entry) t)) (items-append h.items js ∙ ap (λ t. t ++ 10 ∷ byte ∷ []) h.text)
    (items_answered (h.items ++ js) l P (are_with_digit byte h.items digit h.are) lays 0)

digit_refused : (entry : ℕ) (front : List ℕ) (byte d : ℕ) (l : Laying) (why : MemWhy) → reads 0 (fresh entry) front ≡ Ok (record { laying = l; token = Between }) → kind_of byte ≡ Digit d → why_not l ≡ Some why
    → whole 0 (fresh entry) (front ++ 10 ∷ byte ∷ []) ≡ Err (record { place = 0 + length front + 1; why = why })
digit_refused entry front byte d l why read kind cause =
    let p = 0 + length front in
    let first : step p (record { laying = l; token = Between }) 10 ≡ Ok (record { laying = l; token = Between }) = step_by Between l 10 p LineFeed feed_kind in
    let second : step (p + 1) (record { laying = l; token = Between }) byte ≡ Err (record { place = p + 1; why = why })
    = step_by Between l byte (p + 1) (Digit d) kind ∙ ap (λ w. begun w (p + 1) d l) cause in
    whole-append front (10 ∷ byte ∷ []) 0 (fresh entry)
    ∙ (ap (λ r. on_with r (λ t. whole p t (10 ∷ byte ∷ []))) read
    ∙ (ap (λ r. on_with r (λ t. whole (p + 1) t (byte ∷ []))) first
    ∙ ap (λ r. on_with r (λ t. whole (p + 1 + 1) t [])) second))

whole_front : (entry : ℕ) (front : List ℕ) (l : Laying) → reads 0 (fresh entry) front ≡ Ok (record { laying = l; token = Between }) → read_text entry front ≡ Ok (whole_image l)
unfolding read_text ended
whole_front entry front l read = whole-reads front 0 (fresh entry) ∙ ap (λ r. on_with r (λ t. ended (0 + length front) t)) read

at_read : (entry : ℕ) (front : List ℕ) (l : Laying) → reads 0 (fresh entry) front ≡ Ok (record { laying = l; token = Between }) → reads 0 (fresh entry) (front ++ 64 ∷ []) ≡ Ok (record { laying = l; token = AfterAt })
at_read entry front l read =
    let p = 0 + length front in
    reads-append front (64 ∷ []) 0 (fresh entry)
    ∙ (ap (λ r. on_with r (λ t. reads p t (64 ∷ []))) read
    ∙ ap (λ r. on_with r (λ t. reads (p + 1) t [])) (step_by Between l 64 p At at_kind))

misplaced : (entry : ℕ) (front : List ℕ) (byte d : ℕ) (l : Laying) (why : MemWhy) → reads 0 (fresh entry) front ≡ Ok (record { laying = l; token = Between }) → kind_of byte ≡ Digit d → why_not l ≡ Some why
    → IsMisplaced entry front byte why
misplaced entry front byte d l why read kind cause =
    let digit : is_hex byte ≡ true = (fact byte (Digit d) kind).0 in
    let h = text_of entry front (whole_image l) (whole_front entry front l read) in
    record {
      digit = digit;
      free = begins_text entry (front ++ 64 ∷ []) (record { laying = l; token = AfterAt }) (at_read entry front l read);
      items = h.items;
      are = h.are;
      text = h.text;
      cause = cause_found entry front byte (whole_image l) h digit _ (digit_refused entry front byte d l why read kind cause);
    }

misplaced_in : (entry : ℕ) (front : List ℕ) (byte d : ℕ) (s : State) (why : MemWhy) → reads 0 (fresh entry) front ≡ Ok s → s.token ≡ Between → kind_of byte ≡ Digit d → why_not s.laying ≡ Some why → IsMisplaced entry front byte why
misplaced_in entry front byte d s why read token kind cause =
    misplaced entry front byte d s.laying why (read ∙ ap (λ t. Ok (record { laying = s.laying; token = t })) token) kind cause

-- ---- the first that is wrong
wrong_by : (entry : ℕ) (front : List ℕ) (byte : ℕ) (why : MemWhy) → Meant why → IsMisplaced entry front byte why → IsWrongByte entry front byte why
wrong_by entry front byte BadByte m h = absurd m
wrong_by entry front byte TooMany m h = h
wrong_by entry front byte OutsideMemory m h = h
wrong_by entry front byte Overlap m h = h
wrong_by entry front byte Truncated m h = absurd m

wrong_in : (entry : ℕ) (front : List ℕ) (byte : ℕ) (s : State) (f : Fault) → reads 0 (fresh entry) front ≡ Ok s → step (0 + length front) s byte ≡ Err f → Refusal (move_of s.token (kind_of byte)) s.laying f.why
    → IsWrongByte entry front byte f.why
wrong_in entry front byte s f read e (inl bad) = subst (IsWrongByte entry front byte) (sym bad) (never_items entry front byte s f read e bad)
wrong_in entry front byte s f read e (inr h) =
    let b = begins s.token (kind_of byte) h.0 h.1 in
    wrong_by entry front byte f.why (meant s.laying f.why h.2) (misplaced_in entry front byte h.0 s f.why read b.0 b.1 h.2)

stops_at : (entry : ℕ) (bytes : List ℕ) (f : Fault) → FailsAt 0 (fresh entry) bytes f → StopsAt entry bytes f.place f.why
stops_at entry bytes f h =
    let r = step_refuses (0 + length h.front) h.byte h.state f h.fails in
    record {
      front = h.front;
      byte = h.byte;
      behind = h.behind;
      text = h.text;
      place_is = omega (arith, r.0);
      before = begins_text entry h.front h.state h.read;
      with_it = never_text entry h.front h.byte h.state f h.read h.fails;
      wrong = wrong_in entry h.front h.byte h.state f h.read h.fails r.1;
    }

first_at : (entry : ℕ) (bytes : List ℕ) (place : ℕ) (why : MemWhy) → StopsAt entry bytes place why → IsFirstWrong entry bytes place why
first_at entry bytes place BadByte h = h
first_at entry bytes place TooMany h = h
first_at entry bytes place OutsideMemory h = h
first_at entry bytes place Overlap h = h
first_at entry bytes place Truncated h = absurd h.wrong

cut_by : (t : Token) (place : ℕ) (l : Laying) (f : Fault) → ended_in t place l ≡ Err f → record { place = place; why = Truncated } ≡ f
cut_by Between place l f e = absurd cc
cut_by LineComment place l f e = absurd cc
cut_by (Address n v) place l f e = absurd cc
cut_by (Number n v) place l f e = absurd cc
cut_by AfterSlash place l f e = cc
cut_by BlockComment place l f e = cc
cut_by AfterStar place l f e = cc
cut_by AfterAt place l f e = cc

cut_in : (place : ℕ) (s : State) (f : Fault) → ended place s ≡ Err f → record { place = place; why = Truncated } ≡ f
unfolding ended
cut_in place s f e = cut_by s.token place s.laying f e

cut_short : (entry : ℕ) (bytes : List ℕ) (f : Fault) → whole 0 (fresh entry) bytes ≡ Err f → FailsEnd 0 (fresh entry) bytes f → IsFirstWrong entry bytes f.place f.why
cut_short entry bytes f e h =
    let same = cut_in (0 + length bytes) h.state f h.fails in
    let place : 0 + length bytes ≡ length bytes = omega arith in
    subst (λ (f : Fault). IsFirstWrong entry bytes f.place f.why) same (record {
      place_is = place;
      before = begins_text entry bytes h.state h.read;
      unfinished = λ items are text. subst Spelled (e ∙ ap Err (sym same)) (items_spelled entry items bytes are text);
    })

text_wrong : (entry : ℕ) (bytes : List ℕ) (f : Fault) → read_text entry bytes ≡ Err f → IsFirstWrong entry bytes f.place f.why
unfolding read_text
text_wrong entry bytes f e =
    elim (fails_in bytes 0 (fresh entry) f e) [
      | inl h ↦ first_at entry bytes f.place f.why (stops_at entry bytes f h)
      | inr h ↦ cut_short entry bytes f e h
    ]

-- what a call answers that gives what reading gives
pub first_is_refused : {X : Type 0} (entry : ℕ) (bytes : List ℕ) (view : X → ImageView) (answer : Result X MemError) → Gives view answer (read_text entry bytes) → IfErr answer (λ e. RefusesFirst entry bytes e)
first_is_refused entry bytes view (Ok x) g = tt
first_is_refused entry bytes view (Err Memory) g = tt
first_is_refused entry bytes view (Err (Refused place why)) g = text_wrong entry bytes (record { place = place; why = why }) g
