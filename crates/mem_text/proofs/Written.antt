-- What is written is a memory text of the image.
use Rattle.std.proofs.Common.{◌≡◌, ℕ, suc, ◌+◌, ◌*◌, ◌/◌, ◌%◌, ◌<◌, ◌^◌, List, [], ◌∷◌, ◌++◌, length, Bool, true, false, cond, Result, Ok, Err, refl, sym, ap, subst, ◌∙◌, append_assoc, arith}
use Rattle.std.specs.Prelude.{IfOk, ◌||◌, ◌==◌, slice_index}
use Rattle.std.specs.Fmt.{digit_glyph}
use Rattle.std.specs.List.{list_all, All}
use Rattle.std.proofs.lemmas.Bool.Decides.{nat_tests}
use Rattle.std.proofs.lemmas.List.{append-nil}
use Rattle.std.proofs.lemmas.List.Folds.{list_all-append}
use Rattle.hart_words.specs.Hexadecimal.{hex2, hex4, hex8}
use Rattle.hart_memory.specs.Place.{holds, place}
use Rattle.hart_memory.specs.Image.{SegmentView, ImageView, IsPlaced, AreSound}
use Rattle.mem_text.specs.Bytes.{is_white, is_hex, hex_value}
use Rattle.mem_text.specs.Items.{Item, White, AddressOf, NumberOf, items_text, AreItems, IsDigits, goes_on, digits_after, digit_count, runs, segment_of, IsMemoryText}
use Rattle.mem_text.specs.Writing.{mark_behind, bytes_text, segments_text, memory_text, IsBytes}
use Rattle.mem_text.specs.Reading.{read_text}
use Rattle.mem_text.proofs.Forward.{more_digits}
use Rattle.mem_text.proofs.Backward.{text_is_read}

-- ---- digits that are written
glyph_is_hex : (d : ℕ) → d < 16 → is_hex (digit_glyph true d) ≡ true
unfolding is_hex
glyph_is_hex d h = grind (arith, nat_tests)

glyph_value : (d : ℕ) → d < 16 → hex_value (digit_glyph true d) ≡ d
unfolding hex_value
glyph_value d h = grind (arith, nat_tests)

-- a text of digits before others
record Spells (text : List ℕ) (count number scale : ℕ) : Type 0 where
  begins : (x : List ℕ) → is_hex (slice_index (text ++ x) 0) ≡ true
  on : list_all goes_on text ≡ true
  many : digit_count text ≡ count
  value : (n : ℕ) (x : List ℕ) → digits_after n (text ++ x) ≡ digits_after (n * scale + number) x

two_digits : (b : ℕ) → b < 256 → Spells (hex2 b) 2 b 256
unfolding hex2
two_digits b h =
    let high : b / 16 < 16 = omega arith in
    let low : b % 16 < 16 = omega arith in
    let f = glyph_is_hex (b / 16) high in
    let g = glyph_is_hex (b % 16) low in
    record {
      begins = λ x. f;
      on = rw (f, g) refl;
      many = rw (f, g) refl;
      value = λ n x. more_digits n (digit_glyph true (b / 16)) (b / 16) (digit_glyph true (b % 16) ∷ x) f (glyph_value (b / 16) high)
          ∙ more_digits (n * 16 + b / 16) (digit_glyph true (b % 16)) (b % 16) x g (glyph_value (b % 16) low)
          ∙ ap (λ m. digits_after m x) (let e : (n * 16 + b / 16) * 16 + b % 16 ≡ n * 256 + b = omega arith in e);
    }

count-append : (t u : List ℕ) → digit_count (t ++ u) ≡ digit_count t + digit_count u
count-append [] u = omega arith
count-append (b ∷ t) u = omega (arith, count-append t u)

begins_both : (t u : List ℕ) → ((x : List ℕ) → is_hex (slice_index (t ++ x) 0) ≡ true) → (x : List ℕ) → is_hex (slice_index ((t ++ u) ++ x) 0) ≡ true
begins_both t u h x = let Of : List ℕ → Type 0 = λ y. is_hex (slice_index y 0) ≡ true in subst Of (sym (append_assoc t u x)) (h (u ++ x))

value_both : (t u : List ℕ) (a b s : ℕ) → ((n : ℕ) (x : List ℕ) → digits_after n (t ++ x) ≡ digits_after (n * s + a) x) → ((n : ℕ) (x : List ℕ) → digits_after n (u ++ x) ≡ digits_after (n * s + b) x)
    → (n : ℕ) (x : List ℕ) → digits_after n ((t ++ u) ++ x) ≡ digits_after ((n * s + a) * s + b) x
value_both t u a b s f g n x = ap (digits_after n) (append_assoc t u x) ∙ f n (u ++ x) ∙ g (n * s + a) x

all_both : (t u : List ℕ) → list_all goes_on t ≡ true → list_all goes_on u ≡ true → list_all goes_on (t ++ u) ≡ true
all_both t u e f = list_all-append goes_on t u ∙ (rw (e, f) refl)

four_digits : (h : ℕ) → h < 65536 → Spells (hex4 h) 4 h 65536
unfolding hex4
four_digits h l =
    let p = two_digits (h / 256) (omega arith) in
    let q = two_digits (h % 256) (omega arith) in
    record {
      begins = begins_both (hex2 (h / 256)) (hex2 (h % 256)) p.begins;
      on = all_both (hex2 (h / 256)) (hex2 (h % 256)) p.on q.on;
      many = omega (arith, count-append (hex2 (h / 256)) (hex2 (h % 256)), p.many, q.many);
      value = λ n x. value_both (hex2 (h / 256)) (hex2 (h % 256)) (h / 256) (h % 256) 256 p.value q.value n x
          ∙ ap (λ m. digits_after m x) (let e : (n * 256 + h / 256) * 256 + h % 256 ≡ n * 65536 + h = omega arith in e);
    }

eight_digits : (w : ℕ) → w < 2 ^ 32 → Spells (hex8 w) 8 w (2 ^ 32)
unfolding hex8
eight_digits w l =
    let p = four_digits (w / 65536) (omega arith) in
    let q = four_digits (w % 65536) (omega arith) in
    record {
      begins = begins_both (hex4 (w / 65536)) (hex4 (w % 65536)) p.begins;
      on = all_both (hex4 (w / 65536)) (hex4 (w % 65536)) p.on q.on;
      many = omega (arith, count-append (hex4 (w / 65536)) (hex4 (w % 65536)), p.many, q.many);
      value = λ n x. value_both (hex4 (w / 65536)) (hex4 (w % 65536)) (w / 65536) (w % 65536) 65536 p.value q.value n x
          ∙ ap (λ m. digits_after m x) (let e : (n * 65536 + w / 65536) * 65536 + w % 65536 ≡ n * (2 ^ 32) + w = omega arith in e);
    }

spelled_digits : (text : List ℕ) (count number scale : ℕ) → Spells text count number scale → IsDigits count text
spelled_digits text count number scale p = record {
  begins = let Of : List ℕ → Type 0 = λ y. is_hex (slice_index y 0) ≡ true in subst Of (append-nil text) (p.begins []);
  on = p.on;
  few = omega (arith, p.many);
}

spelled_value : (text : List ℕ) (count number scale : ℕ) → Spells text count number scale → digits_after 0 text ≡ number
spelled_value text count number scale p = ap (digits_after 0) (sym (append-nil text)) ∙ p.value 0 [] ∙ (let e : 0 * scale + number ≡ number = omega arith in e)

-- ---- the items of what is written, before others
abbrev byte_items : ℕ → ℕ → List ℕ → List Item → List Item
byte_items count k [] rest = rest
byte_items count k (b ∷ bs) rest = NumberOf (hex2 b) ∷ White (mark_behind count k) ∷ byte_items count (k + 1) bs rest

abbrev segment_items : SegmentView → List Item → List Item
segment_items s rest = AddressOf (hex8 s.address) ∷ White 10 ∷ byte_items (length s.content) 0 s.content rest

abbrev image_items : List SegmentView → List Item
image_items [] = []
image_items (s ∷ ss) = segment_items s (image_items ss)

-- their text
bytes_are_text : (bs : List ℕ) (count k : ℕ) (rest : List Item) → items_text (byte_items count k bs rest) ≡ bytes_text count k bs ++ items_text rest
bytes_are_text [] count k rest = refl
bytes_are_text (b ∷ bs) count k rest =
    ap (λ t. hex2 b ++ mark_behind count k ∷ t) (bytes_are_text bs count (k + 1) rest)
    ∙ sym (append_assoc (hex2 b) (mark_behind count k ∷ bytes_text count (k + 1) bs) (items_text rest))

segments_are_text : (ss : List SegmentView) → items_text (image_items ss) ≡ segments_text ss
segments_are_text [] = refl
segments_are_text (s ∷ ss) =
    let content = bytes_text (length s.content) 0 s.content in
    ap (λ t. 64 ∷ hex8 s.address ++ 10 ∷ t) (bytes_are_text s.content (length s.content) 0 (image_items ss) ∙ ap (λ t. content ++ t) (segments_are_text ss))
    ∙ sym (append_assoc (64 ∷ hex8 s.address) (10 ∷ content) (segments_text ss))
    ∙ ap (λ t. t ++ segments_text ss) (sym (append_assoc (64 ∷ hex8 s.address) (10 ∷ []) content))

-- they may stand so
mark_is_white : (c : Bool) → is_white (cond c 10 32) ≡ true
mark_is_white true = refl
mark_is_white false = refl

white_mark : (count k : ℕ) → is_white (mark_behind count k) ≡ true
white_mark count k = mark_is_white ((k % 16 == 15) || (k + 1 == count))

bytes_are_items : (bs : List ℕ) (count k : ℕ) (rest : List Item) → All (λ b. b < 256) bs → AreItems rest → AreItems (byte_items count k bs rest)
bytes_are_items [] count k rest small h = h
bytes_are_items (b ∷ bs) count k rest small h =
    let digits = two_digits b (small 0 b (omega arith)) in
    let white = white_mark count k in
    (spelled_digits (hex2 b) 2 b 256 digits, rw white refl, (white, refl, bytes_are_items bs count (k + 1) rest (λ j d l. small (suc j) d (omega arith)) h))

is_word : (at n : ℕ) → 0 < n → holds at n ≡ true → at < 2 ^ 32
unfolding place
is_word at n k h = grind (arith, nat_tests)

segments_are_items : (ss : List SegmentView) → All IsPlaced ss → All IsBytes ss → AreItems (image_items ss)
segments_are_items [] placed small = tt
segments_are_items (s ∷ ss) placed small =
    let here = placed 0 s (omega arith) in
    let digits = eight_digits s.address (is_word s.address (length s.content) here.0 here.1) in
    let rest = segments_are_items ss (λ k d l. placed (suc k) d (omega arith)) (λ k d l. small (suc k) d (omega arith)) in
    (spelled_digits (hex8 s.address) 8 s.address (2 ^ 32) digits, refl, (refl, refl, bytes_are_items s.content (length s.content) 0 (image_items ss) (small 0 s (omega arith)) rest))

-- what they mean
bytes_in_front : (bs : List ℕ) (count k : ℕ) (rest : List Item) → All (λ b. b < 256) bs → (runs (byte_items count k bs rest)).front ≡ bs ++ (runs rest).front
bytes_in_front [] count k rest small = refl
bytes_in_front (b ∷ bs) count k rest small =
    ap (λ v. v ∷ (runs (byte_items count (k + 1) bs rest)).front) (spelled_value (hex2 b) 2 b 256 (two_digits b (small 0 b (omega arith))))
    ∙ ap (λ t. b ∷ t) (bytes_in_front bs count (k + 1) rest (λ j d l. small (suc j) d (omega arith)))

bytes_before : (bs : List ℕ) (count k : ℕ) (rest : List Item) → (runs (byte_items count k bs rest)).behind ≡ (runs rest).behind
bytes_before [] count k rest = refl
bytes_before (b ∷ bs) count k rest = bytes_before bs count (k + 1) rest

none_in_front : (ss : List SegmentView) → (runs (image_items ss)).front ≡ []
none_in_front [] = refl
none_in_front (s ∷ ss) = refl

one_segment : (at : ℕ) (bs : List ℕ) → 0 < length bs → segment_of at bs ≡ record { address = at; content = bs } ∷ []
one_segment at [] h = absurd (omega arith)
one_segment at (b ∷ bs) h = refl

segments_behind : (ss : List SegmentView) → All IsPlaced ss → All IsBytes ss → (runs (image_items ss)).behind ≡ ss
segments_behind [] placed small = refl
segments_behind (s ∷ ss) placed small =
    let here = placed 0 s (omega arith) in
    let digits = eight_digits s.address (is_word s.address (length s.content) here.0 here.1) in
    let items = byte_items (length s.content) 0 s.content (image_items ss) in
    let front : (runs items).front ≡ s.content
    = bytes_in_front s.content (length s.content) 0 (image_items ss) (small 0 s (omega arith)) ∙ ap (λ t. s.content ++ t) (none_in_front ss) ∙ append-nil s.content in
    let behind : (runs items).behind ≡ ss
    = bytes_before s.content (length s.content) 0 (image_items ss) ∙ segments_behind ss (λ k d l. placed (suc k) d (omega arith)) (λ k d l. small (suc k) d (omega arith)) in
    ap (λ a. segment_of a (runs items).front ++ (runs items).behind) (spelled_value (hex8 s.address) 8 s.address (2 ^ 32) digits)
    ∙ ap (λ f. segment_of s.address f ++ (runs items).behind) front
    ∙ ap (λ f. f ++ (runs items).behind) (one_segment s.address s.content here.0)
    ∙ ap (λ t. s ∷ t) behind

pub written : (i : ImageView) → AreSound i.segments → All IsBytes i.segments → IsMemoryText (memory_text i) i.start i
written i sound small = record {
  items = image_items i.segments;
  are = segments_are_items i.segments sound.placed small;
  text = segments_are_text i.segments;
  same = ap (λ f. segment_of 0 f ++ (runs (image_items i.segments)).behind) (none_in_front i.segments) ∙ segments_behind i.segments sound.placed small;
  sound = sound;
  start = refl;
}

-- what a call answers that wrote it
pub is_written : {E : Type 0} (answer : Result (List ℕ) E) (i : ImageView) → IfOk answer (λ t. t ≡ memory_text i) → AreSound i.segments → IfOk answer (λ t. All IsBytes i.segments) → IfOk answer (λ t. IsMemoryText t i.start i)
is_written (Ok t) i e sound small = let Of : List ℕ → Type 0 = λ t. IsMemoryText t i.start i in subst Of (sym e) (written i sound small)
is_written (Err e) i f sound small = tt

pub is_read_again : {E : Type 0} (answer : Result (List ℕ) E) (i : ImageView) → IfOk answer (λ t. IsMemoryText t i.start i) → IfOk answer (λ t. read_text i.start t ≡ Ok i)
is_read_again (Ok t) i h = text_is_read i.start t i h
is_read_again (Err e) i h = tt
