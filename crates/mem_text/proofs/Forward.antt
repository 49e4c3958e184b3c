-- What is read is a memory text: reading on from within a token finishes the token, and items follow.
use Rattle.std.proofs.Common.{◌≡◌, ℕ, ◌+◌, ◌*◌, ◌≤◌, ◌⊎◌, inl, inr, List, [], ◌∷◌, ◌++◌, Bool, true, false, Option, Some, None, Ok, refl, sym, ap, subst, ◌∙◌, append_assoc, arith}
use Rattle.std.specs.Prelude.{◌||◌, ◌==◌, nat_lt, slice_index}
use Rattle.std.specs.List.{list_all}
use Rattle.std.proofs.lemmas.Bool.{ltb-true}
use Rattle.std.proofs.lemmas.List.{append-nil}
use Rattle.hart_memory.specs.Image.{SegmentView, ImageView, AreSound}
use Rattle.mem_text.specs.Bytes.{is_white, is_hex, hex_value, kind_of}
use Rattle.mem_text.specs.Items.{Item, White, LineRemark, BlockRemark, AddressOf, NumberOf, items_text, AreItems, IsDigits, stays_in_line, has_end, goes_on, ends_line, ends_token, digits_after, digit_count, runs, segment_of, IsMemoryText}
use Rattle.mem_text.specs.Moves.{longer_by, move_of}
use Rattle.mem_text.specs.Laying.{Laying, nothing_laid, whole_image, moved_to, with_byte, why_not}
use Rattle.mem_text.specs.Reading.{State, on_with, begun, made, step, whole, ended, ended_in, read_text}
use Rattle.mem_text.specs.declared.mem_why.MemWhy.{MemWhy}
use Rattle.mem_text.specs.declared.token.Token.{Token}
use Rattle.mem_text.specs.declared.token.Token.TheVariants.{Between, AfterSlash, LineComment, BlockComment, AfterStar, AfterAt, Address, Number}
use Rattle.mem_text.specs.declared.byte_kind.ByteKind.{ByteKind}
use Rattle.mem_text.specs.declared.byte_kind.ByteKind.TheVariants.{Digit, LineFeed, Blank, Slash, Star, At, Underscore, Other}
use Rattle.mem_text.proofs.ByteKinds.{fact, differs, feed_kind, star_kind, slash_kind}

-- ---- what finishes a token
abbrev MoreDigits : ℕ → ℕ → List ℕ → List ℕ → Type 0
MoreDigits n most x rest = (list_all goes_on x ≡ true) × (n + digit_count x ≤ most) × (ends_token rest ≡ true)

abbrev IsLineTail : List ℕ → List ℕ → Type 0
IsLineTail x rest = (t : List ℕ) × (x ≡ 47 ∷ t) × (stays_in_line t ≡ true) × (ends_line rest ≡ true)

abbrev IsBlockTail : List ℕ → Type 0
IsBlockTail x = (t : List ℕ) × (x ≡ 42 ∷ (t ++ 42 ∷ 47 ∷ [])) × (has_end (t ++ 42 ∷ []) ≡ false)

abbrev Finishes : Token → List ℕ → List ℕ → Type 0
Finishes Between x rest = x ≡ []
Finishes AfterSlash x rest = IsLineTail x rest ⊎ IsBlockTail x
Finishes LineComment x rest = (stays_in_line x ≡ true) × (ends_line rest ≡ true)
Finishes BlockComment x rest = (t : List ℕ) × (x ≡ t ++ 42 ∷ 47 ∷ []) × (has_end (t ++ 42 ∷ []) ≡ false)
Finishes AfterStar x rest = (t : List ℕ) × (42 ∷ x ≡ t ++ 42 ∷ 47 ∷ []) × (has_end (t ++ 42 ∷ []) ≡ false)
Finishes AfterAt x rest = IsDigits 8 x × (ends_token rest ≡ true)
Finishes (Address n v) x rest = MoreDigits n 8 x rest
Finishes (Number n v) x rest = MoreDigits n 2 x rest

-- what a finished token has laid down
abbrev lay : Token → List ℕ → Laying → Laying
lay Between x l = l
lay AfterSlash x l = l
lay LineComment x l = l
lay BlockComment x l = l
lay AfterStar x l = l
lay AfterAt x l = moved_to (digits_after 0 x) l
lay (Address n v) x l = moved_to (digits_after v x) l
lay (Number n v) x l = with_byte (digits_after v x) l

-- the segments when these items follow
abbrev pub segments_with : Laying → List Item → List SegmentView
segments_with l is = l.image.segments ++ (segment_of l.from (l.filled ++ (runs is).front) ++ (runs is).behind)

record Parsed (t : Token) (l : Laying) (bytes : List ℕ) (i : ImageView) : Type 0 where
  x : List ℕ
  items : List Item
  text : x ++ items_text items ≡ bytes
  are : AreItems items
  finishes : Finishes t x (items_text items)
  same : segments_with (lay t x l) items ≡ i.segments
  start : l.image.start ≡ i.start

-- between tokens
record Itemed (l : Laying) (bytes : List ℕ) (i : ImageView) : Type 0 where
  items : List Item
  text : items_text items ≡ bytes
  are : AreItems items
  same : segments_with l items ≡ i.segments
  start : l.image.start ≡ i.start

itemed : (l : Laying) (bytes : List ℕ) (i : ImageView) → Parsed Between l bytes i → Itemed l bytes i
itemed l bytes i p = record {
  items = p.items;
  text = ap (λ x. x ++ items_text p.items) (sym p.finishes) ∙ p.text;
  are = p.are;
  same = p.same;
  start = p.start;
}

plain : (l : Laying) (bytes : List ℕ) (i : ImageView) → Itemed l bytes i → Parsed Between l bytes i
plain l bytes i p = record { x = []; items = p.items; text = p.text; are = p.are; finishes = refl; same = p.same; start = p.start }

-- ---- an item that begins
white_first : (b : ℕ) (bs : List ℕ) (l : Laying) (i : ImageView) → is_white b ≡ true → Itemed l bs i → Itemed l (b ∷ bs) i
white_first b bs l i w p = record {
  items = White b ∷ p.items;
  text = ap (λ t. b ∷ t) p.text;
  are = (w, refl, p.are);
  same = p.same;
  start = p.start;
}

slash_by : (bs : List ℕ) (l : Laying) (i : ImageView) (p : Parsed AfterSlash l bs i) → IsLineTail p.x (items_text p.items) ⊎ IsBlockTail p.x → Itemed l (47 ∷ bs) i
slash_by bs l i p (inl h) = record {
  items = LineRemark h.0 ∷ p.items;
  text = ap (λ x. 47 ∷ (x ++ items_text p.items)) (sym h.1) ∙ ap (λ t. 47 ∷ t) p.text;
  are = (h.2, h.3, p.are);
  same = p.same;
  start = p.start;
}
slash_by bs l i p (inr h) = record {
  items = BlockRemark h.0 ∷ p.items;
  text = ap (λ x. 47 ∷ (x ++ items_text p.items)) (sym h.1) ∙ ap (λ t. 47 ∷ t) p.text;
  are = (h.2, refl, p.are);
  same = p.same;
  start = p.start;
}

slash_first : (b : ℕ) (bs : List ℕ) (l : Laying) (i : ImageView) → b ≡ 47 → Parsed AfterSlash l bs i → Itemed l (b ∷ bs) i
slash_first b bs l i e p = let Of : ℕ → Type 0 = λ b. Itemed l (b ∷ bs) i in subst Of (sym e) (slash_by bs l i p p.finishes)

-- ---- a digit that is read
pub more_digits : (v b d : ℕ) (x : List ℕ) → is_hex b ≡ true → hex_value b ≡ d → digits_after v (b ∷ x) ≡ digits_after (v * 16 + d) x
more_digits v b d x h e = rw (h, e) refl

pub first_digit : (b d : ℕ) (x : List ℕ) → is_hex b ≡ true → hex_value b ≡ d → digits_after 0 (b ∷ x) ≡ digits_after d x
first_digit b d x h e = more_digits 0 b d x h e ∙ ap (λ n. digits_after n x) (let k : 0 * 16 + d ≡ d = omega arith in k)

pub no_hex : is_hex 95 ≡ false
unfolding is_hex
no_hex = refl

digit_on : (b : ℕ) (x : List ℕ) → is_hex b ≡ true → list_all goes_on x ≡ true → list_all goes_on (b ∷ x) ≡ true
digit_on b x h e = rw (h, e) refl

under_on : (b : ℕ) (x : List ℕ) → b ≡ 95 → list_all goes_on x ≡ true → list_all goes_on (b ∷ x) ≡ true
under_on b x h e = rw (h, no_hex, e) refl

pub digit_counts : (b : ℕ) (x : List ℕ) → is_hex b ≡ true → digit_count (b ∷ x) ≡ 1 + digit_count x
digit_counts b x h = rw h refl

pub under_counts : (b : ℕ) (x : List ℕ) → b ≡ 95 → digit_count (b ∷ x) ≡ digit_count x
under_counts b x h = rw (h, no_hex) (let k : 0 + digit_count x ≡ digit_count x = omega arith in k)

pub under_passed : (v b : ℕ) (x : List ℕ) → b ≡ 95 → digits_after v (b ∷ x) ≡ digits_after v x
under_passed v b x h = rw (h, no_hex) refl

are_digits : (most b : ℕ) (x : List ℕ) → is_hex b ≡ true → list_all goes_on x ≡ true → 1 + digit_count x ≤ most → IsDigits most (b ∷ x)
are_digits most b x h on few = record { begins = h; on = digit_on b x h on; few = omega (arith, digit_counts b x h) }

-- ---- an address or a number that begins
at_first : (b : ℕ) (bs : List ℕ) (l : Laying) (i : ImageView) → b ≡ 64 → Parsed AfterAt l bs i → Itemed l (b ∷ bs) i
at_first b bs l i e p =
    let rest = segment_of (digits_after 0 p.x) (runs p.items).front ++ (runs p.items).behind in
    record {
      items = AddressOf p.x ∷ p.items;
      text = rw e (ap (λ t. 64 ∷ t) p.text);
      are = (p.finishes.0, p.finishes.1, p.are);
      same = ap (λ f. l.image.segments ++ (segment_of l.from f ++ rest)) (append-nil l.filled) ∙ sym (append_assoc l.image.segments (segment_of l.from l.filled) rest) ∙ p.same;
      start = p.start;
    }

number_first : (b d : ℕ) (bs : List ℕ) (l : Laying) (i : ImageView) → is_hex b ≡ true → hex_value b ≡ d → Parsed (Number 1 d) l bs i → Itemed l (b ∷ bs) i
number_first b d bs l i h e p =
    let front = (runs p.items).front in
    let behind = (runs p.items).behind in
    record {
      items = NumberOf (b ∷ p.x) ∷ p.items;
      text = ap (λ t. b ∷ t) p.text;
      are = (are_digits 2 b p.x h p.finishes.0 p.finishes.1, p.finishes.2, p.are);
      same = ap (λ v. l.image.segments ++ (segment_of l.from (l.filled ++ v ∷ front) ++ behind)) (first_digit b d p.x h e)
          ∙ ap (λ f. l.image.segments ++ (segment_of l.from f ++ behind)) (sym (append_assoc l.filled (digits_after d p.x ∷ []) front)) ∙ p.same;
      start = p.start;
    }

-- ---- one byte within a token
line_ends : (bytes : List ℕ) (l : Laying) (i : ImageView) → ends_line bytes ≡ true → Itemed l bytes i → Parsed LineComment l bytes i
line_ends bytes l i e p = let Of : List ℕ → Type 0 = λ t. ends_line t ≡ true in
    record { x = []; items = p.items; text = p.text; are = p.are; finishes = (refl, subst Of (sym p.text) e); same = p.same; start = p.start }

line_on : (b : ℕ) (bs : List ℕ) (l : Laying) (i : ImageView) → (b == 10) ≡ false → Parsed LineComment l bs i → Parsed LineComment l (b ∷ bs) i
line_on b bs l i n p = record {
  x = b ∷ p.x;
  items = p.items;
  text = ap (λ t. b ∷ t) p.text;
  are = p.are;
  finishes = (rw n p.finishes.0, p.finishes.1);
  same = p.same;
  start = p.start;
}

slash_slash : (b : ℕ) (bs : List ℕ) (l : Laying) (i : ImageView) → b ≡ 47 → Parsed LineComment l bs i → Parsed AfterSlash l (b ∷ bs) i
slash_slash b bs l i e p = record {
  x = b ∷ p.x;
  items = p.items;
  text = ap (λ t. b ∷ t) p.text;
  are = p.are;
  finishes = inl (p.x, ap (λ c. c ∷ p.x) e, p.finishes.0, p.finishes.1);
  same = p.same;
  start = p.start;
}

slash_star : (b : ℕ) (bs : List ℕ) (l : Laying) (i : ImageView) → b ≡ 42 → Parsed BlockComment l bs i → Parsed AfterSlash l (b ∷ bs) i
slash_star b bs l i e p = record {
  x = b ∷ p.x;
  items = p.items;
  text = ap (λ t. b ∷ t) p.text;
  are = p.are;
  finishes = inr (p.finishes.0, ap (λ c. c ∷ p.x) e ∙ ap (λ t. 42 ∷ t) p.finishes.1, p.finishes.2);
  same = p.same;
  start = p.start;
}

block_on : (b : ℕ) (bs : List ℕ) (l : Laying) (i : ImageView) → (b == 42) ≡ false → Parsed BlockComment l bs i → Parsed BlockComment l (b ∷ bs) i
block_on b bs l i n p = record {
  x = b ∷ p.x;
  items = p.items;
  text = ap (λ t. b ∷ t) p.text;
  are = p.are;
  finishes = (b ∷ p.finishes.0, ap (λ t. b ∷ t) p.finishes.1, rw n p.finishes.2);
  same = p.same;
  start = p.start;
}

block_star : (b : ℕ) (bs : List ℕ) (l : Laying) (i : ImageView) → b ≡ 42 → Parsed AfterStar l bs i → Parsed BlockComment l (b ∷ bs) i
block_star b bs l i e p = record {
  x = b ∷ p.x;
  items = p.items;
  text = ap (λ t. b ∷ t) p.text;
  are = p.are;
  finishes = (p.finishes.0, ap (λ c. c ∷ p.x) e ∙ p.finishes.1, p.finishes.2);
  same = p.same;
  start = p.start;
}

star_slash : (b : ℕ) (bs : List ℕ) (l : Laying) (i : ImageView) → b ≡ 47 → Itemed l bs i → Parsed AfterStar l (b ∷ bs) i
star_slash b bs l i e p = record {
  x = b ∷ [];
  items = p.items;
  text = ap (λ t. b ∷ t) p.text;
  are = p.are;
  finishes = ([], ap (λ c. 42 ∷ c ∷ []) e, refl);
  same = p.same;
  start = p.start;
}

first_star : (t x : List ℕ) → 42 ∷ x ≡ t ++ 42 ∷ 47 ∷ [] → slice_index (t ++ 42 ∷ []) 0 ≡ 42
first_star [] x e = refl
first_star (c ∷ cs) x e = cc

star_star : (b : ℕ) (bs : List ℕ) (l : Laying) (i : ImageView) → b ≡ 42 → Parsed AfterStar l bs i → Parsed AfterStar l (b ∷ bs) i
star_star b bs l i e p = record {
  x = b ∷ p.x;
  items = p.items;
  text = ap (λ t. b ∷ t) p.text;
  are = p.are;
  finishes = (42 ∷ p.finishes.0, ap (λ t. 42 ∷ t) (ap (λ c. c ∷ p.x) e ∙ p.finishes.1), rw (first_star p.finishes.0 p.x p.finishes.1) p.finishes.2);
  same = p.same;
  start = p.start;
}

star_other : (b : ℕ) (bs : List ℕ) (l : Laying) (i : ImageView) → (b == 42) ≡ false → (b == 47) ≡ false → Parsed BlockComment l bs i → Parsed AfterStar l (b ∷ bs) i
star_other b bs l i m n p = record {
  x = b ∷ p.x;
  items = p.items;
  text = ap (λ t. b ∷ t) p.text;
  are = p.are;
  finishes = (42 ∷ b ∷ p.finishes.0, ap (λ t. 42 ∷ b ∷ t) p.finishes.1, rw (n, m) p.finishes.2);
  same = p.same;
  start = p.start;
}

at_digit : (b d : ℕ) (bs : List ℕ) (l : Laying) (i : ImageView) → is_hex b ≡ true → hex_value b ≡ d → Parsed (Address 1 d) l bs i → Parsed AfterAt l (b ∷ bs) i
at_digit b d bs l i h e p = record {
  x = b ∷ p.x;
  items = p.items;
  text = ap (λ t. b ∷ t) p.text;
  are = p.are;
  finishes = (are_digits 8 b p.x h p.finishes.0 p.finishes.1, p.finishes.2);
  same = ap (λ v. segments_with (moved_to v l) p.items) (first_digit b d p.x h e) ∙ p.same;
  start = p.start;
}

address_digit : (n v b d : ℕ) (bs : List ℕ) (l : Laying) (i : ImageView) → is_hex b ≡ true → hex_value b ≡ d → Parsed (Address (n + 1) (v * 16 + d)) l bs i → Parsed (Address n v) l (b ∷ bs) i
address_digit n v b d bs l i h e p = record {
  x = b ∷ p.x;
  items = p.items;
  text = ap (λ t. b ∷ t) p.text;
  are = p.are;
  finishes = (digit_on b p.x h p.finishes.0, omega (arith, digit_counts b p.x h, p.finishes.1), p.finishes.2);
  same = ap (λ v. segments_with (moved_to v l) p.items) (more_digits v b d p.x h e) ∙ p.same;
  start = p.start;
}

address_under : (n v b : ℕ) (bs : List ℕ) (l : Laying) (i : ImageView) → b ≡ 95 → Parsed (Address n v) l bs i → Parsed (Address n v) l (b ∷ bs) i
address_under n v b bs l i e p = record {
  x = b ∷ p.x;
  items = p.items;
  text = ap (λ t. b ∷ t) p.text;
  are = p.are;
  finishes = (under_on b p.x e p.finishes.0, omega (arith, under_counts b p.x e, p.finishes.1), p.finishes.2);
  same = ap (λ v. segments_with (moved_to v l) p.items) (under_passed v b p.x e) ∙ p.same;
  start = p.start;
}

address_ends : (n v : ℕ) (bytes : List ℕ) (l : Laying) (i : ImageView) → n ≤ 8 → ends_token bytes ≡ true → Itemed (moved_to v l) bytes i → Parsed (Address n v) l bytes i
address_ends n v bytes l i few e p = let Of : List ℕ → Type 0 = λ t. ends_token t ≡ true in
    record { x = []; items = p.items; text = p.text; are = p.are; finishes = (refl, omega arith, subst Of (sym p.text) e); same = p.same; start = p.start }

number_digit : (n v b d : ℕ) (bs : List ℕ) (l : Laying) (i : ImageView) → is_hex b ≡ true → hex_value b ≡ d → Parsed (Number (n + 1) (v * 16 + d)) l bs i → Parsed (Number n v) l (b ∷ bs) i
number_digit n v b d bs l i h e p = record {
  x = b ∷ p.x;
  items = p.items;
  text = ap (λ t. b ∷ t) p.text;
  are = p.are;
  finishes = (digit_on b p.x h p.finishes.0, omega (arith, digit_counts b p.x h, p.finishes.1), p.finishes.2);
  same = ap (λ v. segments_with (with_byte v l) p.items) (more_digits v b d p.x h e) ∙ p.same;
  start = p.start;
}

number_under : (n v b : ℕ) (bs : List ℕ) (l : Laying) (i : ImageView) → b ≡ 95 → Parsed (Number n v) l bs i → Parsed (Number n v) l (b ∷ bs) i
number_under n v b bs l i e p = record {
  x = b ∷ p.x;
  items = p.items;
  text = ap (λ t. b ∷ t) p.text;
  are = p.are;
  finishes = (under_on b p.x e p.finishes.0, omega (arith, under_counts b p.x e, p.finishes.1), p.finishes.2);
  same = ap (λ v. segments_with (with_byte v l) p.items) (under_passed v b p.x e) ∙ p.same;
  start = p.start;
}

number_ends : (n v : ℕ) (bytes : List ℕ) (l : Laying) (i : ImageView) → n ≤ 2 → ends_token bytes ≡ true → Itemed (with_byte v l) bytes i → Parsed (Number n v) l bytes i
number_ends n v bytes l i few e p = let Of : List ℕ → Type 0 = λ t. ends_token t ≡ true in
    record { x = []; items = p.items; text = p.text; are = p.are; finishes = (refl, omega arith, subst Of (sym p.text) e); same = p.same; start = p.start }

-- ---- every byte
abbrev Few : Token → Type 0
Few Between = Unit {0}
Few AfterSlash = Unit {0}
Few LineComment = Unit {0}
Few BlockComment = Unit {0}
Few AfterStar = Unit {0}
Few AfterAt = Unit {0}
Few (Address n v) = n ≤ 8
Few (Number n v) = n ≤ 2

-- what the bytes behind this one are, wherever reading stands
abbrev Ahead : ℕ → List ℕ → ImageView → Type 0
Ahead place bs i = (t : Token) (m : Laying) → Few t → whole (place + 1) (record { laying = m; token = t }) bs ≡ Ok i → Parsed t m bs i

-- this move is made, and an image follows
abbrev Follows : Token → ByteKind → ℕ → List ℕ → Laying → ImageView → Type 0
Follows t k place bs l i = on_with (made (move_of t k) place (record { laying = l; token = t })) (λ s. whole (place + 1) s bs) ≡ Ok i

begun_goes_on : (w : Option MemWhy) (d place : ℕ) (bs : List ℕ) (l : Laying) (i : ImageView) → on_with (begun w place d l) (λ s. whole (place + 1) s bs) ≡ Ok i
    → whole (place + 1) (record { laying = l; token = Number 1 d }) bs ≡ Ok i
begun_goes_on None d place bs l i e = e
begun_goes_on (Some w) d place bs l i e = absurd cc

white_of_feed : (b : ℕ) → b ≡ 10 → is_white b ≡ true
white_of_feed b e = rw e refl

feeds : (b : ℕ) → b ≡ 10 → (b == 10) ≡ true
feeds b e = rw e refl

white_ends : (b : ℕ) → is_white b ≡ true → (is_white b || b == 47) ≡ true
white_ends b e = rw e refl

slash_ends : (b : ℕ) → b ≡ 47 → (is_white b || b == 47) ≡ true
slash_ends b e = rw e refl

between_at : (b place : ℕ) (bs : List ℕ) (l : Laying) (i : ImageView) (k : ByteKind) → kind_of b ≡ k → Ahead place bs i → Follows Between k place bs l i → Itemed l (b ∷ bs) i
between_at b place bs l i (Digit d) e ih h = let f = fact b (Digit d) e in number_first b d bs l i f.0 f.1 (ih (Number 1 d) l (omega arith) (begun_goes_on (why_not l) d place bs l i h))
between_at b place bs l i LineFeed e ih h = white_first b bs l i (white_of_feed b (fact b LineFeed e)) (itemed l bs i (ih Between l tt h))
between_at b place bs l i Blank e ih h = white_first b bs l i (fact b Blank e) (itemed l bs i (ih Between l tt h))
between_at b place bs l i Slash e ih h = slash_first b bs l i (fact b Slash e) (ih AfterSlash l tt h)
between_at b place bs l i At e ih h = at_first b bs l i (fact b At e) (ih AfterAt l tt h)
between_at b place bs l i Star e ih h = absurd cc
between_at b place bs l i Underscore e ih h = absurd cc
between_at b place bs l i Other e ih h = absurd cc

slash_at : (b place : ℕ) (bs : List ℕ) (l : Laying) (i : ImageView) (k : ByteKind) → kind_of b ≡ k → Ahead place bs i → Follows AfterSlash k place bs l i → Parsed AfterSlash l (b ∷ bs) i
slash_at b place bs l i Slash e ih h = slash_slash b bs l i (fact b Slash e) (ih LineComment l tt h)
slash_at b place bs l i Star e ih h = slash_star b bs l i (fact b Star e) (ih BlockComment l tt h)
slash_at b place bs l i (Digit d) e ih h = absurd cc
slash_at b place bs l i LineFeed e ih h = absurd cc
slash_at b place bs l i Blank e ih h = absurd cc
slash_at b place bs l i At e ih h = absurd cc
slash_at b place bs l i Underscore e ih h = absurd cc
slash_at b place bs l i Other e ih h = absurd cc

line_at : (b place : ℕ) (bs : List ℕ) (l : Laying) (i : ImageView) (k : ByteKind) → kind_of b ≡ k → Ahead place bs i → Follows LineComment k place bs l i → Parsed LineComment l (b ∷ bs) i
line_at b place bs l i LineFeed e ih h =
    let f = fact b LineFeed e in
    line_ends (b ∷ bs) l i (feeds b f) (white_first b bs l i (white_of_feed b f) (itemed l bs i (ih Between l tt h)))
line_at b place bs l i (Digit d) e ih h = line_on b bs l i (differs b 10 LineFeed (Digit d) e feed_kind (λ w. cc)) (ih LineComment l tt h)
line_at b place bs l i Blank e ih h = line_on b bs l i (differs b 10 LineFeed Blank e feed_kind (λ w. cc)) (ih LineComment l tt h)
line_at b place bs l i Slash e ih h = line_on b bs l i (differs b 10 LineFeed Slash e feed_kind (λ w. cc)) (ih LineComment l tt h)
line_at b place bs l i Star e ih h = line_on b bs l i (differs b 10 LineFeed Star e feed_kind (λ w. cc)) (ih LineComment l tt h)
line_at b place bs l i At e ih h = line_on b bs l i (differs b 10 LineFeed At e feed_kind (λ w. cc)) (ih LineComment l tt h)
line_at b place bs l i Underscore e ih h = line_on b bs l i (differs b 10 LineFeed Underscore e feed_kind (λ w. cc)) (ih LineComment l tt h)
line_at b place bs l i Other e ih h = line_on b bs l i (differs b 10 LineFeed Other e feed_kind (λ w. cc)) (ih LineComment l tt h)

block_at : (b place : ℕ) (bs : List ℕ) (l : Laying) (i : ImageView) (k : ByteKind) → kind_of b ≡ k → Ahead place bs i → Follows BlockComment k place bs l i → Parsed BlockComment l (b ∷ bs) i
block_at b place bs l i Star e ih h = block_star b bs l i (fact b Star e) (ih AfterStar l tt h)
block_at b place bs l i (Digit d) e ih h = block_on b bs l i (differs b 42 Star (Digit d) e star_kind (λ w. cc)) (ih BlockComment l tt h)
block_at b place bs l i LineFeed e ih h = block_on b bs l i (differs b 42 Star LineFeed e star_kind (λ w. cc)) (ih BlockComment l tt h)
block_at b place bs l i Blank e ih h = block_on b bs l i (differs b 42 Star Blank e star_kind (λ w. cc)) (ih BlockComment l tt h)
block_at b place bs l i Slash e ih h = block_on b bs l i (differs b 42 Star Slash e star_kind (λ w. cc)) (ih BlockComment l tt h)
block_at b place bs l i At e ih h = block_on b bs l i (differs b 42 Star At e star_kind (λ w. cc)) (ih BlockComment l tt h)
block_at b place bs l i Underscore e ih h = block_on b bs l i (differs b 42 Star Underscore e star_kind (λ w. cc)) (ih BlockComment l tt h)
block_at b place bs l i Other e ih h = block_on b bs l i (differs b 42 Star Other e star_kind (λ w. cc)) (ih BlockComment l tt h)

star_at : (b place : ℕ) (bs : List ℕ) (l : Laying) (i : ImageView) (k : ByteKind) → kind_of b ≡ k → Ahead place bs i → Follows AfterStar k place bs l i → Parsed AfterStar l (b ∷ bs) i
star_at b place bs l i Slash e ih h = star_slash b bs l i (fact b Slash e) (itemed l bs i (ih Between l tt h))
star_at b place bs l i Star e ih h = star_star b bs l i (fact b Star e) (ih AfterStar l tt h)
star_at b place bs l i (Digit d) e ih h = star_other b bs l i (differs b 42 Star (Digit d) e star_kind (λ w. cc)) (differs b 47 Slash (Digit d) e slash_kind (λ w. cc)) (ih BlockComment l tt h)
star_at b place bs l i LineFeed e ih h = star_other b bs l i (differs b 42 Star LineFeed e star_kind (λ w. cc)) (differs b 47 Slash LineFeed e slash_kind (λ w. cc)) (ih BlockComment l tt h)
star_at b place bs l i Blank e ih h = star_other b bs l i (differs b 42 Star Blank e star_kind (λ w. cc)) (differs b 47 Slash Blank e slash_kind (λ w. cc)) (ih BlockComment l tt h)
star_at b place bs l i At e ih h = star_other b bs l i (differs b 42 Star At e star_kind (λ w. cc)) (differs b 47 Slash At e slash_kind (λ w. cc)) (ih BlockComment l tt h)
star_at b place bs l i Underscore e ih h = star_other b bs l i (differs b 42 Star Underscore e star_kind (λ w. cc)) (differs b 47 Slash Underscore e slash_kind (λ w. cc)) (ih BlockComment l tt h)
star_at b place bs l i Other e ih h = star_other b bs l i (differs b 42 Star Other e star_kind (λ w. cc)) (differs b 47 Slash Other e slash_kind (λ w. cc)) (ih BlockComment l tt h)

at_at : (b place : ℕ) (bs : List ℕ) (l : Laying) (i : ImageView) (k : ByteKind) → kind_of b ≡ k → Ahead place bs i → Follows AfterAt k place bs l i → Parsed AfterAt l (b ∷ bs) i
at_at b place bs l i (Digit d) e ih h = let f = fact b (Digit d) e in at_digit b d bs l i f.0 f.1 (ih (Address 1 d) l (omega arith) h)
at_at b place bs l i LineFeed e ih h = absurd cc
at_at b place bs l i Blank e ih h = absurd cc
at_at b place bs l i Slash e ih h = absurd cc
at_at b place bs l i Star e ih h = absurd cc
at_at b place bs l i At e ih h = absurd cc
at_at b place bs l i Underscore e ih h = absurd cc
at_at b place bs l i Other e ih h = absurd cc

longer_goes_on : (c : Bool) (t : Token) (place : ℕ) (s : State) (bs : List ℕ) (i : ImageView) → on_with (made (longer_by c t) place s) (λ s. whole (place + 1) s bs) ≡ Ok i
    → (c ≡ true) × (whole (place + 1) (record s { token = t }) bs ≡ Ok i)
longer_goes_on true t place s bs i e = (refl, e)
longer_goes_on false t place s bs i e = absurd cc

address_at : (n v b place : ℕ) (bs : List ℕ) (l : Laying) (i : ImageView) (k : ByteKind) → n ≤ 8 → kind_of b ≡ k → Ahead place bs i → Follows (Address n v) k place bs l i → Parsed (Address n v) l (b ∷ bs) i
address_at n v b place bs l i (Digit d) few e ih h =
    let f = fact b (Digit d) e in
    let g = longer_goes_on (nat_lt n 8) (Address (n + 1) (v * 16 + d)) place (record { laying = l; token = Address n v }) bs i h in
    address_digit n v b d bs l i f.0 f.1 (ih (Address (n + 1) (v * 16 + d)) l (omega (arith, ltb-true _ _ g.0)) g.1)
address_at n v b place bs l i Underscore few e ih h = address_under n v b bs l i (fact b Underscore e) (ih (Address n v) l few h)
address_at n v b place bs l i LineFeed few e ih h =
    let w = white_of_feed b (fact b LineFeed e) in
    address_ends n v (b ∷ bs) l i few (white_ends b w) (white_first b bs (moved_to v l) i w (itemed (moved_to v l) bs i (ih Between (moved_to v l) tt h)))
address_at n v b place bs l i Blank few e ih h =
    let w = fact b Blank e in
    address_ends n v (b ∷ bs) l i few (white_ends b w) (white_first b bs (moved_to v l) i w (itemed (moved_to v l) bs i (ih Between (moved_to v l) tt h)))
address_at n v b place bs l i Slash few e ih h =
    let w = fact b Slash e in
    address_ends n v (b ∷ bs) l i few (slash_ends b w) (slash_first b bs (moved_to v l) i w (ih AfterSlash (moved_to v l) tt h))
address_at n v b place bs l i Star few e ih h = absurd cc
address_at n v b place bs l i At few e ih h = absurd cc
address_at n v b place bs l i Other few e ih h = absurd cc

number_at : (n v b place : ℕ) (bs : List ℕ) (l : Laying) (i : ImageView) (k : ByteKind) → n ≤ 2 → kind_of b ≡ k → Ahead place bs i → Follows (Number n v) k place bs l i → Parsed (Number n v) l (b ∷ bs) i
number_at n v b place bs l i (Digit d) few e ih h =
    let f = fact b (Digit d) e in
    let g = longer_goes_on (nat_lt n 2) (Number (n + 1) (v * 16 + d)) place (record { laying = l; token = Number n v }) bs i h in
    number_digit n v b d bs l i f.0 f.1 (ih (Number (n + 1) (v * 16 + d)) l (omega (arith, ltb-true _ _ g.0)) g.1)
number_at n v b place bs l i Underscore few e ih h = number_under n v b bs l i (fact b Underscore e) (ih (Number n v) l few h)
number_at n v b place bs l i LineFeed few e ih h =
    let w = white_of_feed b (fact b LineFeed e) in
    number_ends n v (b ∷ bs) l i few (white_ends b w) (white_first b bs (with_byte v l) i w (itemed (with_byte v l) bs i (ih Between (with_byte v l) tt h)))
number_at n v b place bs l i Blank few e ih h =
    let w = fact b Blank e in
    number_ends n v (b ∷ bs) l i few (white_ends b w) (white_first b bs (with_byte v l) i w (itemed (with_byte v l) bs i (ih Between (with_byte v l) tt h)))
number_at n v b place bs l i Slash few e ih h =
    let w = fact b Slash e in
    number_ends n v (b ∷ bs) l i few (slash_ends b w) (slash_first b bs (with_byte v l) i w (ih AfterSlash (with_byte v l) tt h))
number_at n v b place bs l i Star few e ih h = absurd cc
number_at n v b place bs l i At few e ih h = absurd cc
number_at n v b place bs l i Other few e ih h = absurd cc

stepped : (t : Token) (b place : ℕ) (bs : List ℕ) (l : Laying) (i : ImageView) → Few t → Ahead place bs i → Follows t (kind_of b) place bs l i → Parsed t l (b ∷ bs) i
stepped Between b place bs l i few ih h = plain l (b ∷ bs) i (between_at b place bs l i (kind_of b) refl ih h)
stepped AfterSlash b place bs l i few ih h = slash_at b place bs l i (kind_of b) refl ih h
stepped LineComment b place bs l i few ih h = line_at b place bs l i (kind_of b) refl ih h
stepped BlockComment b place bs l i few ih h = block_at b place bs l i (kind_of b) refl ih h
stepped AfterStar b place bs l i few ih h = star_at b place bs l i (kind_of b) refl ih h
stepped AfterAt b place bs l i few ih h = at_at b place bs l i (kind_of b) refl ih h
stepped (Address n v) b place bs l i few ih h = address_at n v b place bs l i (kind_of b) few refl ih h
stepped (Number n v) b place bs l i few ih h = number_at n v b place bs l i (kind_of b) few refl ih h

-- ---- the end
same_image : (place : ℕ) (l : Laying) (i : ImageView) → ended_in Between place l ≡ Ok i → whole_image l ≡ i
same_image place l i e = cc

nothing_left : (place : ℕ) (l : Laying) (i : ImageView) → ended_in Between place l ≡ Ok i → Itemed l [] i
nothing_left place l i e =
    let same = same_image place l i e in
    record {
      items = [];
      text = refl;
      are = tt;
      same = ap (λ f. l.image.segments ++ f) (append-nil (segment_of l.from (l.filled ++ [])) ∙ ap (segment_of l.from) (append-nil l.filled)) ∙ ap (λ (j : ImageView). j.segments) same;
      start = ap (λ (j : ImageView). j.start) same;
    }

at_end : (t : Token) (place : ℕ) (l : Laying) (i : ImageView) → Few t → ended_in t place l ≡ Ok i → Parsed t l [] i
at_end Between place l i few e = plain l [] i (nothing_left place l i e)
at_end AfterSlash place l i few e = absurd cc
at_end LineComment place l i few e = line_ends [] l i refl (nothing_left place l i e)
at_end BlockComment place l i few e = absurd cc
at_end AfterStar place l i few e = absurd cc
at_end AfterAt place l i few e = absurd cc
at_end (Address n v) place l i few e = address_ends n v [] l i few refl (nothing_left place (moved_to v l) i e)
at_end (Number n v) place l i few e = number_ends n v [] l i few refl (nothing_left place (with_byte v l) i e)

parsed : (bytes : List ℕ) (place : ℕ) (t : Token) (l : Laying) (i : ImageView) → Few t → whole place (record { laying = l; token = t }) bytes ≡ Ok i → Parsed t l bytes i
unfolding step ended
parsed [] place t l i few e = at_end t place l i few e
parsed (b ∷ bs) place t l i few e = stepped t b place bs l i few (λ u m f h. parsed bs (place + 1) u m i f h) e

pub is_text : (entry : ℕ) (bytes : List ℕ) (i : ImageView) → AreSound i.segments → read_text entry bytes ≡ Ok i → IsMemoryText bytes entry i
unfolding read_text
is_text entry bytes i sound e =
    let p = itemed (nothing_laid entry) bytes i (parsed bytes 0 Between (nothing_laid entry) i tt e) in
    record { items = p.items; are = p.are; text = p.text; same = p.same; sound = sound; start = sym p.start }
