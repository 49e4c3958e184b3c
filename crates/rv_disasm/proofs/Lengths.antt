-- No source of an image is too long for the assembler.
use Rattle.std.proofs.Common.{◌≡◌, ℕ, zero, suc, ◌+◌, ◌-◌, ◌*◌, ◌/◌, ◌%◌, ◌^◌, ◌<◌, ◌≤◌, List, [], ◌∷◌, ◌++◌, length, Option, Some, None, Bool, true, false, cond, refl, sym, ap, subst, ◌∙◌, arith, length-append, append_assoc, lit<, get_or, take, Fits, w8}
use Rattle.std.specs.Prelude.{option_map, slice_get, IfSome, nat_lt, nat_le, ◌==◌, ℤ, pos, negsuc}
use Rattle.std.specs.List.{flat_map, list_all}
use Rattle.std.specs.Fmt.{decimal, signed_decimal}
use Rattle.std.proofs.lemmas.Fmt.{length-decimal-le}
use Rattle.std.proofs.Math.Facts.{Fits-lt-pow}
use Rattle.std.proofs.lemmas.List.{append-nil}
use Rattle.std.proofs.lemmas.List.Sums.{sum_by-cons}
use Rattle.std.proofs.lemmas.List.Elements.{All-cons}
use Rattle.std.proofs.lemmas.Bool.{and_parts, ltb-true, leb-true, agree_below, agree_below_at, lt-ltb}
use Rattle.std.proofs.lemmas.Bool.Decides.{nat_tests}
use Rattle.std.specs.declared.result.Result.TheVariants.{Ok}
use Rattle.hart_words.specs.TwosComplement.{signed_value}
use Rattle.asm_text.specs.Names.{Names, register_name, csr_name, csrs, name_in}
use Rattle.asm_text.specs.Pieces.{printed, text_of, hex, hex_digits, is_mark}
use Rattle.asm_text.specs.declared.token_kind.TokenKind.{TokenKind}
use Rattle.asm_text.specs.declared.token_kind.TokenKind.TheVariants.{Name, Number, Comma, Colon, Open, Close}
use Rattle.hart_memory.specs.Place.{holds}
use Rattle.hart_memory.specs.Image.{SegmentView, ImageView, byte_count, AreSound, IsPlaced}
use Rattle.hart_memory.proofs.ImageLemmas.{byte_count-le}
use Rattle.rv_assembler.specs.Source.{assembled}
use Rattle.rv_assembler.specs.declared.assembling.TheConstants.{MAX_SOURCE}
use Rattle.rv_assembler.specs.declared.stretch.Stretch.{Stretch}
use Rattle.asm_fields.specs.declared.field.Field.{Field}
use Rattle.asm_fields.specs.declared.field.Field.TheVariants.{Rd, Rs1, Rs2, Csr, Source, Pred, Succ, Signed, Below, Digits, Upper, Amount, Word as AnyWord, Label, Address, Target}
use Rattle.asm_fields.specs.declared.item.Item.{Item}
use Rattle.asm_fields.specs.declared.item.Item.TheVariants.{Operand, Mark}
use Rattle.rv_disasm.specs.Shown.{row_of, values_of}
use Rattle.rv_disasm.specs.Printing.{letters, set_piece, csr_by, field_piece, items_pieces, operands_pieces, row_pieces, line_pieces}
use Rattle.rv_disasm.specs.Fitting.{is_word, is_near_zero, field_fits, starts_with_mark, items_fit, statement_fits}
use Rattle.hart_memory.specs.Memory.{AreBytes}
use Rattle.rv_disasm.specs.Listing.{line_text, behind, text_from, listed, listing, heading, entry_text, org_text, segment_text, image_text, AreAllBytes}
use Rattle.rv_disasm.specs.declared.statement.Statement.{Statement}
use Rattle.rv_disasm.specs.declared.statement.Statement.TheVariants.{Entry, Org, Byte, Half, Word, Long, Short}
use Rattle.rv_disasm.specs.declared.values.Values.{Values}
use Rattle.rv_disasm.proofs.Again.{three, near_small, value_by, always}
use Rattle.rv_disasm.proofs.Table.{field_bound, items_bound}
use Rattle.rv_disasm.proofs.Sentences.{most_for, parts, statement_row, statement_makes}
use Rattle.rv_disasm.proofs.Fronts.{Puts, ArePuts, listed_puts}
use Rattle.rv_assembler.specs.Relation.{stretch_of}
use Rattle.rv_disasm.proofs.Running.{StandBeside, holds_small}
use Rattle.rv_disasm.proofs.Whole.{image_again, stands}

-- ---- numbers and names

hex_length : (k n : ℕ) → length (hex_digits k n) ≡ k
hex_length zero n = refl
hex_length (suc k) n = length-append (hex_digits k (n / 16)) _ ∙ (let e : length (hex_digits k (n / 16)) + 1 ≡ suc k = omega (arith, hex_length k (n / 16)) in e)

hex_short : (k n : ℕ) → length (hex k n) ≡ k
unfolding hex
hex_short k n = hex_length k n

signed_len : (b : Bool) (k half n : ℕ) → nat_lt n (2 ^ 31) ≡ b → 0 < k → half < 10 ^ k → half ≤ 2 ^ 31 → n < 2 ^ 32 → is_near_zero half n ≡ true → length (signed_decimal (cond b (pos n) (negsuc (2 ^ 32 - 1 - n)))) ≤ k + 1
signed_len true k half n e p h l m s =
    let small : n < half = grind (arith, nat_tests) in
    let most = length-decimal-le k n p (omega arith) (omega arith) in omega arith
signed_len false k half n e p h l m s =
    let large : 2 ^ 32 ≤ n + half = grind (arith, nat_tests) in
    let t : suc (2 ^ 32 - 1 - n) < 10 ^ k = omega arith in
    let most = length-decimal-le k (suc (2 ^ 32 - 1 - n)) p t (omega arith) in omega arith

signed_by : (a b : Bool) (half n : ℕ) → nat_le half 99 ≡ a → nat_le half 9999 ≡ b → half ≤ 2 ^ 31 → n < 2 ^ 32 → is_near_zero half n ≡ true → length (signed_decimal (signed_value n)) ≤ cond a 3 (cond b 5 11)
signed_by a b half n e f l m s =
    let v = value_by (nat_lt n (2 ^ 31)) n refl m in
    subst (λ (z : ℤ). length (signed_decimal z) ≤ cond a 3 (cond b 5 11)) (sym v) (by_size a b e f)
  where
    by_size : (a b : Bool) → nat_le half 99 ≡ a → nat_le half 9999 ≡ b → length (signed_decimal (cond (nat_lt n (2 ^ 31)) (pos n) (negsuc (2 ^ 32 - 1 - n)))) ≤ cond a 3 (cond b 5 11)
    by_size true b e f = let h = leb-true half 99 e in signed_len (nat_lt n (2 ^ 31)) 2 half n refl (lit< tt) (omega arith) l m s
    by_size false true e f = let h = leb-true half 9999 f in signed_len (nat_lt n (2 ^ 31)) 4 half n refl (lit< tt) (omega arith) l m s
    by_size false false e f = signed_len (nat_lt n (2 ^ 31)) 10 half n refl (lit< tt) (omega arith) l m s

below_by : (a b : Bool) (limit n : ℕ) → nat_le limit 100 ≡ a → nat_le limit 10000 ≡ b → limit ≤ 2 ^ 32 → n < limit → length (decimal n) ≤ cond a 2 (cond b 4 10)
below_by true b limit n e f l h = let m = leb-true limit 100 e in length-decimal-le 2 n (lit< tt) (omega arith) (omega arith)
below_by false true limit n e f l h = let m = leb-true limit 10000 f in length-decimal-le 4 n (lit< tt) (omega arith) (omega arith)
below_by false false limit n e f l h = length-decimal-le 10 n (lit< tt) (omega arith) (omega arith)

abbrev short_register : ℕ → Bool
short_register r = nat_le (length (register_name r)) 4

all_registers : agree_below short_register always 32 ≡ true
unfolding register_name
all_registers = refl

register_length : (r : ℕ) → r < 32 → length (register_name r) ≤ 4
register_length r h = leb-true _ 4 (agree_below_at short_register always 32 r all_registers h)

abbrev short_set : ℕ → Bool
short_set zero = true
short_set (suc n) = nat_le (length (letters (suc n))) 4

all_sets : agree_below short_set always 16 ≡ true
all_sets = refl

set_length : (n : ℕ) → n < 16 → length (text_of (set_piece n)) ≤ 4
set_length zero h = length-decimal-le 4 0 (lit< tt) (lit< tt) (lit< tt)
set_length (suc n) h = leb-true _ 4 (agree_below_at short_set always 16 (suc n) all_sets h)

named_by : (b : Bool) (name : List ℕ) (rest : Option (List ℕ)) (t : List ℕ) → length name ≤ 12 → (rest ≡ Some t → length t ≤ 12) → cond b (Some name) rest ≡ Some t → length t ≤ 12
named_by true name rest t h f e = let same : name ≡ t = cc in subst (λ (x : List ℕ). length x ≤ 12) same h
named_by false name rest t h f e = f e

named_length : (rows : Names) (n : ℕ) (t : List ℕ) → list_all (λ row. nat_le (length row.0) 12) rows ≡ true → name_in rows n ≡ Some t → length t ≤ 12
named_length [] n t all e = cc
named_length (row ∷ rows) n t all e =
    let s = and_parts (nat_le (length row.0) 12) (list_all (λ row. nat_le (length row.0) 12) rows) all in
    named_by (n == row.1) row.0 (name_in rows n) t (leb-true _ 12 s.0) (named_length rows n t s.1) e

csr_length : (n : ℕ) (o : Option (List ℕ)) → csr_name n ≡ o → length (text_of (csr_by o n)) ≤ 12
unfolding csr_name
csr_length n (Some t) e = named_length csrs n t refl e
csr_length n None e = let h = hex_short 3 n in omega arith

-- ---- operands

field_length : (f : Field) (v : Values) (p : ℕ) → field_fits f v ≡ true → length (text_of (field_piece f v p)) ≤ field_bound f
unfolding field_piece
field_length Rd v p h = register_length v.rd (ltb-true v.rd 32 h)
field_length Rs1 v p h = register_length v.rs1 (ltb-true v.rs1 32 h)
field_length Rs2 v p h = register_length v.rs2 (ltb-true v.rs2 32 h)
field_length Csr v p h = csr_length v.csr (csr_name v.csr) refl
field_length Source v p h = let l = ltb-true v.rs1 32 h in length-decimal-le 2 v.rs1 (lit< tt) (omega arith) (omega arith)
field_length Pred v p h = set_length v.rs1 (ltb-true v.rs1 16 h)
field_length Succ v p h = set_length v.rs2 (ltb-true v.rs2 16 h)
field_length (Signed half) v p h =
    let t = and_parts (nat_le half (2 ^ 31)) (is_near_zero half v.number) h in
    let m = leb-true half (2 ^ 31) t.0 in
    signed_by (nat_le half 99) (nat_le half 9999) half v.number refl refl m (near_small half v.number m t.1) t.1
field_length (Below limit) v p h =
    let t = and_parts (nat_le limit (2 ^ 32)) (nat_lt v.number limit) h in
    below_by (nat_le limit 100) (nat_le limit 10000) limit v.number refl refl (leb-true limit (2 ^ 32) t.0) (ltb-true v.number limit t.1)
field_length (Digits limit digits) v p h = let e = hex_short digits v.number in omega arith
field_length Upper v p h = let e = hex_short 5 (v.number / 4096) in omega arith
field_length Amount v p h = let e = hex_short 8 v.number in omega arith
field_length AnyWord v p h = let e = hex_short 8 v.number in omega arith
field_length Label v p h = cc
field_length Address v p h = let e = hex_short 8 v.number in omega arith
field_length Target v p h = let e = hex_short 8 ((p + v.number) % 2 ^ 32) in omega arith

items_length : (is : List Item) (v : Values) (p : ℕ) → items_fit is v ≡ true → length (printed (items_pieces is v p)) ≤ items_bound is
items_length [] v p h = omega arith
items_length (Operand f ∷ is) v p h =
    let t = three (field_fits f v) (starts_with_mark is) (items_fit is v) h in
    let here = field_length f v p t.0 in
    let rest = items_length is v p t.2 in
    omega (arith, length-append (text_of (field_piece f v p)) (printed (items_pieces is v p)))
items_length (Mark k ∷ is) v p h = let t = and_parts (is_mark k) (items_fit is v) h in marked k (items_length is v p t.1)
  where
    marked : (k : TokenKind) → length (printed (items_pieces is v p)) ≤ items_bound is → length (printed (items_pieces (Mark k ∷ is) v p)) ≤ 2 + items_bound is
    marked Comma l = omega arith
    marked Colon l = omega arith
    marked Open l = omega arith
    marked Close l = omega arith
    marked Name l = omega arith
    marked Number l = omega arith

operands_length : (is : List Item) (v : Values) (p : ℕ) → items_fit is v ≡ true → length (printed (operands_pieces is v p)) ≤ 1 + items_bound is
operands_length [] v p h = omega arith
operands_length (i ∷ is) v p h = let l = items_length (i ∷ is) v p h in omega arith

-- ---- lines

line_length : (p : ℕ) (s : Statement) → statement_fits s ≡ true → length (line_text (line_pieces p s)) ≤ most_for s
unfolding row_pieces
line_length p s f =
    let row = row_of s in
    let kept = parts row (most_for s) (statement_row s f).sound in
    let m = statement_makes s 0 (lit< tt) f in
    let operands = operands_length row.items (values_of s) p m.fit in
    let text = printed (operands_pieces row.items (values_of s) p) in
    omega (arith, kept.bound, operands, length-append (row.name ++ text) (10 ∷ []), length-append row.name text)

most_is : (s : Statement) (bs : List ℕ) → 0 < length bs → Puts s bs → most_for s ≤ 15 * length bs
most_is (Entry e) bs h t = absurd (omega (arith, t.size))
most_is (Org a) bs h t = absurd (omega (arith, t.size))
most_is (Byte b) bs h t = omega (arith, t.size)
most_is (Half n) bs h t = omega (arith, t.size)
most_is (Word w) bs h t = omega (arith, t.size)
most_is (Long i) bs h t = omega (arith, t.size)
most_is (Short c) bs h t = omega (arith, t.size)

puts_length : (p : ℕ) (ss : List Statement) (bs : List ℕ) → ArePuts ss bs → length (text_from p ss) ≤ 15 * length bs
puts_length p [] bs a = omega arith
puts_length p (s ∷ ss) bs a =
    let some : 0 < length a.0 = omega (arith, a.2.some, a.2.size) in
    let here = line_length p s a.2.fitting in
    let most = most_is s a.0 some a.2 in
    let rest = puts_length (behind s p) ss a.1 a.4 in
    let count : length bs ≡ length a.0 + length a.1 = ap (λ (x : List ℕ). length x) a.3 ∙ length-append a.0 a.1 in
    omega (arith, here, most, rest, count, length-append (line_text (line_pieces p s)) (text_from (behind s p) ss))

-- ---- sources

org_length : (a : ℕ) → is_word a ≡ true → length (org_text a) ≤ 60
unfolding statement_fits
org_length a h = line_length 0 (Org a) h

entry_length : (e : ℕ) → is_word e ≡ true → length (entry_text e) ≤ 60
unfolding statement_fits
entry_length e h = line_length 0 (Entry e) h

listing_length : (base : ℕ) (bytes : List ℕ) → AreBytes bytes → length (listing base bytes) ≤ 15 * length bytes
unfolding listing
listing_length base bytes r = puts_length base (listed 0 bytes) bytes (listed_puts 0 bytes r)

segments_length : (older : List Stretch) (ss : List SegmentView) → StandBeside older ss → length (flat_map segment_text ss) ≤ 60 * length ss + 15 * byte_count ss
unfolding segment_text
segments_length older [] h = omega arith
segments_length older (s ∷ ss) h =
    let small = holds_small s.address (length s.content) h.2 in
    let org = org_length s.address (lt-ltb s.address (2 ^ 32) (omega arith)) in
    let own = listing_length s.address s.content h.0 in
    let rest = segments_length (older ++ stretch_of s ∷ []) ss h.5 in
    let count : byte_count (s ∷ ss) ≡ length s.content + byte_count ss = sum_by-cons (λ (x : SegmentView). length x.content) s ss in
    omega (arith, org, own, rest, count, length-append (org_text s.address ++ listing s.address s.content) (flat_map segment_text ss), length-append (org_text s.address) (listing s.address s.content))

image_short : (image : ImageView) → image.start < 2 ^ 32 → AreSound image.segments → AreAllBytes image.segments → length (image_text image) ≤ MAX_SOURCE
unfolding image_text
image_short image e h b =
    let entry = entry_length image.start (lt-ltb image.start (2 ^ 32) e) in
    let rest = segments_length [] image.segments (stands image.segments h b) in
    omega (arith, entry, rest, h.few, byte_count-le image.segments h, length-append (entry_text image.start) (flat_map segment_text image.segments))

pub image_returns : (image : ImageView) → image.start < 2 ^ 32 → AreSound image.segments → AreAllBytes image.segments → assembled (image_text image) ≡ Ok (record { image = image; symbols = [] })
image_returns image e h b = image_again image e (stands image.segments h b) (image_short image e h b)

-- ---- one segment

one_is : (base : ℕ) (bytes : List ℕ) → image_text (record { start = base; segments = record { address = base; content = bytes } ∷ [] }) ≡ heading base ++ listing base bytes
unfolding image_text segment_text heading
one_is base bytes =
    ap (λ t. entry_text base ++ t) (append-nil (org_text base ++ listing base bytes))
    ∙ sym (append_assoc (entry_text base) (org_text base) (listing base bytes))

one_sound : (base : ℕ) (bytes : List ℕ) → 0 < length bytes → holds base (length bytes) ≡ true → AreSound (record { address = base; content = bytes } ∷ [])
one_sound base bytes some h = record {
  few = omega arith;
  placed = All-cons IsPlaced (record { address = base; content = bytes }) [] (some, h) (λ k d l. absurd (omega arith));
  apart = λ i j d l m. absurd (omega arith);
}

pub listing_returns : (base : ℕ) (bytes : List ℕ) → AreBytes bytes → 0 < length bytes → holds base (length bytes) ≡ true
    → assembled (heading base ++ listing base bytes) ≡ Ok (record { image = record { start = base; segments = record { address = base; content = bytes } ∷ [] }; symbols = [] })
listing_returns base bytes r some h =
    let small = holds_small base (length bytes) h in
    ap assembled (sym (one_is base bytes)) ∙ image_returns (record { start = base; segments = record { address = base; content = bytes } ∷ [] }) (omega arith) (one_sound base bytes some h) (r, tt)

-- bytes are below 256
pub bytes_from : (bytes : List ℕ) → ((i : ℕ) → Fits w8 (get_or bytes i 0)) → AreBytes bytes
bytes_from bytes h i = Fits-lt-pow (h i)

pub text_returns : (base : ℕ) (bytes text : List ℕ) → ((i : ℕ) → Fits w8 (get_or bytes i 0)) → text ≡ listing base bytes → 0 < length bytes → holds base (length bytes) ≡ true
    → assembled (heading base ++ text) ≡ Ok (record { image = record { start = base; segments = record { address = base; content = bytes } ∷ [] }; symbols = [] })
text_returns base bytes text r e some h = ap (λ t. assembled (heading base ++ t)) e ∙ listing_returns base bytes (bytes_from bytes r) some h

-- ---- an image whose segments were read one by one

pub bytes_there : (o : Option SegmentView) (bytes : List ℕ) → option_map (λ s. s.content) o ≡ Some bytes → AreBytes bytes → IfSome o (λ s. AreBytes s.content)
bytes_there None bytes e r = cc
bytes_there (Some s) bytes e r = let same : s.content ≡ bytes = cc in subst AreBytes (sym same) r

all_on : (segments : List SegmentView) (i : ℕ) → AreAllBytes (take i segments) → IfSome (slice_get segments i) (λ s. AreBytes s.content) → AreAllBytes (take (suc i) segments)
all_on [] i a s = tt
all_on (x ∷ xs) zero a s = (s, tt)
all_on (x ∷ xs) (suc i) a s = (a.0, all_on xs i a.1 s)

pub one_more : (segments : List SegmentView) (i : ℕ) → AreAllBytes (take i segments) → IfSome (slice_get segments i) (λ s. AreBytes s.content) → AreAllBytes (take (i + 1) segments)
one_more segments i a s = let one : suc i ≡ i + 1 = omega arith in subst (λ (n : ℕ). AreAllBytes (take n segments)) one (all_on segments i a s)

all_taken : (segments : List SegmentView) (i : ℕ) → length segments ≤ i → take i segments ≡ segments
all_taken [] zero h = refl
all_taken [] (suc i) h = refl
all_taken (x ∷ xs) zero h = absurd (omega arith)
all_taken (x ∷ xs) (suc i) h = ap (λ ss. x ∷ ss) (all_taken xs i (omega arith))

pub source_returns : (image : ImageView) (i : ℕ) (text : List ℕ) → text ≡ image_text image → image.start < 2 ^ 32 → AreSound image.segments → AreAllBytes (take i image.segments) → length image.segments ≤ i
    → assembled text ≡ Ok (record { image = image; symbols = [] })
source_returns image i text e l h b past = ap assembled e ∙ image_returns image l h (subst AreAllBytes (all_taken image.segments i past) b)
