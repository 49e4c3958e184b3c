-- An image's source is assembled to the image.
use Rattle.std.proofs.Common.{◌≡◌, ℕ, zero, suc, ◌+◌, ◌^◌, ◌<◌, ◌≤◌, List, [], ◌∷◌, ◌++◌, length, map, drop, Option, Some, None, true, false, refl, sym, ap, subst, ◌∙◌, arith, append_assoc, lit<}
use Rattle.std.specs.Prelude.{nat_lt, ◌||◌, not, All, option_map, slice_get}
use Rattle.std.specs.List.{flat_map, AllPairs, slice_index_or}
use Rattle.std.proofs.lemmas.List.{length-append}
use Rattle.std.proofs.lemmas.List.Elements.{All-head, All-tail}
use Rattle.std.proofs.lemmas.List.Folds.{list_any-append}
use Rattle.std.proofs.Math.Seq.{take-append_seam, drop-append_seam}
use Rattle.std.proofs.lemmas.Bool.{cond-true, cond-false, lt-ltb, le-ltb, or_from}
use Rattle.std.proofs.lemmas.Bool.Decides.{nat_tests}
use Rattle.std.specs.declared.result.Result.{Result}
use Rattle.std.specs.declared.result.Result.TheVariants.{Ok}
use Rattle.hart_memory.specs.Image.{SegmentView, ImageView, is_apart, IsPlaced, AreApart, AreSound}
use Rattle.rv_assembler.specs.Laying.{are_apart, overlaps, shut, laid}
use Rattle.rv_assembler.specs.Lines.{lines_of}
use Rattle.asm_forms.specs.Operations.{bytes_of}
use Rattle.hart_words.specs.InTurn.{◌>>=◌}
use Rattle.rv_assembler.specs.Source.{pass, Passed, Built, Refusal, Program, with_laying, nothing_passed, nothing_built, second_line, cut_segments, image_of, ended, of_lines, assembled}
use Rattle.rv_assembler.specs.declared.assembling.TheConstants.{MAX_SOURCE}
use Rattle.rv_assembler.specs.declared.stretch.Stretch.{Stretch}
use Rattle.rv_disasm.specs.Shown.{row_for}
use Rattle.rv_disasm.specs.Printing.{field_piece, row_pieces, line_pieces}
use Rattle.rv_disasm.specs.Fitting.{statement_fits}
use Rattle.rv_disasm.specs.Listing.{line_text, behind, lines_from, text_from, listed, listing, entry_text, org_text, segment_text, image_text, AreAllBytes}
use Rattle.rv_disasm.specs.declared.statement.Statement.{Statement}
use Rattle.rv_disasm.specs.declared.statement.Statement.TheVariants.{Entry, Org, Byte, Half, Word, Long, Short}
use Rattle.rv_disasm.proofs.Sentences.{statement_makes, pieces_of}
use Rattle.rv_disasm.proofs.TextLines.{AllReadable, lines_again}
use Rattle.rv_disasm.proofs.Fronts.{Puts, ArePuts, listed_puts}
use Rattle.rv_disasm.proofs.Passes.{AllFit, Places, run_second, built_by, lines_at, first_passes, second_passes}
use Rattle.rv_assembler.specs.Relation.{stretch_of}
use Rattle.rv_disasm.proofs.Running.{segments_statements, StandBeside, holds_small, comes, contents, adds}

-- ---- the text

abbrev after : List Statement → ℕ → ℕ
after [] p = p
after (s ∷ ss) p = after ss (behind s p)

text_on : (ss later : List Statement) (p : ℕ) → text_from p (ss ++ later) ≡ text_from p ss ++ text_from (after ss p) later
text_on [] later p = refl
text_on (s ∷ ss) later p =
    let line = line_text (line_pieces p s) in
    ap (λ t. line ++ t) (text_on ss later (behind s p))
    ∙ sym (append_assoc line (text_from (behind s p) ss) (text_from (after ss (behind s p)) later))

-- an `.org` line is the same at each place
org_anywhere : (p a : ℕ) → line_pieces p (Org a) ≡ line_pieces 0 (Org a)
unfolding row_for row_pieces field_piece
org_anywhere p a = refl

segments_text : (ss : List SegmentView) (p : ℕ) → text_from p (segments_statements ss) ≡ flat_map segment_text ss
unfolding segment_text listing
segments_text [] p = refl
segments_text (s ∷ ss) p =
    let a = s.address in
    let own = text_from a (listed 0 s.content) in
    let others = text_from (after (listed 0 s.content) a) (segments_statements ss) in
    ap (λ ps. line_text ps ++ text_from a (listed 0 s.content ++ segments_statements ss)) (org_anywhere p a)
    ∙ ap (λ t. org_text a ++ t) (text_on (listed 0 s.content) (segments_statements ss) a)
    ∙ sym (append_assoc (org_text a) own others)
    ∙ ap (λ t. (org_text a ++ own) ++ t) (segments_text ss (after (listed 0 s.content) a))

abbrev pub image_statements : ImageView → List Statement
image_statements image = Entry image.start ∷ segments_statements image.segments

pub image_text_is : (image : ImageView) → image_text image ≡ text_from 0 (image_statements image)
unfolding image_text
image_text_is image = ap (λ t. entry_text image.start ++ t) (sym (segments_text image.segments 0))

-- ---- each statement fits, at a place that is a word

fit_on : (ss later : List Statement) → AllFit ss → AllFit later → AllFit (ss ++ later)
fit_on [] later f g = g
fit_on (s ∷ ss) later f g = (f.0, fit_on ss later f.1 g)

puts_fit : (ss : List Statement) (bs : List ℕ) → ArePuts ss bs → AllFit ss
puts_fit [] bs a = tt
puts_fit (s ∷ ss) bs a = (a.2.fitting, puts_fit ss a.1 a.4)

segments_fit : (older : List Stretch) (ss : List SegmentView) → StandBeside older ss → AllFit (segments_statements ss)
unfolding statement_fits
segments_fit older [] h = tt
segments_fit older (s ∷ ss) h =
    let small = holds_small s.address (length s.content) h.2 in
    (lt-ltb s.address (2 ^ 32) (omega arith), fit_on (listed 0 s.content) (segments_statements ss) (puts_fit (listed 0 s.content) s.content (listed_puts 0 s.content h.0)) (segments_fit (older ++ stretch_of s ∷ []) ss h.5))

behind_puts : (s : Statement) (bs : List ℕ) (p : ℕ) → 0 < length bs → Puts s bs → behind s p ≡ p + length bs
behind_puts (Entry e) bs p h t = absurd (omega (arith, t.size))
behind_puts (Org a) bs p h t = absurd (omega (arith, t.size))
behind_puts (Byte b) bs p h t = ap (λ n. p + n) t.size
behind_puts (Half n) bs p h t = ap (λ n. p + n) t.size
behind_puts (Word w) bs p h t = ap (λ n. p + n) t.size
behind_puts (Long i) bs p h t = ap (λ n. p + n) t.size
behind_puts (Short c) bs p h t = ap (λ n. p + n) t.size

places_on : (ss : List Statement) (bs : List ℕ) (later : List Statement) (p : ℕ) → ArePuts ss bs → p + length bs < 2 ^ 32 → Places (p + length bs) later → Places p (ss ++ later)
places_on [] bs later p a h k = let none : p + length bs ≡ p = omega (arith, ap (λ (x : List ℕ). length x) a) in subst (λ (n : ℕ). Places n later) none k
places_on (s ∷ ss) bs later p a h k =
    let front = a.0 in
    let rest = a.1 in
    let some : 0 < length front = omega (arith, a.2.some, a.2.size) in
    let count : length bs ≡ length front + length rest = ap (λ (x : List ℕ). length x) a.3 ∙ length-append front rest in
    let there = behind_puts s front p some a.2 in
    let same : p + length bs ≡ behind s p + length rest = omega (arith, count, there) in
    (omega arith, places_on ss rest later (behind s p) a.4 (omega (arith, count, there)) (subst (λ (n : ℕ). Places n later) same k))

segments_places : (older : List Stretch) (ss : List SegmentView) (p : ℕ) → p < 2 ^ 32 → StandBeside older ss → Places p (segments_statements ss)
segments_places older [] p l h = l
segments_places older (s ∷ ss) p l h =
    let small = holds_small s.address (length s.content) h.2 in
    let rest = segments_places (older ++ stretch_of s ∷ []) ss (s.address + length s.content) small h.5 in
    (l, places_on (listed 0 s.content) s.content (segments_statements ss) s.address (listed_puts 0 s.content h.0) small rest)

readable : (p : ℕ) (ss : List Statement) → AllFit ss → Places p ss → AllReadable (lines_from p ss)
readable p [] f h = tt
readable p (s ∷ ss) f h =
    let m = statement_makes s p h.0 f.0 in
    ((pieces_of p s f.0 m.fit).readable, readable (behind s p) ss f.1 h.1)

-- ---- the image

cut_again : (ss : List SegmentView) → cut_segments (map stretch_of ss) (contents ss) ≡ ss
cut_again [] = refl
cut_again (s ∷ ss) =
    let a = s.address in
    ap (λ x. record { address = a; content = x } ∷ cut_segments (map stretch_of ss) (drop (length s.content) (s.content ++ contents ss))) (take-append_seam s.content (contents ss))
    ∙ ap (λ x. s ∷ cut_segments (map stretch_of ss) x) (drop-append_seam s.content (contents ss))
    ∙ ap (λ x. s ∷ x) (cut_again ss)

lines_of_image : (image : ImageView) → image.start < 2 ^ 32 → StandBeside [] image.segments → of_lines (lines_at 0 (image_statements image)) ≡ Ok (record { image = image; symbols = [] })
unfolding statement_fits laid bytes_of
lines_of_image image e h =
    let os = image_statements image in
    let ss = image.segments in
    let fit : AllFit os = (lt-ltb image.start (2 ^ 32) e, segments_fit [] ss h) in
    let places : Places 0 os = (lit< tt, segments_places [] ss 0 (lit< tt) h) in
    let c = comes ss 0 None [] h in
    let first = first_passes 1 0 os nothing_passed c.last fit refl places c.runs in
    let second = second_passes [] 1 0 os nothing_built fit refl places in
    let b = run_second os nothing_built in
    let t = adds [] ss (built_by (Entry image.start) nothing_built) h in
    let after_first : Result Passed Refusal → Result Program Refusal = λ r. r >>= λ s. pass (second_line s.symbols) (lines_at 0 os) 1 nothing_built >>= λ d. ended s d in
    let after_second : Result Built Refusal → Result Program Refusal = λ r. r >>= λ d. ended (with_laying [] c.last) d in
    ap after_first first
    ∙ ap after_second second
    ∙ cond-true c.last.entered (Ok (record { image = image_of c.last b; symbols = [] })) _ c.entered
    ∙ ap (λ x. Ok (record { image = record { start = x; segments = cut_segments (shut c.last.growing c.last.closed) b.bytes }; symbols = [] })) t.entry_is
    ∙ ap (λ x. Ok (record { image = record { start = image.start; segments = cut_segments x b.bytes }; symbols = [] })) c.stretches
    ∙ ap (λ x. Ok (record { image = record { start = image.start; segments = cut_segments (map stretch_of ss) x }; symbols = [] })) t.bytes_are
    ∙ ap (λ x. Ok (record { image = record { start = image.start; segments = x }; symbols = [] })) (cut_again ss)

pub image_again : (image : ImageView) → image.start < 2 ^ 32 → StandBeside [] image.segments → length (image_text image) ≤ MAX_SOURCE → assembled (image_text image) ≡ Ok (record { image = image; symbols = [] })
unfolding assembled statement_fits
image_again image e h l =
    let os = image_statements image in
    let fit : AllFit os = (lt-ltb image.start (2 ^ 32) e, segments_fit [] image.segments h) in
    let places : Places 0 os = (lit< tt, segments_places [] image.segments 0 (lit< tt) h) in
    cond-false (nat_lt MAX_SOURCE (length (image_text image))) _ _ (le-ltb MAX_SOURCE (length (image_text image)) l)
    ∙ ap (λ t. of_lines (lines_of t)) (image_text_is image)
    ∙ ap of_lines (lines_again (lines_from 0 os) (readable 0 os fit places))
    ∙ lines_of_image image e h

-- ---- the segments of an image stand so

apart_again : (s t : SegmentView) → is_apart s.address (length s.content) t ≡ true → are_apart (stretch_of t) (stretch_of s) ≡ true
apart_again s t h = grind (arith, nat_tests)

abbrev AllAlone : List Stretch → List SegmentView → Type 0
AllAlone older ss = All (λ s. overlaps (stretch_of s) older ≡ false) ss

pairs_head : (s : SegmentView) (ss : List SegmentView) → AllPairs AreApart (s ∷ ss) → All (AreApart s) ss
pairs_head s ss h = λ k d l. h 0 (suc k) d (omega arith) (omega arith)

pairs_tail : (s : SegmentView) (ss : List SegmentView) → AllPairs AreApart (s ∷ ss) → AllPairs AreApart ss
pairs_tail s ss h = λ i j d l m. h (suc i) (suc j) d (omega arith) (omega arith)

alone_on : (older : List Stretch) (s : SegmentView) (ss : List SegmentView) → AllAlone older ss → All (AreApart s) ss → AllAlone (older ++ stretch_of s ∷ []) ss
alone_on older s ss h a = λ k d l. (
    let t = slice_index_or ss k d in
    let apart = apart_again s t (a k d l) in
    list_any-append (λ o. not (are_apart (stretch_of t) o)) older (stretch_of s ∷ [])
    ∙ or_from (overlaps (stretch_of t) older) (not (are_apart (stretch_of t) (stretch_of s)) || false) (h k d l) (or_from (not (are_apart (stretch_of t) (stretch_of s))) false (ap not apart) refl))

stand : (older : List Stretch) (ss : List SegmentView) → length older + length ss ≤ 64 → All IsPlaced ss → AllPairs AreApart ss → AllAlone older ss → AreAllBytes ss → StandBeside older ss
stand older [] few p a h b = tt
stand older (s ∷ ss) few p a h b =
    let here = All-head IsPlaced s ss p in
    let alone = All-head (λ (t : SegmentView). overlaps (stretch_of t) older ≡ false) s ss h in
    let others = All-tail (λ (t : SegmentView). overlaps (stretch_of t) older ≡ false) s ss h in
    let count : length (older ++ stretch_of s ∷ []) ≡ length older + 1 = length-append older (stretch_of s ∷ []) in
    (b.0, here.0, here.1, alone, omega arith, stand (older ++ stretch_of s ∷ []) ss (omega (arith, count)) (All-tail IsPlaced s ss p) (pairs_tail s ss a) (alone_on older s ss others (pairs_head s ss a)) b.1)

pub stands : (segments : List SegmentView) → AreSound segments → AreAllBytes segments → StandBeside [] segments
stands segments h b = stand [] segments (omega (arith, h.few)) h.placed h.apart (λ k d l. refl) b

-- ---- one segment after another

at_index : (segments : List SegmentView) (i : ℕ) (s : SegmentView) → slice_get segments i ≡ Some s → drop i segments ≡ s ∷ drop (suc i) segments
at_index [] i s e = cc
at_index (x ∷ xs) zero s e = let same : x ≡ s = cc in ap (λ y. y ∷ xs) same
at_index (x ∷ xs) (suc i) s e = at_index xs i s e

-- the segment that a place and bytes were read from
pub record SegmentAt (segments : List SegmentView) (i base : ℕ) (bytes : List ℕ) : Type 0 where
  pub is : slice_get segments i ≡ Some (record { address = base; content = bytes })
  pub on : drop i segments ≡ record { address = base; content = bytes } ∷ drop (i + 1) segments

segment_by : (o : Option SegmentView) (base : ℕ) (bytes : List ℕ) → option_map (λ s. s.address) o ≡ Some base → option_map (λ s. s.content) o ≡ Some bytes → o ≡ Some (record { address = base; content = bytes })
segment_by None base bytes e f = cc
segment_by (Some s) base bytes e f =
    let a : s.address ≡ base = cc in
    let b : s.content ≡ bytes = cc in
    let x : List ℕ → Option SegmentView = λ t. Some (record { address = s.address; content = t }) in
    ap x b ∙ ap (λ n. Some (record { address = n; content = bytes })) a

pub segment_at : (segments : List SegmentView) (i base : ℕ) (bytes : List ℕ) → option_map (λ s. s.address) (slice_get segments i) ≡ Some base → option_map (λ s. s.content) (slice_get segments i) ≡ Some bytes → SegmentAt segments i base bytes
segment_at segments i base bytes e f =
    let is = segment_by (slice_get segments i) base bytes e f in
    let s : SegmentView = record { address = base; content = bytes } in
    let one : suc i ≡ i + 1 = omega arith in
    record { is = is; on = at_index segments i s is ∙ ap (λ n. s ∷ drop n segments) one }

placed_at : (segments : List SegmentView) (i : ℕ) (s : SegmentView) → All IsPlaced segments → slice_get segments i ≡ Some s → IsPlaced s
placed_at [] i s p e = cc
placed_at (x ∷ xs) zero s p e = let same : x ≡ s = cc in subst IsPlaced same (All-head IsPlaced x xs p)
placed_at (x ∷ xs) (suc i) s p e = placed_at xs i s (All-tail IsPlaced x xs p) e

-- a segment ends below 2 ^ 32
pub segment_small : (segments : List SegmentView) (i base : ℕ) (bytes : List ℕ) → AreSound segments → option_map (λ s. s.address) (slice_get segments i) ≡ Some base → option_map (λ s. s.content) (slice_get segments i) ≡ Some bytes → base + length bytes < 2 ^ 32
segment_small segments i base bytes h e f =
    let s = segment_at segments i base bytes e f in
    holds_small base (length bytes) (placed_at segments i (record { address = base; content = bytes }) h.placed s.is).1

-- the text with a segment's text, and with those of the segments behind it
pub segment_on : (segments : List SegmentView) (i base : ℕ) (bytes start org whole : List ℕ) → SegmentAt segments i base bytes → org ≡ start ++ org_text base → whole ≡ org ++ listing base bytes
    → whole ++ flat_map segment_text (drop (i + 1) segments) ≡ start ++ flat_map segment_text (drop i segments)
unfolding segment_text
segment_on segments i base bytes start org whole s e f =
    let rest = flat_map segment_text (drop (i + 1) segments) in
    let own = listing base bytes in
    ap (λ t. t ++ rest) (f ∙ ap (λ t. t ++ own) e ∙ append_assoc start (org_text base) own)
    ∙ append_assoc start (org_text base ++ own) rest
    ∙ sym (ap (λ ss. start ++ flat_map segment_text ss) s.on)

pub none_left : (segments : List SegmentView) (i : ℕ) → length segments ≤ i → drop i segments ≡ []
none_left [] zero h = refl
none_left [] (suc i) h = refl
none_left (x ∷ xs) zero h = absurd (omega arith)
none_left (x ∷ xs) (suc i) h = none_left xs i (omega arith)
