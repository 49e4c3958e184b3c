-- Programs of one source with the same symbols are the same.
use Rattle.std.proofs.Common.{◌≡◌, ℕ, zero, suc, ◌+◌, ◌-◌, ◌<◌, ◌≤◌, ◌⊎◌, inl, inr, List, [], ◌∷◌, length, map, get_or, Bool, true, false, Option, Some, None, Ok, refl, sym, ap, ◌∙◌, arith, subst, AllPairs}
use Rattle.std.specs.Prelude.{◌||◌, nat_le, nat_lt}
use Rattle.std.specs.List.{slice_get, slice_index}
use Rattle.std.proofs.lemmas.List.{same_lists}
use Rattle.std.proofs.lemmas.Option.{slice_get_within, get_or_from_slice_get}
use Rattle.std.proofs.lemmas.Grind.{get_or_default_zero}
use Rattle.std.proofs.lemmas.Bool.Decides.{nat_tests}
use Rattle.hart_memory.specs.Image.{SegmentView, AreApart}
use Rattle.asm_fields.specs.Operands.{Operands}
use Rattle.asm_forms.specs.Operations.{made, extent_of, taken, bytes_of}
use Rattle.asm_forms.specs.Statements.{Task, reading}
use Rattle.asm_forms.specs.declared.kind.Kind.{Kind}
use Rattle.asm_forms.specs.declared.kind.Kind.TheVariants.{Entry}
use Rattle.asm_forms.specs.declared.extent.Extent.{Extent}
use Rattle.asm_forms.specs.declared.extent.Extent.TheVariants.{Org as OrgExtent, Entry as EntryExtent, Takes}
use Rattle.asm_forms.proofs.Fitting.{bytes_taken}
use Rattle.rv_assembler.specs.Lines.{lines_of}
use Rattle.rv_assembler.specs.Source.{Program, resolved, task_in, task_of}
use Rattle.rv_assembler.specs.Relation.{HasByte, HasBytes, IsEntry, IsDone, IsLine, extent_by, behind, AreLines, entry_kind, entry_in, entries, extents, stretches, filled_by, filled, stretch_of, IsSource}
use Rattle.rv_assembler.specs.declared.stretch.Stretch.{Stretch}
use Rattle.rv_assembler.proofs.Keeping.{ok_is}

-- ---- parts of what is the same

pub some_is : {A : Type 0} (x y : A) → ◌≡◌ {A = Option A} (Some x) (Some y) → x ≡ y
some_is x y e = cc

pub cons_is : {A : Type 0} (x y : A) (xs ys : List A) → x ∷ xs ≡ y ∷ ys → (x ≡ y) × (xs ≡ ys)
cons_is x y xs ys e = (cc, cc)

-- ---- one line

pub line_task : (p : Program) (place : ℕ) (line : List ℕ) (h : IsLine p place line) → h.task ≡ task_of (reading line)
line_task p place line h = ap task_in (sym h.asks) ∙ ap task_of (sym h.reads)

-- both programs have the same byte there
abbrev pub Agree : Program → Program → ℕ → Type 0
Agree p q a = (v : ℕ) × HasByte p.image.segments a v × HasByte q.image.segments a v

agree_at : (p q : Program) (place : ℕ) (bytes : List ℕ) → HasBytes p.image.segments place bytes → HasBytes q.image.segments place bytes → (a : ℕ) → place ≤ a → a < place + length bytes → Agree p q a
agree_at p q place bytes h g a low high =
    let k = a - place in
    let inside : k < length bytes = omega arith in
    let is : place + k ≡ a = omega arith in
    (slice_index bytes k, subst (λ (b : ℕ). HasByte p.image.segments b (slice_index bytes k)) is (h k inside), subst (λ (b : ℕ). HasByte q.image.segments b (slice_index bytes k)) is (g k inside))

same_numbers : (p q : Program) (place : ℕ) (k : Task) → p.symbols ≡ q.symbols → (n m : ℕ) → resolved p.symbols place k.operands.number ≡ Ok n → resolved q.symbols place k.operands.number ≡ Ok m → n ≡ m
same_numbers p q place k same n m e f = ok_is n m (sym e ∙ ap (λ ss. resolved ss place k.operands.number) same ∙ f)

line_agrees : (p q : Program) (place : ℕ) (k : Option Task) → p.symbols ≡ q.symbols → IsDone p place k → IsDone q place k → (a : ℕ) → place ≤ a → a < place + taken (extent_by k) → Agree p q a
line_agrees p q place None same d e a low high = absurd (omega arith)
line_agrees p q place (Some k) same d e a low high =
    let o = made k.kind k.operands d.0 in
    let n : e.0 ≡ d.0 = sym (same_numbers p q place k same d.0 e.0 d.1 e.1) in
    let long : length (bytes_of o) ≡ taken (extent_of k.kind k.operands.amount) = bytes_taken k.kind k.operands d.0 in
    agree_at p q place (bytes_of o) d.3 (subst (λ (m : ℕ). HasBytes q.image.segments place (bytes_of (made k.kind k.operands m))) n e.3) a low (omega arith)

-- ---- the entry

kind_start : (k : Kind) (o : Operands) (n s t : ℕ) → IsEntry s (made k o n) → IsEntry t (made k o n) → (s ≡ t) ⊎ (entry_kind k ≡ 0)
unfolding made
kind_start Entry o n s t h g = inl (h ∙ sym g)
kind_start _ o n s t h g = inr refl

line_start : (p q : Program) (place : ℕ) (k : Option Task) → p.symbols ≡ q.symbols → IsDone p place k → IsDone q place k → (p.image.start ≡ q.image.start) ⊎ (entry_in k ≡ 0)
line_start p q place None same d e = inr refl
line_start p q place (Some k) same d e =
    let n : e.0 ≡ d.0 = sym (same_numbers p q place k same d.0 e.0 d.1 e.1) in
    kind_start k.kind k.operands d.0 p.image.start q.image.start d.4 (subst (λ (m : ℕ). IsEntry q.image.start (made k.kind k.operands m)) n e.4)

-- what the rest of the lines begins with
rest_of : (p : Program) (place : ℕ) (l : List ℕ) (ls : List (List ℕ)) (h : AreLines p place (l ∷ ls)) → AreLines p (behind (extent_by (task_of (reading l))) place) ls
rest_of p place l ls h = subst (λ (k : Option Task). AreLines p (behind (extent_by k) place) ls) (line_task p place l h.0) h.1

done_of : (p : Program) (place : ℕ) (l : List ℕ) (h : IsLine p place l) → IsDone p place (task_of (reading l))
done_of p place l h = subst (λ (k : Option Task). IsDone p place k) (line_task p place l h) h.done

same_start : (p q : Program) (ls : List (List ℕ)) (place : ℕ) → p.symbols ≡ q.symbols → AreLines p place ls → AreLines q place ls → 0 < entries ls → p.image.start ≡ q.image.start
same_start p q [] place same h g some = absurd (omega arith)
same_start p q (l ∷ ls) place same h g some =
    by_line (line_start p q place (task_of (reading l)) same (done_of p place l h.0) (done_of q place l g.0))
    (λ none. same_start p q ls (behind (extent_by (task_of (reading l))) place) same (rest_of p place l ls h) (rest_of q place l ls g) (let e : 0 < entry_in (task_of (reading l)) + entries ls = some in omega (arith, none)))
  where
    by_line : {A B : Type 0} → A ⊎ B → (B → A) → A
    by_line (inl a) f = a
    by_line (inr b) f = f b

-- ---- the bytes of all lines

abbrev pub Covered : Program → Program → ℕ → ℕ → Type 0
Covered p q base size = (a : ℕ) → base ≤ a → a < base + size → Agree p q a

abbrev pub AllCovered : Program → Program → List Stretch → Type 0
AllCovered p q [] = Unit {0}
AllCovered p q (s ∷ ss) = Covered p q s.base s.size × AllCovered p q ss

below_or : (a n : ℕ) → (a < n) ⊎ (n ≤ a)
below_or a n = by_test a n (nat_lt a n) refl
  where
    by_test : (a n : ℕ) (b : Bool) → nat_lt a n ≡ b → (a < n) ⊎ (n ≤ a)
    by_test a n true e = inl (grind (arith, nat_tests))
    by_test a n false e = inr (grind (arith, nat_tests))

covered_on : (p q : Program) (base size place n : ℕ) → base + size ≡ place → Covered p q base size → Covered p q place n → Covered p q base (size + n)
covered_on p q base size place n at h g = λ a low high. by_place a low high (below_or a place)
  where
    by_place : (a : ℕ) → base ≤ a → a < base + (size + n) → (a < place) ⊎ (place ≤ a) → Agree p q a
    by_place a low high (inl lt) = h a low (omega arith)
    by_place a low high (inr le) = g a le (omega arith)

covers_on : (p q : Program) (e : Extent) (es : List Extent) (base size place : ℕ) → base + size ≡ place → Covered p q base size → Covered p q place (taken e)
    → ((b m : ℕ) → b + m ≡ behind e place → Covered p q b m → AllCovered p q (stretches b m es)) → AllCovered p q (stretches base size (e ∷ es))
covers_on p q (OrgExtent t) es base size place at h g rest = (h, rest t 0 (omega arith) (λ a low high. absurd (omega arith)))
covers_on p q EntryExtent es base size place at h g rest = rest base size at h
covers_on p q (Takes n) es base size place at h g rest = rest base (size + n) (omega arith) (covered_on p q base size place n at h g)

all_covered : (p q : Program) (ls : List (List ℕ)) (base size place : ℕ) → p.symbols ≡ q.symbols → base + size ≡ place → Covered p q base size → AreLines p place ls → AreLines q place ls → AllCovered p q (stretches base size (extents ls))
all_covered p q [] base size place same at c h g = (c, tt)
all_covered p q (l ∷ ls) base size place same at c h g =
    covers_on p q (extent_by (task_of (reading l))) (extents ls) base size place at c
    (line_agrees p q place (task_of (reading l)) same (done_of p place l h.0) (done_of q place l g.0))
    (λ b m e d. all_covered p q ls b m (behind (extent_by (task_of (reading l))) place) same e d (rest_of p place l ls h) (rest_of q place l ls g))

filled_covered : (p q : Program) (ss : List Stretch) → AllCovered p q ss → AllCovered p q (filled ss)
filled_covered p q [] h = tt
filled_covered p q (s ∷ ss) h = by_test (nat_lt 0 s.size) s (filled ss) h.0 (filled_covered p q ss h.1)
  where
    by_test : (b : Bool) (s : Stretch) (ss : List Stretch) → Covered p q s.base s.size → AllCovered p q ss → AllCovered p q (filled_by b s ss)
    by_test true s ss c h = (c, h)
    by_test false s ss c h = h

covered_at : (p q : Program) (ps : List SegmentView) (i : ℕ) (s : SegmentView) → AllCovered p q (map stretch_of ps) → slice_get ps i ≡ Some s → Covered p q s.address (length s.content)
covered_at p q [] i s h e = cc
covered_at p q (x ∷ xs) zero s h e = subst (λ (y : SegmentView). Covered p q y.address (length y.content)) (some_is x s e) h.0
covered_at p q (x ∷ xs) (suc i) s h e = covered_at p q xs i s h.1 e

-- ---- each byte is one segment's

apart_by : (a s m t n : ℕ) → (nat_le (s + m) t || nat_le (t + n) s) ≡ true → s ≤ a → a < s + m → t ≤ a → a < t + n → ⊥
apart_by a s m t n e l h k g = grind (arith, nat_tests)

not_both : (ss : List SegmentView) (i j a : ℕ) (s t : SegmentView) → AllPairs AreApart ss → i < j → slice_get ss i ≡ Some s → slice_get ss j ≡ Some t → s.address ≤ a → a < s.address + length s.content → t.address ≤ a → a < t.address + length t.content → ⊥
not_both ss i j a s t h lt e f sl sh tl th =
    let apart : AreApart (get_or ss i s) (get_or ss j s) = h i j s lt (slice_get_within ss j t f) in
    let first : AreApart s (get_or ss j s) = subst (λ (x : SegmentView). AreApart x (get_or ss j s)) (get_or_from_slice_get ss i s s e) apart in
    let both : AreApart s t = subst (λ (x : SegmentView). AreApart s x) (get_or_from_slice_get ss j t s f) first in
    apart_by a s.address (length s.content) t.address (length t.content) both sl sh tl th

one_segment : (ss : List SegmentView) (i j a : ℕ) (s t : SegmentView) → AllPairs AreApart ss → slice_get ss i ≡ Some s → slice_get ss j ≡ Some t → s.address ≤ a → a < s.address + length s.content → t.address ≤ a → a < t.address + length t.content → t ≡ s
one_segment ss i j a s t h e f sl sh tl th = by_order (below_or i j) (below_or j i)
  where
    by_order : (i < j) ⊎ (j ≤ i) → (j < i) ⊎ (i ≤ j) → t ≡ s
    by_order (inl lt) _ = absurd (not_both ss i j a s t h lt e f sl sh tl th)
    by_order (inr le) (inl lt) = absurd (not_both ss j i a t s h lt f e tl th sl sh)
    by_order (inr le) (inr ge) = let same : j ≡ i = omega arith in some_is t s (sym f ∙ ap (λ k. slice_get ss k) same ∙ e)

byte_of : (ss : List SegmentView) (i k v : ℕ) (s : SegmentView) → AllPairs AreApart ss → slice_get ss i ≡ Some s → k < length s.content → HasByte ss (s.address + k) v → get_or s.content k 0 ≡ v
byte_of ss i k v s h e lt b =
    let one : b.segment ≡ s = one_segment ss i b.number (s.address + k) s b.segment h e b.is (omega arith) (omega arith) b.from b.inside in
    let there : get_or s.content (s.address + k - s.address) 0 ≡ v = subst (λ (x : SegmentView). get_or x.content (s.address + k - x.address) 0 ≡ v) one b.byte in
    let index : k ≡ s.address + k - s.address = omega arith in
    ap (λ j. get_or s.content j 0) index ∙ there

-- ---- the segments

same_content : (p q : Program) (i : ℕ) (s t : SegmentView) → AllPairs AreApart p.image.segments → AllPairs AreApart q.image.segments → slice_get p.image.segments i ≡ Some s → slice_get q.image.segments i ≡ Some t → stretch_of s ≡ stretch_of t
    → Covered p q s.address (length s.content) → s.content ≡ t.content
same_content p q i s t h g e f same c =
    let long : length s.content ≡ length t.content = ap (λ (x : Stretch). x.size) same in
    let at : s.address ≡ t.address = ap (λ (x : Stretch). x.base) same in
    same_lists s.content t.content long (λ k d lt.
    let x = c (s.address + k) (omega arith) (omega arith) in
    let one : get_or s.content k 0 ≡ x.0 = byte_of p.image.segments i k x.0 s h e lt x.1 in
    let two : get_or t.content k 0 ≡ x.0 = byte_of q.image.segments i k x.0 t g f (omega arith) (subst (λ (n : ℕ). HasByte q.image.segments (n + k) x.0) at x.2) in
    get_or_default_zero s.content k d lt ∙ one ∙ sym two ∙ sym (get_or_default_zero t.content k d (omega arith)))

segment_is : (s t : SegmentView) → s.address ≡ t.address → s.content ≡ t.content → s ≡ t
segment_is s t e f = ap (λ a. record { address = a; content = s.content }) e ∙ ap (λ (c : List ℕ). record { address = t.address; content = c }) f

same_segments : (ps qs : List SegmentView) → map stretch_of ps ≡ map stretch_of qs → ((i : ℕ) (s t : SegmentView) → slice_get ps i ≡ Some s → slice_get qs i ≡ Some t → stretch_of s ≡ stretch_of t → s.content ≡ t.content) → ps ≡ qs
same_segments [] [] e f = refl
same_segments [] (t ∷ ts) e f = cc
same_segments (s ∷ ss) [] e f = cc
same_segments (s ∷ ss) (t ∷ ts) e f =
    let parts = cons_is (stretch_of s) (stretch_of t) (map stretch_of ss) (map stretch_of ts) e in
    ap (λ x. x ∷ ss) (segment_is s t (ap (λ (x : Stretch). x.base) parts.0) (f 0 s t refl refl parts.0))
    ∙ ap (λ xs. t ∷ xs) (same_segments ss ts parts.1 (λ i x y g h. f (suc i) x y g h))

image_is : (p q : Program) → p.image.start ≡ q.image.start → p.image.segments ≡ q.image.segments → p.symbols ≡ q.symbols → p ≡ q
image_is p q e f g =
    ap (λ n. record { image = record { start = n; segments = p.image.segments }; symbols = p.symbols }) e
    ∙ ap (λ ss. record { image = record { start = q.image.start; segments = ss }; symbols = p.symbols }) f
    ∙ ap (λ ss. record { image = q.image; symbols = ss }) g

pub one_choice : (source : List ℕ) (p q : Program) → p.symbols ≡ q.symbols → IsSource source p → IsSource source q → p ≡ q
one_choice source p q same h g =
    let ls = lines_of source in
    let covered : AllCovered p q (map stretch_of p.image.segments) = subst (λ (ss : List Stretch). AllCovered p q ss) (sym h.segments)
    (filled_covered p q (stretches 0 0 (extents ls)) (all_covered p q ls 0 0 0 same (omega arith) (λ a low high. absurd (omega arith)) h.lines g.lines)) in
    image_is p q
    (same_start p q ls 0 same h.lines g.lines (omega (arith, h.entry)))
    (same_segments p.image.segments q.image.segments (h.segments ∙ sym g.segments)
    (λ i s t e f shape. same_content p q i s t h.sound.apart g.sound.apart e f shape (covered_at p q p.image.segments i s covered e)))
    same
