-- Where the bytes of a line come to stand.
use Rattle.std.proofs.Common.{◌≡◌, ℕ, ◌+◌, ◌-◌, ◌^◌, ◌<◌, ◌≤◌, List, [], ◌∷◌, ◌++◌, length, take, drop, get_or, Bool, true, false, Option, Some, None, Ok, refl, sym, ap, ◌∙◌, arith, subst, append_assoc, length-drop}
use Rattle.std.specs.Prelude.{◌||◌, not}
use Rattle.std.specs.List.{slice_get}
use Rattle.std.proofs.lemmas.List.{append-nil, length-take-le, get_or-append-add, get_or_append_left, get_or-take, get_or-drop}
use Rattle.std.proofs.lemmas.Bool.Decides.{nat_tests}
use Rattle.asm_text.proofs.Scanning.{drop_on}
use Rattle.hart_memory.specs.Place.{place, place_by, is_in_memory, is_in_rom, is_in_ram, holds}
use Rattle.hart_memory.specs.Image.{SegmentView}
use Rattle.rv_assembler.specs.Laying.{Laid, laid, shut, is_full, grown, overlaps, Ends}
use Rattle.rv_assembler.specs.Placing.{total}
use Rattle.rv_assembler.specs.Source.{cut_segments, moved}
use Rattle.rv_assembler.specs.Relation.{HasBytes, behind}
use Rattle.rv_assembler.specs.declared.stretch.Stretch.{Stretch}
use Rattle.asm_forms.specs.Operations.{taken}
use Rattle.asm_forms.specs.declared.extent.Extent.{Extent}
use Rattle.asm_forms.specs.declared.extent.Extent.TheVariants.{Org as OrgExtent, Entry as EntryExtent, Takes}
use Rattle.asm_forms.specs.declared.asm_why.AsmWhy.TheVariants.{BadOperands, OutsideMemory, Overlap, TooLarge}
use Rattle.rv_assembler.proofs.Keeping.{cond_ok, ok_is, not_true}

-- ---- the place

-- what the answer on so many bytes says
pub record Took (n : ℕ) (l after : Laid) : Type 0 where
  pub placed : holds (grown l.growing l.place n).base (grown l.growing l.place n).size ≡ true
  pub is : record { place = l.place + n; growing = Some (grown l.growing l.place n); closed = l.closed; entered = l.entered } ≡ after

pub took : (n : ℕ) (l after : Laid) → laid (Takes n) l ≡ Ok after → Took n l after
unfolding laid
took n l after e =
    let t = grown l.growing l.place n in
    let full = cond_ok (is_full l.growing l.closed) TooLarge _ after e in
    let outside = cond_ok (not (holds t.base t.size)) OutsideMemory _ after full.1 in
    let over = cond_ok (overlaps t l.closed) Overlap _ after outside.1 in
    record { placed = not_true _ outside.0; is = ok_is _ after over.1 }

pub jumped : (p : ℕ) (l after : Laid) → laid (OrgExtent p) l ≡ Ok after → record { place = p; growing = None; closed = shut l.growing l.closed; entered = l.entered } ≡ after
unfolding laid
jumped p l after e = ok_is _ after e

pub marked : (l after : Laid) → laid EntryExtent l ≡ Ok after → record { place = l.place; growing = l.growing; closed = l.closed; entered = true } ≡ after
unfolding laid
marked l after e = ok_is _ after (cond_ok l.entered BadOperands _ after e).1

pub laid_place : (e : Extent) (l after : Laid) → laid e l ≡ Ok after → after.place ≡ behind e l.place
laid_place (OrgExtent p) l after e = ap (λ (x : Laid). x.place) (sym (jumped p l after e))
laid_place EntryExtent l after e = ap (λ (x : Laid). x.place) (sym (marked l after e))
laid_place (Takes n) l after e = ap (λ (x : Laid). x.place) (sym (took n l after e).is)

pub ends_grown : (g : Option Stretch) (p n : ℕ) → Ends g p → (grown g p n).base + (grown g p n).size ≡ p + n
ends_grown None p n h = refl
ends_grown (Some s) p n h = omega (arith, h)

pub laid_ends : (e : Extent) (l after : Laid) → laid e l ≡ Ok after → Ends l.growing l.place → Ends after.growing after.place
laid_ends (OrgExtent p) l after e h = subst (λ (x : Laid). Ends x.growing x.place) (jumped p l after e) tt
laid_ends EntryExtent l after e h = subst (λ (x : Laid). Ends x.growing x.place) (marked l after e) h
laid_ends (Takes n) l after e h = subst (λ (x : Laid). Ends x.growing x.place) (took n l after e).is (ends_grown l.growing l.place n h)

pub in_by : (b c : Bool) (at : ℕ) → is_in_memory (place_by b c at) ≡ true → (b || c) ≡ true
in_by true c at e = refl
in_by false true at e = refl
in_by false false at e = cc

inside_small : (at width : ℕ) → (is_in_rom at width || is_in_ram at width) ≡ true → at + width < 2 ^ 32
inside_small at width h = grind (arith, nat_tests)

holds_small : (at width : ℕ) → holds at width ≡ true → at + width < 2 ^ 32
unfolding place
holds_small at width e = inside_small at width (in_by (is_in_rom at width) (is_in_ram at width) at e)

-- no place wraps
pub moved_behind : (e : Extent) (l after : Laid) → laid e l ≡ Ok after → Ends l.growing l.place → moved e l.place ≡ behind e l.place
moved_behind (OrgExtent p) l after e h = refl
moved_behind EntryExtent l after e h = refl
moved_behind (Takes n) l after e h =
    let small : (grown l.growing l.place n).base + (grown l.growing l.place n).size < 2 ^ 32 = holds_small _ _ (took n l after e).placed in
    let same = ends_grown l.growing l.place n h in
    omega (arith, small, same)

-- ---- the segments at the end

-- these segments become those at the end
abbrev pub Becomes : Option Stretch → List Stretch → List Stretch → Type 0
Becomes None c all = (rest : List Stretch) × (all ≡ c ++ rest)
Becomes (Some t) c all = (u : Stretch) × (rest : List Stretch) × (all ≡ c ++ u ∷ rest) × (u.base ≡ t.base) × (t.size ≤ u.size)

pub at_the_end : (g : Option Stretch) (c : List Stretch) → Becomes g c (shut g c)
at_the_end None c = ([], sym (append-nil c))
at_the_end (Some t) c = (t, [], refl, refl, omega arith)

after_shut : (g : Option Stretch) (c all : List Stretch) → Becomes None (shut g c) all → Becomes g c all
after_shut None c all h = h
after_shut (Some t) c all h = (t, h.0, h.1 ∙ append_assoc c (t ∷ []) h.0, refl, omega arith)

after_growth : (g : Option Stretch) (c : List Stretch) (p n : ℕ) (all : List Stretch) → Becomes (Some (grown g p n)) c all → Becomes g c all
after_growth None c p n all h = (h.0 ∷ h.1, h.2)
after_growth (Some s) c p n all h = (h.0, h.1, h.2, h.3, omega (arith, h.4))

pub becomes_before : (e : Extent) (l after : Laid) (all : List Stretch) → laid e l ≡ Ok after → Becomes after.growing after.closed all → Becomes l.growing l.closed all
becomes_before (OrgExtent p) l after all e h = after_shut l.growing l.closed all (subst (λ (x : Laid). Becomes x.growing x.closed all) (sym (jumped p l after e)) h)
becomes_before EntryExtent l after all e h = subst (λ (x : Laid). Becomes x.growing x.closed all) (sym (marked l after e)) h
becomes_before (Takes n) l after all e h = after_growth l.growing l.closed l.place n all (subst (λ (x : Laid). Becomes x.growing x.closed all) (sym (took n l after e).is) h)

-- ---- bytes in their segment

segment_at : (c : List Stretch) (u : Stretch) (rest : List Stretch) (bytes : List ℕ)
    → slice_get (cut_segments (c ++ u ∷ rest) bytes) (length c) ≡ Some (record { address = u.base; content = take u.size (drop (total c) bytes) })
segment_at [] u rest bytes = refl
segment_at (x ∷ xs) u rest bytes =
    segment_at xs u rest (drop x.size bytes)
    ∙ ap (λ (ys : List ℕ). Some (record { address = u.base; content = take u.size ys })) (drop_on bytes (total xs) x.size)

total_split : (c : List Stretch) (u : Stretch) (rest : List Stretch) → total (c ++ u ∷ rest) ≡ total c + (u.size + total rest)
total_split [] u rest = let e : u.size + total rest ≡ 0 + (u.size + total rest) = omega arith in e
total_split (x ∷ xs) u rest = let e : total (xs ++ u ∷ rest) ≡ total xs + (u.size + total rest) = total_split xs u rest in omega arith

-- how much has grown
before : Option Stretch → ℕ
before None = 0
before (Some s) = s.size

before_shut : (g : Option Stretch) (c : List Stretch) → total (shut g c) ≡ total c + before g
unfolding before
before_shut None c = omega arith
before_shut (Some s) c = let e : total (c ++ s ∷ []) ≡ total c + (s.size + 0) = total_split c s [] in omega arith

before_place : (g : Option Stretch) (p n : ℕ) → Ends g p → ((grown g p n).base + before g ≡ p) × ((grown g p n).size ≡ before g + n)
unfolding before
before_place None p n h = (omega arith, omega arith)
before_place (Some s) p n h = (h, refl)

byte_there : (new bytes more all : List ℕ) (k d i size : ℕ) → k < length new → all ≡ (bytes ++ new) ++ more → d + i ≡ length bytes + k → i < size → get_or (take size (drop d all)) i 0 ≡ get_or new k 0
byte_there new bytes more all k d i size h e s lt =
    get_or-take size (drop d all) i 0 lt
    ∙ get_or-drop d all i 0
    ∙ ap (λ j. get_or all j 0) s
    ∙ ap (λ (xs : List ℕ). get_or xs (length bytes + k) 0) (e ∙ append_assoc bytes new more)
    ∙ get_or-append-add bytes (new ++ more) k 0
    ∙ get_or_append_left new more 0 k h

grown_bytes : (g : Option Stretch) (c all : List Stretch) (p n : ℕ) (bytes new more whole : List ℕ) → Becomes (Some (grown g p n)) c all → Ends g p
    → length new ≡ n → total (shut g c) ≡ length bytes → whole ≡ (bytes ++ new) ++ more → total all ≡ length whole → HasBytes (cut_segments all whole) p new
grown_bytes g c all p n bytes new more whole h ends len kept is sum = λ k lt.
    let u = h.0 in
    let content = take u.size (drop (total c) whole) in
    let old = before_shut g c in
    let at = before_place g p n ends in
    let parts : total c + (u.size + total h.1) ≡ length whole = sym (total_split c u h.1) ∙ ap total (sym h.2) ∙ sum in
    let base : u.base ≡ (grown g p n).base = h.3 in
    let size : (grown g p n).size ≤ u.size = h.4 in
    let long : length content ≡ u.size = length-take-le u.size (drop (total c) whole) (omega (arith, length-drop (total c) whole)) in
    let index : p + k - u.base ≡ before g + k = omega (arith, at.0) in
    record {
      number = length c;
      segment = record { address = u.base; content = content };
      is = ap (λ (xs : List Stretch). slice_get (cut_segments xs whole) (length c)) h.2 ∙ segment_at c u h.1 whole;
      from = omega (arith, at.0);
      inside = omega (arith, at.0, at.1, long);
      byte = ap (λ i. get_or content i 0) index ∙ byte_there new bytes more whole k (total c) (before g + k) u.size lt is (omega (arith, old)) (omega (arith, at.1));
    }

no_bytes : (all : List SegmentView) (p : ℕ) (new : List ℕ) → length new ≡ 0 → HasBytes all p new
no_bytes all p new e = λ k lt. absurd (omega arith)

pub line_bytes : (e : Extent) (l after : Laid) (all : List Stretch) (bytes new more whole : List ℕ) → laid e l ≡ Ok after → Becomes after.growing after.closed all → Ends l.growing l.place
    → length new ≡ taken e → total (shut l.growing l.closed) ≡ length bytes → whole ≡ (bytes ++ new) ++ more → total all ≡ length whole → HasBytes (cut_segments all whole) l.place new
line_bytes (OrgExtent p) l after all bytes new more whole e h ends len kept is sum = no_bytes _ _ new len
line_bytes EntryExtent l after all bytes new more whole e h ends len kept is sum = no_bytes _ _ new len
line_bytes (Takes n) l after all bytes new more whole e h ends len kept is sum =
    grown_bytes l.growing l.closed all l.place n bytes new more whole (subst (λ (x : Laid). Becomes x.growing x.closed all) (sym (took n l after e).is) h) ends len kept is sum
