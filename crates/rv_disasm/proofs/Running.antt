-- What the statements of an image come to.
use Rattle.std.proofs.Common.{◌≡◌, ℕ, ◌+◌, ◌^◌, ◌<◌, ◌≤◌, List, [], ◌∷◌, ◌++◌, length, map, Option, Some, None, Bool, true, false, refl, sym, ap, ◌∙◌, arith, append_assoc}
use Rattle.std.specs.Prelude.{nat_le, ◌||◌, not}
use Rattle.std.proofs.lemmas.List.{append-nil, length-append}
use Rattle.std.proofs.lemmas.Bool.Decides.{nat_tests}
use Rattle.std.proofs.lemmas.Bool.{cond-false, lt-leb, or_parts, or_from}
use Rattle.std.specs.declared.result.Result.TheVariants.{Ok}
use Rattle.hart_memory.specs.Place.{place, place_by, is_in_rom, is_in_ram, is_in_memory, holds}
use Rattle.hart_memory.specs.Image.{SegmentView}
use Rattle.hart_memory.specs.Memory.{AreBytes}
use Rattle.hart_memory.specs.declared.image.TheConstants.{MAX_SEGMENTS}
use Rattle.rv_assembler.specs.Laying.{Laid, laid, grow, shut, are_apart, overlaps}
use Rattle.asm_forms.specs.Operations.{bytes_of}
use Rattle.hart_words.specs.InTurn.{◌>>=◌}
use Rattle.rv_assembler.specs.Source.{Built, entry_by}
use Rattle.rv_assembler.specs.Relation.{stretch_of}
use Rattle.rv_assembler.specs.declared.stretch.Stretch.{Stretch}
use Rattle.asm_forms.specs.declared.extent.Extent.TheVariants.{Takes}
use Rattle.rv_disasm.specs.Listing.{listed}
use Rattle.rv_disasm.specs.declared.statement.Statement.{Statement}
use Rattle.rv_disasm.specs.declared.statement.Statement.TheVariants.{Entry, Org, Byte, Half, Word, Long, Short}
use Rattle.rv_disasm.proofs.Sentences.{extent_for, operation_for}
use Rattle.rv_disasm.proofs.Fronts.{Puts, ArePuts, listed_puts}
use Rattle.rv_disasm.proofs.Passes.{run_first, run_second, built_by}

abbrev pub segments_statements : List SegmentView → List Statement
segments_statements [] = []
segments_statements (s ∷ ss) = Org s.address ∷ (listed 0 s.content ++ segments_statements ss)

-- segments that may stand beside these, one after another
abbrev pub StandBeside : List Stretch → List SegmentView → Type 0
StandBeside older [] = Unit {0}
StandBeside older (s ∷ ss) =
    AreBytes s.content
    × (0 < length s.content)
    × (holds s.address (length s.content) ≡ true)
    × (overlaps (stretch_of s) older ≡ false)
    × (length older < 64)
    × StandBeside (older ++ stretch_of s ∷ []) ss

-- ---- numbers

in_either : (rom ram : Bool) (at : ℕ) → is_in_memory (place_by rom ram at) ≡ (rom || ram)
in_either true ram at = refl
in_either false true at = refl
in_either false false at = refl

holds_is : (at n : ℕ) → holds at n ≡ (is_in_rom at n || is_in_ram at n)
unfolding place
holds_is at n = in_either (is_in_rom at n) (is_in_ram at n) at

part_inside : (base n m : ℕ) → (is_in_rom base n || is_in_ram base n) ≡ true → m ≤ n → (is_in_rom base m || is_in_ram base m) ≡ true
part_inside base n m h k = grind (arith, nat_tests)

pub holds_part : (base n m : ℕ) → holds base n ≡ true → m ≤ n → holds base m ≡ true
holds_part base n m h k = holds_is base m ∙ part_inside base n m (sym (holds_is base n) ∙ h) k

end_small : (base n : ℕ) → (is_in_rom base n || is_in_ram base n) ≡ true → base + n < 2 ^ 32
end_small base n h = grind (arith, nat_tests)

pub holds_small : (base n : ℕ) → holds base n ≡ true → base + n < 2 ^ 32
holds_small base n h = end_small base n (sym (holds_is base n) ∙ h)

apart_part : (base n m : ℕ) (s : Stretch) → are_apart (record { base = base; size = n }) s ≡ true → m ≤ n → are_apart (record { base = base; size = m }) s ≡ true
apart_part base n m s h k = grind (arith, nat_tests)

not_not : (b : Bool) → not b ≡ false → b ≡ true
not_not true e = refl
not_not false e = cc

overlaps_part : (base n m : ℕ) (ss : List Stretch) → overlaps (record { base = base; size = n }) ss ≡ false → m ≤ n → overlaps (record { base = base; size = m }) ss ≡ false
overlaps_part base n m [] h k = refl
overlaps_part base n m (s ∷ ss) h k =
    let t = or_parts (not (are_apart (record { base = base; size = n }) s)) (overlaps (record { base = base; size = n }) ss) h in
    let here = apart_part base n m s (not_not (are_apart (record { base = base; size = n }) s) t.0) k in
    or_from (not (are_apart (record { base = base; size = m }) s)) (overlaps (record { base = base; size = m }) ss) (ap not here) (overlaps_part base n m ss t.1 k)

-- ---- laying

abbrev pub between : ℕ → Option Stretch → List Stretch → Laid
between p g closed = record { place = p; growing = g; closed = closed; entered = true }

grows : (t : Stretch) (p : ℕ) (l : Laid) → holds t.base t.size ≡ true → overlaps t l.closed ≡ false → grow t p l ≡ Ok (record { place = p; growing = Some t; closed = l.closed; entered = l.entered })
grows t p l h o = cond-false (not (holds t.base t.size)) _ _ (ap not h) ∙ cond-false (overlaps t l.closed) _ _ o

step_first : (base n : ℕ) (closed : List Stretch) → holds base n ≡ true → overlaps (record { base = base; size = n }) closed ≡ false → length closed < 64
    → laid (Takes n) (between base None closed) ≡ Ok (between (base + n) (Some (record { base = base; size = n })) closed)
unfolding laid
step_first base n closed h o few =
    cond-false (nat_le MAX_SEGMENTS (length closed)) _ _ (lt-leb MAX_SEGMENTS (length closed) few)
    ∙ grows (record { base = base; size = n }) (base + n) (between base None closed) h o

step_within : (base k n : ℕ) (closed : List Stretch) → holds base (k + n) ≡ true → overlaps (record { base = base; size = k + n }) closed ≡ false
    → laid (Takes n) (between (base + k) (Some (record { base = base; size = k })) closed) ≡ Ok (between (base + (k + n)) (Some (record { base = base; size = k + n })) closed)
unfolding laid
step_within base k n closed h o =
    grows (record { base = base; size = k + n }) (base + k + n) (between (base + k) (Some (record { base = base; size = k })) closed) h o
    ∙ ap (λ p. Ok (between p (Some (record { base = base; size = k + n })) closed)) (let e : base + k + n ≡ base + (k + n) = omega arith in e)

extent_puts : (s : Statement) (bs : List ℕ) → 0 < length bs → Puts s bs → extent_for s ≡ Takes (length bs)
extent_puts (Entry e) bs h t = absurd (omega (arith, t.size))
extent_puts (Org p) bs h t = absurd (omega (arith, t.size))
extent_puts (Byte b) bs h t = ap Takes t.size
extent_puts (Half n) bs h t = ap Takes t.size
extent_puts (Word w) bs h t = ap Takes t.size
extent_puts (Long i) bs h t = ap Takes t.size
extent_puts (Short c) bs h t = ap Takes t.size

-- statements that go on with a segment, and others after them
run_within : (ss : List Statement) (rest : List ℕ) (later : List Statement) (base k n : ℕ) (closed : List Stretch)
    → ArePuts ss rest → holds base n ≡ true → overlaps (record { base = base; size = n }) closed ≡ false → k + length rest ≤ n
    → run_first (ss ++ later) (between (base + k) (Some (record { base = base; size = k })) closed) ≡ run_first later (between (base + (k + length rest)) (Some (record { base = base; size = k + length rest })) closed)
run_within [] rest later base k n closed a h o l =
    let none : k ≡ k + length rest = omega (arith, ap (λ (x : List ℕ). length x) a) in
    ap (λ x. run_first later (between (base + x) (Some (record { base = base; size = x })) closed)) none
run_within (s ∷ ss) rest later base k n closed a h o l =
    let front = a.0 in
    let after = a.1 in
    let m = length front in
    let some : 0 < m = omega (arith, a.2.some, a.2.size) in
    let count : length rest ≡ m + length after = ap (λ (x : List ℕ). length x) a.3 ∙ length-append front after in
    let now = between (base + k) (Some (record { base = base; size = k })) closed in
    let inside = holds_part base n (k + m) h (omega (arith, count)) in
    let alone = overlaps_part base n (k + m) closed o (omega (arith, count)) in
    let sum : k + m + length after ≡ k + length rest = omega (arith, count) in
    ap (λ x. laid x now >>= run_first (ss ++ later)) (extent_puts s front some a.2)
    ∙ ap (λ r. r >>= run_first (ss ++ later)) (step_within base k m closed inside alone)
    ∙ run_within ss after later base (k + m) n closed a.4 h o (omega (arith, count))
    ∙ ap (λ x. run_first later (between (base + x) (Some (record { base = base; size = x })) closed)) sum

run_segment : (ss : List Statement) (bytes : List ℕ) (later : List Statement) (base : ℕ) (closed : List Stretch)
    → ArePuts ss bytes → 0 < length bytes → holds base (length bytes) ≡ true → overlaps (record { base = base; size = length bytes }) closed ≡ false → length closed < 64
    → run_first (ss ++ later) (between base None closed) ≡ run_first later (between (base + length bytes) (Some (record { base = base; size = length bytes })) closed)
run_segment [] bytes later base closed a some h o few = let none : length bytes ≡ 0 = ap (λ (x : List ℕ). length x) a in absurd (omega arith)
run_segment (s ∷ ss) bytes later base closed a some h o few =
    let front = a.0 in
    let after = a.1 in
    let m = length front in
    let one : 0 < m = omega (arith, a.2.some, a.2.size) in
    let count : length bytes ≡ m + length after = ap (λ (x : List ℕ). length x) a.3 ∙ length-append front after in
    let inside = holds_part base (length bytes) m h (omega (arith, count)) in
    let alone = overlaps_part base (length bytes) m closed o (omega (arith, count)) in
    ap (λ x. laid x (between base None closed) >>= run_first (ss ++ later)) (extent_puts s front one a.2)
    ∙ ap (λ r. r >>= run_first (ss ++ later)) (step_first base m closed inside alone few)
    ∙ run_within ss after later base m (length bytes) closed a.4 h o (omega (arith, count))
    ∙ ap (λ x. run_first later (between (base + x) (Some (record { base = base; size = x })) closed)) (sym count)

-- what all segments come to
pub record Comes (ss : List SegmentView) (l : Laid) : Type 0 where
  pub last : Laid
  pub runs : run_first (segments_statements ss) l ≡ Ok last
  pub entered : last.entered ≡ true
  pub stretches : shut last.growing last.closed ≡ shut l.growing l.closed ++ map stretch_of ss

pub comes : (ss : List SegmentView) (p : ℕ) (g : Option Stretch) (closed : List Stretch) → StandBeside (shut g closed) ss → Comes ss (between p g closed)
unfolding laid
comes [] p g closed h = record { last = between p g closed; runs = refl; entered = refl; stretches = sym (append-nil (shut g closed)) }
comes (s ∷ ss) p g closed h =
    let older = shut g closed in
    let puts = listed_puts 0 s.content h.0 in
    let here = run_segment (listed 0 s.content) s.content (segments_statements ss) s.address older puts h.1 h.2 h.3 h.4 in
    let rest = comes ss (s.address + length s.content) (Some (stretch_of s)) older h.5 in
    record {
      last = rest.last;
      runs = here ∙ rest.runs;
      entered = rest.entered;
      stretches = rest.stretches ∙ append_assoc older (stretch_of s ∷ []) (map stretch_of ss);
    }

-- ---- building

abbrev pub contents : List SegmentView → List ℕ
contents [] = []
contents (s ∷ ss) = s.content ++ contents ss

pub record Adds (ss : List Statement) (b : Built) (bytes : List ℕ) : Type 0 where
  pub bytes_are : (run_second ss b).bytes ≡ b.bytes ++ bytes
  pub entry_is : (run_second ss b).entry ≡ b.entry

entry_kept : (s : Statement) (bs : List ℕ) (e : ℕ) → 0 < length bs → Puts s bs → entry_by (operation_for s) e ≡ e
entry_kept (Entry n) bs e h t = absurd (omega (arith, t.size))
entry_kept (Org p) bs e h t = refl
entry_kept (Byte b) bs e h t = refl
entry_kept (Half n) bs e h t = refl
entry_kept (Word w) bs e h t = refl
entry_kept (Long i) bs e h t = refl
entry_kept (Short c) bs e h t = refl

adds_listing : (ss : List Statement) (bytes : List ℕ) (later : List Statement) (b : Built) (more : List ℕ) → ArePuts ss bytes → ((d : Built) → Adds later d more) → Adds (ss ++ later) b (bytes ++ more)
adds_listing [] bytes later b more a f = let t = f b in record { bytes_are = t.bytes_are ∙ ap (λ x. b.bytes ++ (x ++ more)) (sym a); entry_is = t.entry_is }
adds_listing (s ∷ ss) bytes later b more a f =
    let front = a.0 in
    let after = a.1 in
    let some : 0 < length front = omega (arith, a.2.some, a.2.size) in
    let t = adds_listing ss after later (built_by s b) more a.4 f in
    record {
      bytes_are =
          t.bytes_are
          ∙ ap (λ x. (b.bytes ++ x) ++ (after ++ more)) a.2.bytes
          ∙ append_assoc b.bytes front (after ++ more)
          ∙ ap (λ x. b.bytes ++ x) (sym (append_assoc front after more))
          ∙ ap (λ x. b.bytes ++ (x ++ more)) (sym a.3);
      entry_is = t.entry_is ∙ entry_kept s front b.entry some a.2;
    }

pub adds : (older : List Stretch) (ss : List SegmentView) (b : Built) → StandBeside older ss → Adds (segments_statements ss) b (contents ss)
unfolding bytes_of
adds older [] b h = record { bytes_are = sym (append-nil b.bytes); entry_is = refl }
adds older (s ∷ ss) b h =
    let puts = listed_puts 0 s.content h.0 in
    let t = adds_listing (listed 0 s.content) s.content (segments_statements ss) (built_by (Org s.address) b) (contents ss) puts (λ d. adds (older ++ stretch_of s ∷ []) ss d h.5) in
    record { bytes_are = t.bytes_are ∙ ap (λ x. x ++ (s.content ++ contents ss)) (append-nil b.bytes); entry_is = t.entry_is }
