-- A program that is of a source is the one that the source gives.
use Rattle.std.proofs.Common.{◌≡◌, ◌≢◌, ℕ, zero, suc, ◌+◌, ◌<◌, ◌≤◌, List, [], ◌∷◌, ◌++◌, length, map, get_or, Bool, true, false, cond, Option, Some, None, Result, Ok, Err, refl, sym, ap, ◌∙◌, arith, subst, append_assoc, length-append, All, AllPairs}
use Rattle.std.specs.Prelude.{◌||◌, ◌&&◌, not, nat_lt, eqb, option_to_list}
use Rattle.std.proofs.lemmas.List.{append-nil}
use Rattle.std.proofs.lemmas.Bool.Decides.{nat_tests}
use lib.Pointwise.{pointwise}
use Rattle.hart_memory.specs.Place.{place, place_by, is_in_memory, is_in_rom, is_in_ram, holds}
use Rattle.hart_memory.specs.Image.{SegmentView, ImageView, IsPlaced, AreApart}
use Rattle.asm_forms.specs.Operations.{made, operation_fits, extent_of}
use Rattle.asm_forms.specs.Statements.{Task, Reading, reading}
use Rattle.asm_forms.specs.declared.kind.Kind.{Kind}
use Rattle.asm_forms.specs.declared.kind.Kind.TheVariants.{Org, Entry, Byte, Half, Zero, Short, Pair}
use Rattle.asm_forms.specs.declared.operation.Operation.{Operation}
use Rattle.asm_forms.specs.declared.extent.Extent.{Extent}
use Rattle.asm_forms.specs.declared.extent.Extent.TheVariants.{Org as OrgExtent, Entry as EntryExtent, Takes}
use Rattle.asm_forms.specs.declared.asm_why.AsmWhy.{AsmWhy}
use Rattle.asm_forms.specs.declared.asm_why.AsmWhy.TheVariants.{BadOperands, OutOfReach, OutsideMemory, Overlap, TooLarge, NoEntry}
use Rattle.asm_forms.proofs.Fitting.{reading_fits, Positive, positive}
use Rattle.rv_assembler.specs.Lines.{lines_of}
use Rattle.rv_assembler.specs.Symbols.{Symbol, address_of, defined_by, with_label}
use Rattle.rv_assembler.specs.Laying.{Laid, laid, shut, is_full, grown, grow, are_apart, overlaps, Ends}
use Rattle.rv_assembler.specs.Placing.{Follows, AllFollow}
use Rattle.hart_words.specs.InTurn.{◌>>=◌}
use Rattle.rv_assembler.specs.Source.{Refusal, refuse, at_line, pass, Passed, nothing_passed, laid_by, with_laying, first_read, first_line, Built, nothing_built, resolved, reached, with_operation, second_by, task_of, second_line, Program, image_of, ended, of_lines, assembled}
use Rattle.rv_assembler.specs.Relation.{IsLabelled, IsDone, extent_by, AreLines, label_in, labels_in, entry_kind, entry_in, entries, extents, stretches, filled, stretch_of, IsSource}
use Rattle.rv_assembler.specs.declared.stretch.Stretch.{Stretch}
use Rattle.rv_assembler.specs.declared.assembling.TheConstants.{MAX_SOURCE}
use Rattle.rv_assembler.proofs.Adding.{sized, sized_more}
use Rattle.rv_assembler.proofs.Keeping.{size_grown}
use Rattle.rv_assembler.proofs.Shapes.{HasSome, expected, first_filled, take_shape, line_shape, line_some, count, line_counted}
use Rattle.rv_assembler.proofs.Located.{in_by}
use Rattle.rv_assembler.proofs.Told.{same_text, AreOnce, place_behind, ends_behind, same_behind, source_told}
use Rattle.rv_assembler.proofs.OneChoice.{some_is, cons_is, line_task, one_choice}

-- ---- results

bind_is : {A B E : Type 0} (x : Result A E) (f : A → Result B E) (a : A) (r : Result B E) → x ≡ Ok a → f a ≡ r → (x >>= f) ≡ r
bind_is x f a r e g = ap (λ y. y >>= f) e ∙ g

passes_by : {A : Type 0} (b : Bool) (x y : A) → b ≡ false → cond b x y ≡ y
passes_by false x y e = refl
passes_by true x y e = cc

taken_by : {A : Type 0} (b : Bool) (x y : A) → b ≡ true → cond b x y ≡ x
taken_by true x y e = refl
taken_by false x y e = cc

is_false : (b : Bool) → (b ≡ true → ⊥) → b ≡ false
is_false true h = absurd (h refl)
is_false false h = refl

-- ---- labels

pairs_rest : (R : List ℕ → List ℕ → Type 0) (x : List ℕ) (xs : List (List ℕ)) → AllPairs R (x ∷ xs) → AllPairs R xs
pairs_rest R x xs h = λ i j d lt inside. h (suc i) (suc j) d (omega arith) (omega arith)

name_there : (ss : List Symbol) (x : Symbol) (more : List Symbol) (d : List ℕ) → get_or (map (λ (s : Symbol). s.name) (ss ++ x ∷ more)) (length ss) d ≡ x.name
name_there [] x more d = refl
name_there (s ∷ ss) x more d = name_there ss x more d

inside_names : (ss : List Symbol) (x : Symbol) (more : List Symbol) → length ss < length (map (λ (s : Symbol). s.name) (ss ++ x ∷ more))
inside_names [] x more = omega arith
inside_names (s ∷ ss) x more = let e = inside_names ss x more in omega (arith, e)

both_ways : (a b : Bool) → (a && b) ≡ true → (a ≡ true) × (b ≡ true)
both_ways true b e = (refl, e)
both_ways false b e = cc

numbers_same : (a b : ℕ) → eqb a b ≡ true → a ≡ b
numbers_same a b e = grind (arith, nat_tests)

texts_same : (s t : List ℕ) → pointwise eqb s t ≡ true → s ≡ t
texts_same [] [] e = refl
texts_same [] (c ∷ cs) e = cc
texts_same (b ∷ bs) [] e = cc
texts_same (b ∷ bs) (c ∷ cs) e =
    let parts = both_ways (eqb b c) (pointwise eqb bs cs) e in
    ap (λ x. x ∷ bs) (numbers_same b c parts.0) ∙ ap (λ xs. c ∷ xs) (texts_same bs cs parts.1)

-- what stands behind is not found before
not_before : (ss : List Symbol) (x : Symbol) (more : List Symbol) → AreOnce (ss ++ x ∷ more) → address_of ss x.name ≡ None
not_before [] x more h = refl
not_before (s ∷ ss) x more h =
    let other : pointwise eqb x.name s.name ≡ false = is_false (pointwise eqb x.name s.name) (λ e.
    h 0 (suc (length ss)) x.name (omega arith) (let i = inside_names ss x more in omega (arith, i)) (sym (texts_same x.name s.name e) ∙ sym (name_there ss x more x.name))) in
    passes_by (pointwise eqb x.name s.name) (Some s.address) (address_of ss x.name) other ∙ not_before ss x more (pairs_rest (λ t u. t ≢ u) s.name (map (λ (y : Symbol). y.name) (ss ++ x ∷ more)) h)

found_first : (ss : List Symbol) (x : Symbol) (more : List Symbol) → address_of ss x.name ≡ None → address_of (ss ++ x ∷ more) x.name ≡ Some x.address
found_first [] x more e = taken_by (pointwise eqb x.name x.name) (Some x.address) (address_of more x.name) (same_text x.name)
found_first (s ∷ ss) x more e = found_by (pointwise eqb x.name s.name) s.address (address_of ss x.name) (address_of (ss ++ x ∷ more) x.name) x.address e (found_first ss x more)
  where
    found_by : (b : Bool) (a : ℕ) (r t : Option ℕ) (n : ℕ) → cond b (Some a) r ≡ None → (r ≡ None → t ≡ Some n) → cond b (Some a) t ≡ Some n
    found_by true a r t n e f = cc
    found_by false a r t n e f = f e

-- a label is taken, and the symbols are as far as before
record Labelled (symbols ss : List Symbol) (label : Option (List ℕ)) (place : ℕ) (rest : List (List ℕ)) : Type 0 where
  after : List Symbol
  later : List Symbol
  passes : with_label label place ss ≡ Ok after
  defines : symbols ≡ after ++ later
  names : map (λ (s : Symbol). s.name) later ≡ rest

label_at : (symbols ss : List Symbol) (x : Symbol) (xs : List Symbol) (t : List ℕ) (place : ℕ) (rest : List (List ℕ)) → AreOnce symbols → symbols ≡ ss ++ x ∷ xs → x.name ≡ t → map (λ (s : Symbol). s.name) xs ≡ rest → address_of symbols t ≡ Some place
    → Labelled symbols ss (Some t) place rest
label_at symbols ss x xs t place rest once is named names here =
    let none : address_of ss x.name ≡ None = not_before ss x xs (subst AreOnce is once) in
    let found : address_of symbols x.name ≡ Some x.address = ap (λ ys. address_of ys x.name) is ∙ found_first ss x xs none in
    let at : x.address ≡ place = some_is x.address place (sym found ∙ ap (λ u. address_of symbols u) named ∙ here) in
    let one : ◌≡◌ {A = Symbol} (record { name = t; address = place }) x = ap (λ (u : List ℕ). record { name = u; address = place }) (sym named) ∙ ap (λ (a : ℕ). record { name = x.name; address = a }) (sym at) in
    record {
      after = ss ++ x ∷ [];
      later = xs;
      passes = ap (λ f. defined_by f t place ss) (ap (λ u. address_of ss u) (sym named) ∙ none) ∙ ap (λ (y : Symbol). Ok (ss ++ y ∷ [])) one;
      defines = is ∙ sym (append_assoc ss (x ∷ []) xs);
      names = names;
    }

label_step : (label : Option (List ℕ)) (symbols ss later : List Symbol) (place : ℕ) (rest : List (List ℕ)) → AreOnce symbols → symbols ≡ ss ++ later → map (λ (s : Symbol). s.name) later ≡ option_to_list label ++ rest → IsLabelled symbols place label
    → Labelled symbols ss label place rest
label_step None symbols ss later place rest once is names here = record { after = ss; later = later; passes = refl; defines = is; names = names }
label_step (Some t) symbols ss [] place rest once is names here = cc
label_step (Some t) symbols ss (x ∷ xs) place rest once is names here =
    let parts = cons_is x.name t (map (λ (s : Symbol). s.name) xs) rest names in
    label_at symbols ss x xs t place rest once is parts.0 parts.1 here

-- ---- segments

in_place : (b c : Bool) (at : ℕ) → (b || c) ≡ true → is_in_memory (place_by b c at) ≡ true
in_place true c at e = refl
in_place false true at e = refl
in_place false false at e = cc

front_in : (at n m : ℕ) → n ≤ m → (is_in_rom at m || is_in_ram at m) ≡ true → (is_in_rom at n || is_in_ram at n) ≡ true
front_in at n m le e = grind (arith, nat_tests)

-- what a memory holds it holds in part
holds_front : (at n m : ℕ) → n ≤ m → holds at m ≡ true → holds at n ≡ true
unfolding place
holds_front at n m le e = in_place (is_in_rom at n) (is_in_ram at n) at (front_in at n m le (in_by (is_in_rom at m) (is_in_ram at m) at e))

both_false : (a b : Bool) → (a || b) ≡ false → (a ≡ false) × (b ≡ false)
both_false true b e = cc
both_false false b e = (refl, e)

or_false : (a b : Bool) → a ≡ false → b ≡ false → (a || b) ≡ false
or_false false b e f = f
or_false true b e f = cc

apart_front : (t u s : Stretch) → t.base ≡ u.base → t.size ≤ u.size → not (are_apart u s) ≡ false → not (are_apart t s) ≡ false
apart_front t u s e le h = grind (arith, nat_tests)

over_front : (t u : Stretch) (ss : List Stretch) → t.base ≡ u.base → t.size ≤ u.size → overlaps u ss ≡ false → overlaps t ss ≡ false
over_front t u [] e le h = refl
over_front t u (s ∷ ss) e le h =
    let parts = both_false (not (are_apart u s)) (overlaps u ss) h in
    or_false (not (are_apart t s)) (overlaps t ss) (apart_front t u s e le parts.0) (over_front t u ss e le parts.1)

follows_at : (before c rest : List Stretch) (u : Stretch) → AllFollow before (c ++ u ∷ rest) → Follows (before ++ c) u
follows_at before [] rest u h = subst (λ (b : List Stretch). Follows b u) (sym (append-nil before)) h.0
follows_at before (x ∷ xs) rest u h = subst (λ (b : List Stretch). Follows b u) (append_assoc before (x ∷ []) xs) (follows_at (before ++ x ∷ []) xs rest u h.1)

-- the first stretch, which has a byte already
record First (base size : ℕ) (es : List Extent) : Type 0 where
  stretch : Stretch
  rest : List Stretch
  is : filled (stretches base size es) ≡ stretch ∷ rest
  from : base ≡ stretch.base
  long : size ≤ stretch.size

first : (base size : ℕ) (es : List Extent) → 0 < size → First base size es
first base size [] h = record { stretch = record { base = base; size = size }; rest = []; is = first_filled (record { base = base; size = size }) [] h; from = refl; long = omega arith }
first base size (OrgExtent p ∷ es) h = record { stretch = record { base = base; size = size }; rest = filled (stretches p 0 es); is = first_filled (record { base = base; size = size }) (stretches p 0 es) h; from = refl; long = omega arith }
first base size (EntryExtent ∷ es) h = let f = first base size es h in record { stretch = f.stretch; rest = f.rest; is = f.is; from = f.from; long = f.long }
first base size (Takes n ∷ es) h = let f = first base (size + n) es (omega arith) in record { stretch = f.stretch; rest = f.rest; is = f.is; from = f.from; long = omega (arith, f.long) }

not_full : (g : Option Stretch) (c : List Stretch) → length c < 64 → is_full g c ≡ false
not_full None c h = grind (arith, nat_tests)
not_full (Some s) c h = refl

not_false : (b : Bool) → b ≡ true → not b ≡ false
not_false true e = refl
not_false false e = cc

takes : (n : ℕ) (l : Laid) (es : List Extent) (all : List Stretch) → 0 < n → expected l (Takes n ∷ es) ≡ all → AllFollow [] all → length all ≤ 64 → (after : Laid) × (laid (Takes n) l ≡ Ok after)
unfolding laid
takes n l es all some is follow few =
    let t = grown l.growing l.place n in
    let f = first t.base t.size es (size_grown l.growing l.place n some) in
    let whole : l.closed ++ f.stretch ∷ f.rest ≡ all = ap (λ (xs : List Stretch). l.closed ++ xs) (sym f.is) ∙ sym (take_shape l.growing l.closed l.place n es) ∙ is in
    let u : Follows l.closed f.stretch = follows_at [] l.closed f.rest f.stretch (subst (λ (xs : List Stretch). AllFollow [] xs) (sym whole) follow) in
    let room : length l.closed < 64 = (let e = ap length whole in omega (arith, few, e, length-append l.closed (f.stretch ∷ f.rest))) in
    let held : holds t.base t.size ≡ true = holds_front t.base t.size f.stretch.size f.long (ap (λ b. holds b f.stretch.size) f.from ∙ u.placed) in
    let free : overlaps t l.closed ≡ false = over_front t f.stretch l.closed f.from f.long u.apart in
    let after : Laid = record { place = l.place + n; growing = Some t; closed = l.closed; entered = l.entered } in (
      after,
      passes_by (is_full l.growing l.closed) (Err TooLarge) (grow t (l.place + n) l) (not_full l.growing l.closed room)
          ∙ passes_by (not (holds t.base t.size)) (Err OutsideMemory) (cond (overlaps t l.closed) (Err Overlap) (Ok after)) (not_false (holds t.base t.size) held)
          ∙ passes_by (overlaps t l.closed) (Err Overlap) (Ok after) free,
    )

jumps : (p : ℕ) (l : Laid) → (after : Laid) × (laid (OrgExtent p) l ≡ Ok after)
unfolding laid
jumps p l = (record { place = p; growing = None; closed = shut l.growing l.closed; entered = l.entered }, refl)

marks : (l : Laid) → l.entered ≡ false → (after : Laid) × (laid EntryExtent l ≡ Ok after)
unfolding laid
marks l e =
    let after : Laid = record { place = l.place; growing = l.growing; closed = l.closed; entered = true } in
    (after, passes_by l.entered (Err BadOperands) (Ok after) e)

lays : (e : Extent) (l : Laid) (es : List Extent) (all : List Stretch) → Positive e → (e ≡ EntryExtent → l.entered ≡ false) → expected l (e ∷ es) ≡ all → AllFollow [] all → length all ≤ 64 → (after : Laid) × (laid e l ≡ Ok after)
lays (OrgExtent p) l es all some once is follow few = jumps p l
lays EntryExtent l es all some once is follow few = marks l (once refl)
lays (Takes n) l es all some once is follow few = takes n l es all some is follow few

-- only an `.entry` takes nothing and stays
marks_entry : (k : Kind) (a : ℕ) → extent_of k a ≡ EntryExtent → entry_kind k ≡ 1
unfolding extent_of
marks_entry Entry a e = refl
marks_entry Org a e = cc
marks_entry Byte a e = cc
marks_entry Half a e = cc
marks_entry Zero a e = cc
marks_entry (Short row) a e = cc
marks_entry Pair a e = cc
marks_entry _ a e = cc

not_yet : (b : Bool) (n : ℕ) → count b + n ≤ 1 → n ≡ 1 → b ≡ false
not_yet true n h e = absurd (omega arith)
not_yet false n h e = refl

-- a line is laid where the segments that there will be are sound
line_lays : (k : Option Task) (l : Laid) (es : List Extent) (all : List Stretch) → ((x : Task) → k ≡ Some x → Positive (extent_of x.kind x.operands.amount)) → count l.entered + entry_in k ≤ 1 → expected l (extent_by k ∷ es) ≡ all → AllFollow [] all → length all ≤ 64
    → (after : Laid) × (laid_by k l ≡ Ok after)
line_lays None l es all some once is follow few = (l, refl)
line_lays (Some k) l es all some once is follow few =
    lays (extent_of k.kind k.operands.amount) l es all (some k refl) (λ e. not_yet l.entered (entry_kind k.kind) once (marks_entry k.kind k.operands.amount e)) is follow few

-- ---- the second pass over a line

fits_reached : (o : Operation) → operation_fits o ≡ true → reached o ≡ Ok o
fits_reached o e = taken_by (operation_fits o) (Ok o) (Err OutOfReach) e

line_builds : (p : Program) (place : ℕ) (k : Option Task) (b : Built) → IsDone p place k → b.place ≡ place → (c : Built) × (second_by p.symbols b k ≡ Ok c)
line_builds p place None b d at = (b, refl)
line_builds p place (Some k) b d at =
    let o = made k.kind k.operands d.0 in
    (with_operation k b o, bind_is (resolved p.symbols b.place k.operands.number) _ d.0 _ (ap (λ x. resolved p.symbols x k.operands.number) at ∙ d.1) (bind_is (reached o) _ o _ (fits_reached o d.2) refl))

-- ---- all lines

-- what the rest of a program asks of the first pass so far
record Ready (p : Program) (all : List Stretch) (s : Passed) (ls : List (List ℕ)) : Type 0 where
  lines : AreLines p s.laying.place ls
  later : List Symbol
  defines : p.symbols ≡ s.symbols ++ later
  names : map (λ (x : Symbol). x.name) later ≡ labels_in ls
  shape : expected s.laying (extents ls) ≡ all
  some : HasSome s.laying.growing
  ends : Ends s.laying.growing s.laying.place
  entry : count s.laying.entered + entries ls ≡ 1

-- both passes go over all lines
record Goes (p : Program) (s : Passed) (b : Built) (ls : List (List ℕ)) (n m : ℕ) : Type 0 where
  last : Passed
  built : Built
  first : pass first_line ls n s ≡ Ok last
  second : pass (second_line p.symbols) ls m b ≡ Ok built
  symbols : p.symbols ≡ last.symbols
  entered : last.laying.entered ≡ true

no_more : (p : Program) (ss later : List Symbol) → p.symbols ≡ ss ++ later → map (λ (x : Symbol). x.name) later ≡ [] → p.symbols ≡ ss
no_more p ss [] e h = e ∙ append-nil ss
no_more p ss (x ∷ xs) e h = cc

is_entered : (b : Bool) → count b + 0 ≡ 1 → b ≡ true
is_entered true e = refl
is_entered false e = cc

ends_here : (p : Program) (all : List Stretch) (s : Passed) (b : Built) (n m : ℕ) → Ready p all s [] → Goes p s b [] n m
unfolding pass
ends_here p all s b n m r = record { last = s; built = b; first = refl; second = refl; symbols = no_more p s.symbols r.later r.defines r.names; entered = is_entered s.laying.entered r.entry }

first_by : (line : List ℕ) (s : Passed) (r : Reading) (k : Option Task) (ss : List Symbol) (l : Laid) → reading line ≡ Ok r → with_label r.label s.laying.place s.symbols ≡ Ok ss → r.statement ≡ Ok k → laid_by k s.laying ≡ Ok l → first_line s line ≡ Ok (with_laying ss l)
unfolding first_line
first_by line s r k ss l reads labels asks lays =
    bind_is (reading line) (first_read s) r (Ok (with_laying ss l)) reads
    (bind_is (with_label r.label s.laying.place s.symbols) _ ss _ labels (bind_is r.statement _ k _ asks (bind_is (laid_by k s.laying) _ l _ lays refl)))

second_from : (symbols : List Symbol) (line : List ℕ) (b c : Built) → second_by symbols b (task_of (reading line)) ≡ Ok c → second_line symbols b line ≡ Ok c
unfolding second_line
second_from symbols line b c e = e

-- one line more
record OneMore (p : Program) (all : List Stretch) (s : Passed) (b : Built) (l : List ℕ) (ls : List (List ℕ)) : Type 0 where
  passed : Passed
  built : Built
  first : first_line s l ≡ Ok passed
  second : second_line p.symbols b l ≡ Ok built
  ready : Ready p all passed ls
  same : built.place ≡ passed.laying.place

one_more : (p : Program) (all : List Stretch) (s : Passed) (b : Built) (l : List ℕ) (ls : List (List ℕ)) → AreOnce p.symbols → AllFollow [] all → length all ≤ 64 → Ready p all s (l ∷ ls) → b.place ≡ s.laying.place → OneMore p all s b l ls
one_more p all s b l ls once follow few r at =
    let here = r.lines.0 in
    let task : here.task ≡ task_of (reading l) = line_task p s.laying.place l here in
    let positives : (x : Task) → here.task ≡ Some x → Positive (extent_of x.kind x.operands.amount) = λ x is.
    positive x.kind x.operands _ (reading_fits l here.read x here.reads (here.asks ∙ ap (λ y. Ok y) is)) in
    let shape : expected s.laying (extent_by here.task ∷ extents ls) ≡ all = ap (λ k. expected s.laying (extent_by k ∷ extents ls)) task ∙ r.shape in
    let one : entry_in here.task ≡ entry_in (task_of (reading l)) = ap entry_in task in
    let counts : count s.laying.entered + (entry_in (task_of (reading l)) + entries ls) ≡ 1 = r.entry in
    let label = label_step here.read.label p.symbols s.symbols r.later s.laying.place (labels_in ls) once r.defines (r.names ∙ ap (λ x. label_in x ++ labels_in ls) here.reads) here.label in
    let lay = line_lays here.task s.laying (extents ls) all positives (omega arith) shape follow few in
    let build = line_builds p s.laying.place here.task b here.done at in
    record {
      passed = with_laying label.after lay.0;
      built = build.0;
      first = first_by l s here.read here.task label.after lay.0 here.reads label.passes here.asks lay.1;
      second = second_from p.symbols l b build.0 (ap (λ k. second_by p.symbols b k) (sym task) ∙ build.1);
      ready = record {
        lines = subst (λ (n : ℕ). AreLines p n ls) (sym (place_behind here.task s.laying lay.0 lay.1)) r.lines.1;
        later = label.later;
        defines = label.defines;
        names = label.names;
        shape = sym (line_shape here.task s.laying lay.0 (extents ls) lay.1 r.some) ∙ shape;
        some = line_some here.task s.laying lay.0 lay.1 positives r.some;
        ends = ends_behind here.task s.laying lay.0 lay.1 r.ends;
        entry = (let c : count s.laying.entered + entry_in here.task ≡ count lay.0.entered = line_counted here.task s.laying lay.0 lay.1 in omega arith);
      };
      same = same_behind p.symbols here.task s.laying lay.0 b build.0 lay.1 build.1 r.ends at;
    }

at_ok : {A : Type 0} (n : ℕ) (x : Result A AsmWhy) (a : A) → x ≡ Ok a → at_line n x ≡ Ok a
at_ok n x a e = ap (λ y. at_line n y) e

goes : (p : Program) (all : List Stretch) (ls : List (List ℕ)) (n m : ℕ) (s : Passed) (b : Built) → AreOnce p.symbols → AllFollow [] all → length all ≤ 64 → Ready p all s ls → b.place ≡ s.laying.place → Goes p s b ls n m
unfolding pass
goes p all [] n m s b once follow few r at = ends_here p all s b n m r
goes p all (l ∷ ls) n m s b once follow few r at =
    let x = one_more p all s b l ls once follow few r at in
    let g = goes p all ls (n + 1) (m + 1) x.passed x.built once follow few x.ready x.same in
    record {
      last = g.last;
      built = g.built;
      first = bind_is (at_line n (first_line s l)) (pass first_line ls (n + 1)) x.passed (Ok g.last) (at_ok n (first_line s l) x.passed x.first) g.first;
      second = bind_is (at_line m (second_line p.symbols b l)) (pass (second_line p.symbols) ls (m + 1)) x.built (Ok g.built) (at_ok m (second_line p.symbols b l) x.built x.second) g.second;
      symbols = g.symbols;
      entered = g.entered;
    }

-- ---- sound segments follow one another

none_over : (before : List SegmentView) (s : SegmentView) → ((k : ℕ) (d : SegmentView) → k < length before → AreApart (get_or before k d) s) → overlaps (stretch_of s) (sized before) ≡ false
none_over [] s h = refl
none_over (x ∷ xs) s h =
    or_false (not (are_apart (stretch_of s) (stretch_of x))) (overlaps (stretch_of s) (sized xs)) (turned (h 0 x (omega arith))) (none_over xs s (λ k d lt. h (suc k) d (omega arith)))
  where
    turned : AreApart x s → not (are_apart (stretch_of s) (stretch_of x)) ≡ false
    turned e = grind (arith, nat_tests)

at_front : (before : List SegmentView) (s : SegmentView) (ss : List SegmentView) (k : ℕ) (d : SegmentView) → k < length before → get_or (before ++ s ∷ ss) k d ≡ get_or before k d
at_front [] s ss k d lt = absurd (omega arith)
at_front (x ∷ xs) s ss zero d lt = refl
at_front (x ∷ xs) s ss (suc k) d lt = at_front xs s ss k d (omega arith)

at_middle : (before : List SegmentView) (s : SegmentView) (ss : List SegmentView) (d : SegmentView) → get_or (before ++ s ∷ ss) (length before) d ≡ s
at_middle [] s ss d = refl
at_middle (x ∷ xs) s ss d = at_middle xs s ss d

middle_inside : (before : List SegmentView) (s : SegmentView) (ss : List SegmentView) → length before < length (before ++ s ∷ ss)
middle_inside before s ss = omega (arith, length-append before (s ∷ ss))

sound_follow : (before ss : List SegmentView) → All IsPlaced (before ++ ss) → AllPairs AreApart (before ++ ss) → AllFollow (sized before) (sized ss)
sound_follow before [] h g = tt
sound_follow before (s ∷ ss) h g =
    let here : IsPlaced s = subst IsPlaced (at_middle before s ss s) (h (length before) s (middle_inside before s ss)) in
    let apart : (k : ℕ) (d : SegmentView) → k < length before → AreApart (get_or before k d) s = λ k d lt.
    subst (λ (x : SegmentView). AreApart x s) (at_front before s ss k d lt) (subst (λ (x : SegmentView). AreApart (get_or (before ++ s ∷ ss) k d) x) (at_middle before s ss d) (g k (length before) d lt (middle_inside before s ss))) in
    let more = append_assoc before (s ∷ []) ss in (
      record { some = here.0; placed = here.1; apart = none_over before s apart },
      subst (λ (b : List Stretch). AllFollow b (sized ss)) (sized_more before s) (sound_follow (before ++ s ∷ []) ss (subst (λ (xs : List SegmentView). All IsPlaced xs) (sym more) h) (subst (λ (xs : List SegmentView). AllPairs AreApart xs) (sym more) g)),
    )

-- ---- the program

same_length : (ss : List SegmentView) → length (sized ss) ≡ length ss
same_length [] = refl
same_length (s ∷ ss) = ap suc (same_length ss)

ends_so : (s : Passed) (b : Built) → s.laying.entered ≡ true → ended s b ≡ Ok (record { image = image_of s.laying b; symbols = s.symbols })
ends_so s b e = taken_by s.laying.entered (Ok (record { image = image_of s.laying b; symbols = s.symbols })) (refuse 0 NoEntry) e

short_test : (n : ℕ) → n ≤ MAX_SOURCE → nat_lt MAX_SOURCE n ≡ false
short_test n h = grind (arith, nat_tests)

lines_made : (source : List ℕ) (p : Program) → IsSource source p → (q : Program) × (of_lines (lines_of source) ≡ Ok q) × (p.symbols ≡ q.symbols)
lines_made source p h =
    let ls = lines_of source in
    let all = sized p.image.segments in
    let once : AreOnce p.symbols = subst (λ (ns : List (List ℕ)). AllPairs (λ t u. t ≢ u) ns) (sym h.names) h.once in
    let follow : AllFollow [] all = sound_follow [] p.image.segments h.sound.placed h.sound.apart in
    let few : length all ≤ 64 = omega (arith, h.sound.few, same_length p.image.segments) in
    let ready : Ready p all nothing_passed ls = record { lines = h.lines; later = p.symbols; defines = refl; names = h.names; shape = sym h.segments; some = tt; ends = tt; entry = (let e : 0 + entries ls ≡ 1 = omega (arith, h.entry) in e) } in
    let g = goes p all ls 1 1 nothing_passed nothing_built once follow few ready refl in (
      record { image = image_of g.last.laying g.built; symbols = g.last.symbols },
      bind_is (pass first_line ls 1 nothing_passed) _ g.last _ g.first
          (bind_is (pass (second_line g.last.symbols) ls 1 nothing_built) _ g.built _ (ap (λ ss. pass (second_line ss) ls 1 nothing_built) (sym g.symbols) ∙ g.second) (ends_so g.last g.built g.entered)),
      g.symbols,
    )

made_so : (source : List ℕ) (r : Result Program Refusal) → length source ≤ MAX_SOURCE → of_lines (lines_of source) ≡ r → assembled source ≡ r
unfolding assembled
made_so source r h e = passes_by (nat_lt MAX_SOURCE (length source)) (refuse 0 TooLarge) (of_lines (lines_of source)) (short_test (length source) h) ∙ e

-- a program that is of a source is the one that the source gives
pub source_made : (source : List ℕ) (p : Program) → IsSource source p → assembled source ≡ Ok p
source_made source p h =
    let x = lines_made source p h in
    let made = made_so source (Ok x.0) h.short x.1 in
    made ∙ ap (λ (q : Program). Ok q) (sym (one_choice source p x.0 x.2 h (source_told source x.0 made)))

-- what both passes give is of the source
pub passes_made : (source : List ℕ) (start : Passed) (c : Built) (s : Passed) (b : Built) (image : ImageView) → start ≡ nothing_passed → c ≡ nothing_built → length source ≤ MAX_SOURCE
    → pass first_line (lines_of source) 1 start ≡ Ok s → pass (second_line s.symbols) (lines_of source) 1 c ≡ Ok b → s.laying.entered ≡ true → image ≡ image_of s.laying b
    → IsSource source (record { image = image; symbols = s.symbols })
passes_made source start c s b image f g short one two entered is =
    let first : pass first_line (lines_of source) 1 nothing_passed ≡ Ok s = ap (λ (x : Passed). pass first_line (lines_of source) 1 x) (sym f) ∙ one in
    let second : pass (second_line s.symbols) (lines_of source) 1 nothing_built ≡ Ok b = ap (λ x. pass (second_line s.symbols) (lines_of source) 1 x) (sym g) ∙ two in
    let p : Program = record { image = image_of s.laying b; symbols = s.symbols } in
    let all : of_lines (lines_of source) ≡ Ok p = bind_is (pass first_line (lines_of source) 1 nothing_passed) _ s _ first (bind_is (pass (second_line s.symbols) (lines_of source) 1 nothing_built) _ b _ second (ends_so s b entered)) in
    subst (λ (i : ImageView). IsSource source (record { image = i; symbols = s.symbols })) (sym is) (source_told source p (made_so source (Ok p) short all))
