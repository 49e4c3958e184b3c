-- What both passes tell of each line.
use Rattle.std.proofs.Common.{◌≡◌, ◌≢◌, ℕ, zero, suc, ◌+◌, ◌<◌, ◌≤◌, get_or, AllPairs, List, [], ◌∷◌, ◌++◌, length, map, Bool, true, false, cond, Option, Some, None, Result, Ok, Err, refl, sym, ap, ◌∙◌, arith, subst, append_assoc}
use Rattle.std.specs.Prelude.{◌&&◌, eqb, nat_lt, option_to_list}
use Rattle.std.proofs.lemmas.List.{append-nil}
use Rattle.std.proofs.lemmas.Bool.Decides.{nat_tests}
use Rattle.std.proofs.lemmas.List.Quantifiers.{all_pairs_push}
use Rattle.hart_memory.specs.Image.{AreSound}
use Rattle.asm_text.specs.Names.{is_same_text}
use Rattle.asm_fields.specs.Operands.{Operands}
use Rattle.asm_forms.specs.Operations.{made, operation_fits, extent_of, bytes_of}
use Rattle.asm_forms.specs.Statements.{Task, Reading, reading}
use Rattle.rv_assembler.specs.Symbols.{Symbol, address_of, defined_by, with_label}
use Rattle.rv_assembler.specs.Laying.{Laid, laid, shut, Ends}
use Rattle.rv_assembler.specs.Placing.{total}
use Rattle.rv_assembler.specs.Lines.{lines_of}
use Rattle.rv_assembler.specs.Source.{Refusal, refuse, at_line, pass, Passed, nothing_passed, laid_by, first_read, first_line, Built, nothing_built, resolved, reached, moved, entry_by, with_operation, second_task, second_by, task_in, task_of, second_line, Program, cut_segments, of_lines, assembled}
use Rattle.rv_assembler.specs.Relation.{IsLabelled, IsEntry, IsDone, extent_by, behind, AreLines, label_in, labels_in, entry_in, entries, extents, stretches, filled, stretch_of, IsSource}
use Rattle.asm_forms.specs.declared.kind.Kind.{Kind}
use Rattle.asm_forms.specs.declared.kind.Kind.TheVariants.{Entry}
use Rattle.asm_forms.specs.declared.operation.Operation.{Operation}
use Rattle.rv_assembler.specs.declared.stretch.Stretch.{Stretch}
use Rattle.asm_forms.specs.declared.extent.Extent.{Extent}
use Rattle.asm_forms.specs.declared.extent.Extent.TheVariants.{Org as OrgExtent, Entry as EntryExtent, Takes}
use Rattle.asm_forms.specs.declared.asm_why.AsmWhy.{AsmWhy}
use Rattle.asm_forms.specs.declared.asm_why.AsmWhy.TheVariants.{BadOperands, OutOfReach, NoEntry, TooLarge}
use Rattle.rv_assembler.specs.declared.assembling.TheConstants.{MAX_SOURCE}
use Rattle.asm_forms.proofs.Fitting.{bytes_taken}
use Rattle.rv_assembler.proofs.Keeping.{bind_ok, at_line_ok, ok_is, cond_ok, Grows, Keeps, line_keeps, passes_keep, can_be_cut, nothing_kept}
use Rattle.rv_assembler.proofs.Adding.{cut_sound, cut_shape}
use Rattle.rv_assembler.proofs.Shapes.{HasSome, expected, line_shape, shape_at_end, count, line_counted}
use Rattle.rv_assembler.proofs.Located.{took, jumped, marked, laid_place, laid_ends, moved_behind, Becomes, at_the_end, becomes_before, line_bytes}

-- ---- symbols

same_number : (n : ℕ) → eqb n n ≡ true
same_number n = grind (arith, nat_tests)

both_true : (a b : Bool) → a ≡ true → b ≡ true → (a && b) ≡ true
both_true true b e f = f
both_true false b e f = cc

pub same_text : (t : List ℕ) → is_same_text t t ≡ true
same_text [] = refl
same_text (b ∷ bs) = both_true (eqb b b) (is_same_text bs bs) (same_number b) (same_text bs)

found_by : (b : Bool) (x : ℕ) (r s : Option ℕ) (a : ℕ) → (r ≡ Some a → s ≡ Some a) → cond b (Some x) r ≡ Some a → cond b (Some x) s ≡ Some a
found_by true x r s a f e = e
found_by false x r s a f e = f e

-- what is found is found among more symbols
address_more : (ss more : List Symbol) (t : List ℕ) (a : ℕ) → address_of ss t ≡ Some a → address_of (ss ++ more) t ≡ Some a
address_more [] more t a e = cc
address_more (s ∷ ss) more t a e = found_by (is_same_text t s.name) s.address (address_of ss t) (address_of (ss ++ more) t) a (address_more ss more t a) e

new_by : (b : Bool) (x : ℕ) (r s : Option ℕ) (a : ℕ) → (r ≡ None → s ≡ Some a) → cond b (Some x) r ≡ None → cond b (Some x) s ≡ Some a
new_by true x r s a f e = cc
new_by false x r s a f e = f e

taken_test : (b : Bool) (a : ℕ) → b ≡ true → cond b (Some a) None ≡ Some a
taken_test true a e = refl
taken_test false a e = cc

-- a label that was not there is found once it is added
address_new : (ss : List Symbol) (t : List ℕ) (a : ℕ) → address_of ss t ≡ None → address_of (ss ++ record { name = t; address = a } ∷ []) t ≡ Some a
address_new [] t a e = taken_test (is_same_text t t) a (same_text t)
address_new (s ∷ ss) t a e = new_by (is_same_text t s.name) s.address (address_of ss t) (address_of (ss ++ record { name = t; address = a } ∷ []) t) a (address_new ss t a) e

none_by : (b : Bool) (x : ℕ) (r : Option ℕ) → cond b (Some x) r ≡ None → (b ≡ false) × (r ≡ None)
none_by true x r e = cc
none_by false x r e = (refl, e)

-- a label that isn't found is none of the symbols'
unlike : (ss : List Symbol) (t : List ℕ) → address_of ss t ≡ None → (k : ℕ) (d : List ℕ) → k < length (map (λ (s : Symbol). s.name) ss) → get_or (map (λ (s : Symbol). s.name) ss) k d ≢ t
unlike [] t e k d lt = absurd (omega arith)
unlike (s ∷ ss) t e zero d lt = λ same.
    let found : is_same_text t s.name ≡ true = ap (λ u. is_same_text t u) same ∙ same_text t in
    let missed : is_same_text t s.name ≡ false = (none_by (is_same_text t s.name) s.address (address_of ss t) e).0 in
    true_or_false (is_same_text t s.name) found missed
  where
    true_or_false : (b : Bool) → b ≡ true → b ≡ false → ⊥
    true_or_false true e f = cc
    true_or_false false e f = cc
unlike (s ∷ ss) t e (suc k) d lt = unlike ss t (none_by (is_same_text t s.name) s.address (address_of ss t) e).1 k d (omega arith)

-- no name is there twice
abbrev pub AreOnce : List Symbol → Type 0
AreOnce ss = AllPairs (λ t u. t ≢ u) (map (λ (s : Symbol). s.name) ss)

pub map_name : (xs ys : List Symbol) → map (λ (s : Symbol). s.name) (xs ++ ys) ≡ map (λ (s : Symbol). s.name) xs ++ map (λ (s : Symbol). s.name) ys
map_name [] ys = refl
map_name (x ∷ xs) ys = ap (λ ns. x.name ∷ ns) (map_name xs ys)

once_more : (ss : List Symbol) (s : Symbol) → address_of ss s.name ≡ None → AreOnce ss → AreOnce (ss ++ s ∷ [])
once_more ss s e h =
    subst (λ (ns : List (List ℕ)). AllPairs (λ t u. t ≢ u) ns) (sym (map_name ss (s ∷ [])))
    (all_pairs_push (λ (t u : List ℕ). t ≢ u) (map (λ (x : Symbol). x.name) ss) s.name h (unlike ss s.name e))

-- what a label adds
record Defined (label : Option (List ℕ)) (place : ℕ) (ss tt' : List Symbol) : Type 0 where
  new : List Symbol
  is : tt' ≡ ss ++ new
  names : map (λ (s : Symbol). s.name) new ≡ option_to_list label
  here : IsLabelled tt' place label
  once : AreOnce ss → AreOnce tt'

defined_some : (found : Option ℕ) (t : List ℕ) (place : ℕ) (ss after : List Symbol) → address_of ss t ≡ found → defined_by found t place ss ≡ Ok after → Defined (Some t) place ss after
defined_some None t place ss after f e =
    let one : Symbol = record { name = t; address = place } in
    let is : ss ++ one ∷ [] ≡ after = ok_is _ after e in
    record { new = one ∷ []; is = sym is; names = refl; here = subst (λ (x : List Symbol). address_of x t ≡ Some place) is (address_new ss t place f); once = λ h. subst AreOnce is (once_more ss one f h) }
defined_some (Some a) t place ss after f e = cc

defined : (label : Option (List ℕ)) (place : ℕ) (ss after : List Symbol) → with_label label place ss ≡ Ok after → Defined label place ss after
defined None place ss after e = record { new = []; is = sym (ok_is ss after e) ∙ sym (append-nil ss); names = refl; here = tt; once = λ h. subst AreOnce (ok_is ss after e) h }
defined (Some t) place ss after e = defined_some (address_of ss t) t place ss after refl e

labelled_more : (label : Option (List ℕ)) (place : ℕ) (ss more : List Symbol) → IsLabelled ss place label → IsLabelled (ss ++ more) place label
labelled_more None place ss more h = tt
labelled_more (Some t) place ss more h = address_more ss more t place h

-- ---- the entry

entered_stays : (e : Extent) (l after : Laid) → laid e l ≡ Ok after → l.entered ≡ true → after.entered ≡ true
entered_stays (OrgExtent p) l after e h = ap (λ (x : Laid). x.entered) (sym (jumped p l after e)) ∙ h
entered_stays EntryExtent l after e h = ap (λ (x : Laid). x.entered) (sym (marked l after e))
entered_stays (Takes n) l after e h = ap (λ (x : Laid). x.entered) (sym (took n l after e).is) ∙ h

entry_refused : (l after : Laid) → laid EntryExtent l ≡ Ok after → l.entered ≡ true → ⊥
unfolding laid
entry_refused l after e h = let p = cond_ok l.entered BadOperands _ after e in let f : l.entered ≡ false = p.0 in cc

entry_stays : (k : Kind) (o : Operands) (n entry : ℕ) (l after : Laid) → laid (extent_of k o.amount) l ≡ Ok after → l.entered ≡ true → entry_by (made k o n) entry ≡ entry
unfolding made extent_of
entry_stays Entry o n entry l after e h = absurd (entry_refused l after e h)
entry_stays _ o n entry l after e h = refl

entry_named : (k : Kind) (o : Operands) (n entry start : ℕ) (l after : Laid) → laid (extent_of k o.amount) l ≡ Ok after → (after.entered ≡ true → start ≡ entry_by (made k o n) entry) → IsEntry start (made k o n)
unfolding made extent_of
entry_named Entry o n entry start l after e f = f (ap (λ (x : Laid). x.entered) (sym (marked l after e)))
entry_named _ o n entry start l after e f = tt

-- ---- one line

abbrev program_of : ℕ → List Stretch → List ℕ → List Symbol → Program
program_of start all whole symbols = record { image = record { start = start; segments = cut_segments all whole }; symbols = symbols }

record Between (l : Laid) (b : Built) : Type 0 where
  kept : Keeps l b.bytes
  ends : Ends l.growing l.place
  same : b.place ≡ l.place

-- what is told of a line once what follows it is told
record Tells (start : ℕ) (all : List Stretch) (whole : List ℕ) (symbols : List Symbol) (k : Option Task) (l after : Laid) (b : Built) : Type 0 where
  done : IsDone (program_of start all whole symbols) l.place k
  becomes : Becomes l.growing l.closed all
  more : List ℕ
  bytes : whole ≡ b.bytes ++ more
  entry : l.entered ≡ true → start ≡ b.entry

cond_by : (t : Bool) (o p : Operation) → cond t (Ok o) (Err OutOfReach) ≡ Ok p → (t ≡ true) × (o ≡ p)
cond_by true o p e = (refl, ok_is o p e)
cond_by false o p e = cc

-- the parts of the second pass over a line
record Second (symbols : List Symbol) (b c : Built) (k : Task) : Type 0 where
  number : ℕ
  known : resolved symbols b.place k.operands.number ≡ Ok number
  fits : operation_fits (made k.kind k.operands number) ≡ true
  is : with_operation k b (made k.kind k.operands number) ≡ c

second : (symbols : List Symbol) (b c : Built) (k : Task) → second_task symbols b k ≡ Ok c → Second symbols b c k
second symbols b c k e =
    let p = bind_ok (resolved symbols b.place k.operands.number) _ c e in
    let q = bind_ok (reached (made k.kind k.operands p.0)) _ c p.2 in
    let r = cond_by (operation_fits (made k.kind k.operands p.0)) (made k.kind k.operands p.0) q.0 q.1 in
    record { number = p.0; known = p.1; fits = r.0; is = ap (λ (o : Operation). with_operation k b o) r.1 ∙ ok_is _ c q.2 }

tells : (start : ℕ) (all : List Stretch) (whole more : List ℕ) (symbols : List Symbol) (k : Option Task) (l after : Laid) (b c : Built) → laid_by k l ≡ Ok after → second_by symbols b k ≡ Ok c → Between l b
    → Becomes after.growing after.closed all → whole ≡ c.bytes ++ more → total all ≡ length whole → (after.entered ≡ true → start ≡ c.entry) → Tells start all whole symbols k l after b
tells start all whole more symbols None l after b c e f h become is sum entry =
    let same : l ≡ after = ok_is l after e in
    let built : b ≡ c = ok_is b c f in
    record {
      done = tt;
      becomes = subst (λ (x : Laid). Becomes x.growing x.closed all) (sym same) become;
      more = more;
      bytes = subst (λ (x : Built). whole ≡ x.bytes ++ more) (sym built) is;
      entry = subst (λ (x : Laid). x.entered ≡ true → start ≡ b.entry) (sym same) (subst (λ (x : Built). after.entered ≡ true → start ≡ x.entry) (sym built) entry);
    }
tells start all whole more symbols (Some k) l after b c e f h become is sum entry =
    let s = second symbols b c k f in
    let o = made k.kind k.operands s.number in
    let all_bytes : whole ≡ (b.bytes ++ bytes_of o) ++ more = subst (λ (x : Built). whole ≡ x.bytes ++ more) (sym s.is) is in
    let names : after.entered ≡ true → start ≡ entry_by o b.entry = subst (λ (x : Built). after.entered ≡ true → start ≡ x.entry) (sym s.is) entry in
    record {
      done = (
        s.number,
        subst (λ (p : ℕ). resolved symbols p k.operands.number ≡ Ok s.number) h.same s.known,
        s.fits,
        line_bytes (extent_of k.kind k.operands.amount) l after all b.bytes (bytes_of o) more whole e become h.ends (bytes_taken k.kind k.operands s.number) h.kept.whole all_bytes sum,
        entry_named k.kind k.operands s.number b.entry start l after e names,
      );
      becomes = becomes_before (extent_of k.kind k.operands.amount) l after all e become;
      more = bytes_of o ++ more;
      bytes = all_bytes ∙ append_assoc b.bytes (bytes_of o) more;
      entry = λ g. names (entered_stays (extent_of k.kind k.operands.amount) l after e g) ∙ entry_stays k.kind k.operands s.number b.entry l after e g;
    }

pub place_behind : (k : Option Task) (l after : Laid) → laid_by k l ≡ Ok after → after.place ≡ behind (extent_by k) l.place
place_behind None l after e = ap (λ (x : Laid). x.place) (sym (ok_is l after e))
place_behind (Some k) l after e = laid_place (extent_of k.kind k.operands.amount) l after e

pub ends_behind : (k : Option Task) (l after : Laid) → laid_by k l ≡ Ok after → Ends l.growing l.place → Ends after.growing after.place
ends_behind None l after e h = subst (λ (x : Laid). Ends x.growing x.place) (ok_is l after e) h
ends_behind (Some k) l after e h = laid_ends (extent_of k.kind k.operands.amount) l after e h

pub same_behind : (symbols : List Symbol) (k : Option Task) (l after : Laid) (b c : Built) → laid_by k l ≡ Ok after → second_by symbols b k ≡ Ok c → Ends l.growing l.place → b.place ≡ l.place → c.place ≡ after.place
same_behind symbols None l after b c e f h s = ap (λ (x : Built). x.place) (sym (ok_is b c f)) ∙ s ∙ ap (λ (x : Laid). x.place) (ok_is l after e)
same_behind symbols (Some k) l after b c e f h s =
    let x = extent_of k.kind k.operands.amount in
    ap (λ (y : Built). y.place) (sym (second symbols b c k f).is) ∙ ap (moved x) s ∙ moved_behind x l after e h ∙ sym (laid_place x l after e)

-- the parts of the first pass over a line
record First (line : List ℕ) (s t : Passed) (symbols : List Symbol) (b c : Built) : Type 0 where
  read : Reading
  task : Option Task
  reads : reading line ≡ Ok read
  asks : read.statement ≡ Ok task
  label : with_label read.label s.laying.place s.symbols ≡ Ok t.symbols
  lays : laid_by task s.laying ≡ Ok t.laying
  builds : second_by symbols b task ≡ Ok c

first : (line : List ℕ) (s t : Passed) (symbols : List Symbol) (b c : Built) → first_line s line ≡ Ok t → second_line symbols b line ≡ Ok c → First line s t symbols b c
unfolding first_line second_line
first line s t symbols b c e f =
    let p = bind_ok (reading line) (first_read s) t e in
    let q = bind_ok (with_label p.0.label s.laying.place s.symbols) _ t p.2 in
    let r = bind_ok p.0.statement _ t q.2 in
    let u = bind_ok (laid_by r.0 s.laying) _ t r.2 in
    let done = ok_is _ t u.2 in
    record {
      read = p.0;
      task = r.0;
      reads = p.1;
      asks = r.1;
      label = q.1 ∙ ap (λ (x : Passed). Ok x.symbols) done;
      lays = u.1 ∙ ap (λ (x : Passed). Ok x.laying) done;
      builds = ap (λ (x : Result (Option Task) AsmWhy). second_by symbols b (task_in x)) (sym r.1) ∙ ap (λ (x : Result Reading AsmWhy). second_by symbols b (task_of x)) (sym p.1) ∙ f;
    }

first_task : (line : List ℕ) (r : Reading) (k : Option Task) → reading line ≡ Ok r → r.statement ≡ Ok k → k ≡ task_of (reading line)
first_task line r k e f = ap (λ (x : Result (Option Task) AsmWhy). task_in x) (sym f) ∙ ap (λ (x : Result Reading AsmWhy). task_of x) (sym e)

-- ---- all lines

record Told (start : ℕ) (all : List Stretch) (whole : List ℕ) (symbols : List Symbol) (entered : Bool) (s : Passed) (b : Built) (ls : List (List ℕ)) : Type 0 where
  lines : AreLines (program_of start all whole symbols) s.laying.place ls
  becomes : Becomes s.laying.growing s.laying.closed all
  more : List ℕ
  bytes : whole ≡ b.bytes ++ more
  later : List Symbol
  defines : symbols ≡ s.symbols ++ later
  names : map (λ (x : Symbol). x.name) later ≡ labels_in ls
  entry : s.laying.entered ≡ true → start ≡ b.entry
  once : AreOnce s.symbols → AreOnce symbols
  counts : count s.laying.entered + entries ls ≡ count entered
  shape : expected s.laying (extents ls) ≡ all

abbrev all_of : Passed → List Stretch
all_of t = shut t.laying.growing t.laying.closed

grows_some : (g : Option Stretch) (c : List Stretch) → Grows g c → HasSome g
grows_some None c h = tt
grows_some (Some s) c h = h.1.some

shape_before : (l : List ℕ) (ls : List (List ℕ)) (k : Option Task) (s after : Laid) (all : List Stretch) → k ≡ task_of (reading l) → laid_by k s ≡ Ok after → HasSome s.growing → expected after (extents ls) ≡ all → expected s (extents (l ∷ ls)) ≡ all
shape_before l ls k s after all is lays some rest = ap (λ x. expected s (extent_by x ∷ extents ls)) (sym is) ∙ line_shape k s after (extents ls) lays some ∙ rest

nothing_left : (t : Passed) (c : Built) → HasSome t.laying.growing → Told c.entry (all_of t) c.bytes t.symbols t.laying.entered t c []
nothing_left t c h = record { lines = tt; becomes = at_the_end t.laying.growing t.laying.closed; more = []; bytes = sym (append-nil c.bytes); later = []; defines = sym (append-nil t.symbols); names = refl; entry = λ g. refl; once = λ o. o; counts = (let e : count t.laying.entered + 0 ≡ count t.laying.entered = omega arith in e); shape = shape_at_end t.laying.growing t.laying.closed t.laying.place h }

tell : (ls : List (List ℕ)) (n m : ℕ) (s t : Passed) (b c : Built) → pass first_line ls n s ≡ Ok t → pass (second_line t.symbols) ls m b ≡ Ok c → Between s.laying b → Told c.entry (all_of t) c.bytes t.symbols t.laying.entered s b ls
unfolding pass
tell [] n m s t b c e f h =
    subst (λ (x : Passed). Told c.entry (all_of t) c.bytes t.symbols t.laying.entered x b []) (sym (ok_is s t e))
    (subst (λ (y : Built). Told c.entry (all_of t) c.bytes t.symbols t.laying.entered t y []) (sym (ok_is b c f)) (nothing_left t c (subst (λ (x : Passed). HasSome x.laying.growing) (ok_is s t e) (grows_some s.laying.growing s.laying.closed h.kept.grows))))
tell (l ∷ ls) n m s t b c e f h =
    let p = bind_ok (at_line n (first_line s l)) (pass first_line ls (n + 1)) t e in
    let q = bind_ok (at_line m (second_line t.symbols b l)) (pass (second_line t.symbols) ls (m + 1)) c f in
    let one = at_line_ok n (first_line s l) p.0 p.1 in
    let two = at_line_ok m (second_line t.symbols b l) q.0 q.1 in
    let x = first l s p.0 t.symbols b q.0 one two in
    let kept = line_keeps l s p.0 t.symbols b q.0 one two h.kept in
    let next : Between p.0.laying q.0 = record { kept = kept; ends = ends_behind x.task s.laying p.0.laying x.lays h.ends; same = same_behind t.symbols x.task s.laying p.0.laying b q.0 x.lays x.builds h.ends h.same } in
    let rest = tell ls (n + 1) (m + 1) p.0 t q.0 c p.2 q.2 next in
    let sum = (can_be_cut t.laying c.bytes (passes_keep ls (n + 1) (m + 1) p.0 t t.symbols q.0 c p.2 q.2 kept)).whole in
    let line = tells c.entry (all_of t) c.bytes rest.more t.symbols x.task s.laying p.0.laying b q.0 x.lays x.builds h rest.becomes rest.bytes sum rest.entry in
    let label = defined x.read.label s.laying.place s.symbols p.0.symbols x.label in
    record {
      lines = (
        record {
          read = x.read;
          task = x.task;
          reads = x.reads;
          asks = x.asks;
          label = subst (λ (y : List Symbol). IsLabelled y s.laying.place x.read.label) (sym rest.defines) (labelled_more x.read.label s.laying.place p.0.symbols rest.later label.here);
          done = line.done;
        },
        subst (λ (y : ℕ). AreLines (program_of c.entry (all_of t) c.bytes t.symbols) y ls) (place_behind x.task s.laying p.0.laying x.lays) rest.lines,
      );
      becomes = line.becomes;
      more = line.more;
      bytes = line.bytes;
      later = label.new ++ rest.later;
      defines = rest.defines ∙ ap (λ (y : List Symbol). y ++ rest.later) label.is ∙ append_assoc s.symbols label.new rest.later;
      names = map_name label.new rest.later ∙ ap (λ (y : List (List ℕ)). y ++ map (λ (z : Symbol). z.name) rest.later) label.names ∙ ap (λ (y : List (List ℕ)). option_to_list x.read.label ++ y) rest.names ∙ ap (λ (r : Result Reading AsmWhy). label_in r ++ labels_in ls) (sym x.reads);
      entry = line.entry;
      once = λ o. rest.once (label.once o);
      counts = (
          let here : count s.laying.entered + entry_in x.task ≡ count p.0.laying.entered = line_counted x.task s.laying p.0.laying x.lays in
          let same : entry_in x.task ≡ entry_in (task_of (reading l)) = ap entry_in (first_task l x.read x.task x.reads x.asks) in
          let after : count p.0.laying.entered + entries ls ≡ count t.laying.entered = rest.counts in
          omega arith
          );
      shape = shape_before l ls x.task s.laying p.0.laying (all_of t) (first_task l x.read x.task x.reads x.asks) x.lays (grows_some s.laying.growing s.laying.closed h.kept.grows) rest.shape;
    }

-- ---- the program

ended_ok : (b : Bool) (x p : Program) → cond b (Ok x) (refuse 0 NoEntry) ≡ Ok p → (b ≡ true) × (x ≡ p)
ended_ok true x p e = (refl, ok_is x p e)
ended_ok false x p e = cc

nothing_once : AreOnce []
nothing_once = λ i j d lt inside. absurd (omega arith)

-- all that is told of lines
record Whole (ls : List (List ℕ)) (p : Program) : Type 0 where
  lines : AreLines p 0 ls
  names : map (λ (s : Symbol). s.name) p.symbols ≡ labels_in ls
  once : AllPairs (λ t u. t ≢ u) (labels_in ls)
  entry : entries ls ≡ 1
  segments : map stretch_of p.image.segments ≡ filled (stretches 0 0 (extents ls))
  sound : AreSound p.image.segments

of_lines_told : (ls : List (List ℕ)) (p : Program) → of_lines ls ≡ Ok p → Whole ls p
of_lines_told ls p e =
    let a = bind_ok (pass first_line ls 1 nothing_passed) _ p e in
    let b = bind_ok (pass (second_line a.0.symbols) ls 1 nothing_built) _ p a.2 in
    let is = ended_ok a.0.laying.entered _ p b.2 in
    let told = tell ls 1 1 nothing_passed a.0 nothing_built b.0 a.1 b.1 (record { kept = nothing_kept; ends = tt; same = refl }) in
    let cut = can_be_cut a.0.laying b.0.bytes (passes_keep ls 1 1 nothing_passed a.0 a.0.symbols nothing_built b.0 a.1 b.1 nothing_kept) in
    let names : map (λ (s : Symbol). s.name) a.0.symbols ≡ labels_in ls = ap (λ (y : List Symbol). map (λ (s : Symbol). s.name) y) told.defines ∙ told.names in
    let counts : 0 + entries ls ≡ count a.0.laying.entered = told.counts in
    let entered : count a.0.laying.entered ≡ 1 = ap count is.0 in
    subst (λ (x : Program). Whole ls x) is.1
    (record {
      lines = told.lines;
      names = names;
      once = subst (λ (ns : List (List ℕ)). AllPairs (λ t u. t ≢ u) ns) names (told.once nothing_once);
      entry = (let e : entries ls ≡ 1 = omega arith in e);
      segments = cut_shape (all_of a.0) b.0.bytes cut.whole ∙ sym told.shape;
      sound = cut_sound (all_of a.0) b.0.bytes cut;
    })

short_enough : (n : ℕ) (r : Result Program Refusal) (p : Program) → cond (nat_lt MAX_SOURCE n) (refuse 0 TooLarge) r ≡ Ok p → n ≤ MAX_SOURCE
short_enough n r p e = short_by n (nat_lt MAX_SOURCE n) r p refl e
  where
    short_by : (n : ℕ) (b : Bool) (r : Result Program Refusal) (p : Program) → nat_lt MAX_SOURCE n ≡ b → cond b (refuse 0 TooLarge) r ≡ Ok p → n ≤ MAX_SOURCE
    short_by n true r p e f = cc
    short_by n false r p e f = grind (arith, nat_tests)

cond_lines : (b : Bool) (r : Result Program Refusal) (p : Program) → cond b (refuse 0 TooLarge) r ≡ Ok p → r ≡ Ok p
cond_lines true r p e = cc
cond_lines false r p e = e

-- a program that a source gives is that of the source
pub source_told : (source : List ℕ) (p : Program) → assembled source ≡ Ok p → IsSource source p
unfolding assembled
source_told source p e =
    let told = of_lines_told (lines_of source) p (cond_lines (nat_lt MAX_SOURCE (length source)) (of_lines (lines_of source)) p e) in
    record {
      short = short_enough (length source) (of_lines (lines_of source)) p e;
      lines = told.lines;
      names = told.names;
      once = told.once;
      entry = told.entry;
      segments = told.segments;
      sound = told.sound;
    }
