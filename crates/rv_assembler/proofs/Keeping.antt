-- What the first pass keeps of the segments, and how many bytes the second pass puts.
use Rattle.std.proofs.Common.{◌≡◌, ℕ, ◌+◌, ◌<◌, ◌≤◌, List, [], ◌∷◌, ◌++◌, length, Bool, true, false, cond, Option, Some, None, Result, Ok, Err, refl, sym, ap, ◌∙◌, arith, subst, append_assoc, length-append}
use Rattle.std.specs.Prelude.{not}
use Rattle.std.proofs.lemmas.List.{append-nil}
use Rattle.std.proofs.lemmas.Bool.Decides.{nat_tests}
use Rattle.hart_memory.specs.Place.{holds}
use Rattle.asm_forms.specs.Operations.{made, operation_fits, extent_of, taken, bytes_of}
use Rattle.asm_forms.specs.Statements.{Task, Fits, Reading, reading}
use Rattle.rv_assembler.specs.Symbols.{Symbol, with_label}
use Rattle.rv_assembler.specs.Laying.{Laid, nothing_laid, laid, shut, is_full, grown, overlaps}
use Rattle.rv_assembler.specs.Placing.{Follows, AllFollow, total, CanBeCut}
use Rattle.hart_words.specs.InTurn.{◌>>=◌}
use Rattle.rv_assembler.specs.Source.{at_line, pass, Passed, laid_by, first_read, first_line, Built, nothing_built, resolved, reached, second_by, task_in, task_of, second_line}
use Rattle.asm_forms.specs.declared.operation.Operation.{Operation}
use Rattle.rv_assembler.specs.declared.stretch.Stretch.{Stretch}
use Rattle.asm_forms.specs.declared.extent.Extent.{Extent}
use Rattle.asm_forms.specs.declared.extent.Extent.TheVariants.{Org as OrgExtent, Entry as EntryExtent, Takes}
use Rattle.asm_forms.specs.declared.asm_why.AsmWhy.{AsmWhy}
use Rattle.asm_forms.specs.declared.asm_why.AsmWhy.TheVariants.{BadOperands, OutsideMemory, Overlap, TooLarge, OutOfReach}
use Rattle.asm_forms.proofs.Fitting.{reading_fits, Positive, positive, bytes_taken}

-- ---- results

pub bind_ok : {A B E : Type 0} (x : Result A E) (f : A → Result B E) (y : B) → (x >>= f) ≡ Ok y → (a : A) × (x ≡ Ok a) × (f a ≡ Ok y)
bind_ok (Ok a) f y e = (a, refl, e)
bind_ok (Err w) f y e = cc

pub at_line_ok : {A : Type 0} (n : ℕ) (x : Result A AsmWhy) (y : A) → at_line n x ≡ Ok y → x ≡ Ok y
at_line_ok n (Ok x) y e = cc
at_line_ok n (Err w) y e = cc

pub ok_is : {A E : Type 0} (x y : A) → ◌≡◌ {A = Result A E} (Ok x) (Ok y) → x ≡ y
ok_is x y e = cc

pub cond_ok : {A E : Type 0} (b : Bool) (w : E) (r : Result A E) (y : A) → cond b (Err w) r ≡ Ok y → (b ≡ false) × (r ≡ Ok y)
cond_ok true w r y e = cc
cond_ok false w r y e = (refl, e)

-- ---- segments

abbrev pub Grows : Option Stretch → List Stretch → Type 0
Grows None ss = Unit {0}
Grows (Some t) ss = (length ss < 64) × Follows ss t

-- the segments so far, and as many bytes as they take
pub record Keeps (l : Laid) (bytes : List ℕ) : Type 0 where
  pub few : length l.closed ≤ 64
  pub follow : AllFollow [] l.closed
  pub grows : Grows l.growing l.closed
  pub whole : total (shut l.growing l.closed) ≡ length bytes

follow_more : (before ss : List Stretch) (s : Stretch) → AllFollow before ss → Follows (before ++ ss) s → AllFollow before (ss ++ s ∷ [])
follow_more before [] s h f = (subst (λ (b : List Stretch). Follows b s) (append-nil before) f, tt)
follow_more before (x ∷ xs) s h f = (h.0, follow_more (before ++ x ∷ []) xs s h.1 (subst (λ (b : List Stretch). Follows b s) (sym (append_assoc before (x ∷ []) xs)) f))

total_more : (ss : List Stretch) (s : Stretch) → total (ss ++ s ∷ []) ≡ total ss + s.size
total_more [] s = let e : s.size + 0 ≡ 0 + s.size = omega arith in e
total_more (x ∷ xs) s = let e : total (xs ++ s ∷ []) ≡ total xs + s.size = total_more xs s in omega arith

shut_few : (g : Option Stretch) (ss : List Stretch) → length ss ≤ 64 → Grows g ss → length (shut g ss) ≤ 64
shut_few None ss h f = h
shut_few (Some t) ss h f = omega (arith, f.0, length-append ss (t ∷ []))

shut_follow : (g : Option Stretch) (ss : List Stretch) → AllFollow [] ss → Grows g ss → AllFollow [] (shut g ss)
shut_follow None ss h f = h
shut_follow (Some t) ss h f = follow_more [] ss t h f.1

pub can_be_cut : (l : Laid) (bytes : List ℕ) → Keeps l bytes → CanBeCut (shut l.growing l.closed) bytes
can_be_cut l bytes k = record { few = shut_few l.growing l.closed k.few k.grows; follow = shut_follow l.growing l.closed k.follow k.grows; whole = k.whole }

pub not_true : (b : Bool) → not b ≡ false → b ≡ true
not_true true e = refl
not_true false e = cc

pub size_grown : (g : Option Stretch) (place n : ℕ) → 0 < n → 0 < (grown g place n).size
size_grown None place n h = h
size_grown (Some s) place n h = omega arith

room_grown : (g : Option Stretch) (ss : List Stretch) → is_full g ss ≡ false → Grows g ss → length ss < 64
room_grown None ss e h = grind (arith, nat_tests)
room_grown (Some s) ss e h = h.0

total_grown : (g : Option Stretch) (ss : List Stretch) (place n : ℕ) → total (shut (Some (grown g place n)) ss) ≡ total (shut g ss) + n
total_grown None ss place n = total_more ss (record { base = place; size = n })
total_grown (Some s) ss place n = let a = total_more ss (record { base = s.base; size = s.size + n }) in let b = total_more ss s in omega (arith, a, b)

pub laid_keeps : (e : Extent) (l after : Laid) (bytes new : List ℕ) → Positive e → length new ≡ taken e → laid e l ≡ Ok after → Keeps l bytes → Keeps after (bytes ++ new)
unfolding laid
laid_keeps (OrgExtent p) l after bytes new h len e k =
    subst (λ (x : Laid). Keeps x (bytes ++ new)) (ok_is _ after e)
    (record { few = shut_few l.growing l.closed k.few k.grows; follow = shut_follow l.growing l.closed k.follow k.grows; grows = tt; whole = omega (arith, k.whole, len, length-append bytes new) })
laid_keeps EntryExtent l after bytes new h len e k =
    subst (λ (x : Laid). Keeps x (bytes ++ new)) (ok_is _ after (cond_ok l.entered BadOperands _ after e).1)
    (record { few = k.few; follow = k.follow; grows = k.grows; whole = omega (arith, k.whole, len, length-append bytes new) })
laid_keeps (Takes n) l after bytes new h len e k =
    let t = grown l.growing l.place n in
    let full = cond_ok (is_full l.growing l.closed) TooLarge _ after e in
    let outside = cond_ok (not (holds t.base t.size)) OutsideMemory _ after full.1 in
    let over = cond_ok (overlaps t l.closed) Overlap _ after outside.1 in
    subst (λ (x : Laid). Keeps x (bytes ++ new)) (ok_is _ after over.1)
    (record {
      few = k.few;
      follow = k.follow;
      grows = (room_grown l.growing l.closed full.0 k.grows, record { some = size_grown l.growing l.place n h; placed = not_true _ outside.0; apart = over.0 });
      whole = omega (arith, k.whole, len, length-append bytes new, total_grown l.growing l.closed l.place n);
    })

-- ---- one line, and all lines

task_keeps : (k : Option Task) (l after : Laid) (symbols : List Symbol) (b c : Built) → ((x : Task) → k ≡ Some x → Fits x) → laid_by k l ≡ Ok after → second_by symbols b k ≡ Ok c → Keeps l b.bytes → Keeps after c.bytes
task_keeps None l after symbols b c f e s h = subst (λ (x : Laid). Keeps x c.bytes) (ok_is l after e) (subst (λ (x : Built). Keeps l x.bytes) (ok_is b c s) h)
task_keeps (Some k) l after symbols b c f e s h =
    let p = bind_ok (resolved symbols b.place k.operands.number) _ c s in
    let q = bind_ok (reached (made k.kind k.operands p.0)) _ c p.2 in
    let r = cond_reached (made k.kind k.operands p.0) q.0 q.1 in
    subst (λ (x : Built). Keeps after x.bytes) (ok_is _ c q.2)
    (subst (λ (x : Operation). Keeps after (b.bytes ++ bytes_of x)) r
    (laid_keeps (extent_of k.kind k.operands.amount) l after b.bytes (bytes_of (made k.kind k.operands p.0)) (positive k.kind k.operands _ (f k refl)) (bytes_taken k.kind k.operands p.0) e h))
  where
    cond_by : (t : Bool) (o p : Operation) → cond t (Ok o) (Err OutOfReach) ≡ Ok p → o ≡ p
    cond_by true o p e = ok_is o p e
    cond_by false o p e = cc

    cond_reached : (o p : Operation) → reached o ≡ Ok p → o ≡ p
    cond_reached o p e = cond_by (operation_fits o) o p e

pub line_keeps : (line : List ℕ) (s t : Passed) (symbols : List Symbol) (b c : Built) → first_line s line ≡ Ok t → second_line symbols b line ≡ Ok c → Keeps s.laying b.bytes → Keeps t.laying c.bytes
unfolding first_line second_line
line_keeps line s t symbols b c e f h =
    let p = bind_ok (reading line) (first_read s) t e in
    let q = bind_ok (with_label p.0.label s.laying.place s.symbols) _ t p.2 in
    let r = bind_ok p.0.statement _ t q.2 in
    let u = bind_ok (laid_by r.0 s.laying) _ t r.2 in
    let done = ok_is _ t u.2 in
    let second = ap (λ (x : Result Reading AsmWhy). second_by symbols b (task_of x)) (sym p.1) in
    let third = ap (λ (x : Result (Option Task) AsmWhy). second_by symbols b (task_in x)) (sym r.1) in
    subst (λ (x : Passed). Keeps x.laying c.bytes) done
    (task_keeps r.0 s.laying u.0 symbols b c (λ x is. reading_fits line p.0 x p.1 (r.1 ∙ ap (λ y. Ok y) is)) u.1 (third ∙ second ∙ f) h)

pub passes_keep : (ls : List (List ℕ)) (n m : ℕ) (s t : Passed) (symbols : List Symbol) (b c : Built)
    → pass first_line ls n s ≡ Ok t → pass (second_line symbols) ls m b ≡ Ok c → Keeps s.laying b.bytes → Keeps t.laying c.bytes
unfolding pass
passes_keep [] n m s t symbols b c e f h = subst (λ (x : Passed). Keeps x.laying c.bytes) (ok_is s t e) (subst (λ (x : Built). Keeps s.laying x.bytes) (ok_is b c f) h)
passes_keep (l ∷ ls) n m s t symbols b c e f h =
    let p = bind_ok (at_line n (first_line s l)) (pass first_line ls (n + 1)) t e in
    let q = bind_ok (at_line m (second_line symbols b l)) (pass (second_line symbols) ls (m + 1)) c f in
    passes_keep ls (n + 1) (m + 1) p.0 t symbols q.0 c p.2 q.2 (line_keeps l s p.0 symbols b q.0 (at_line_ok n _ p.0 p.1) (at_line_ok m _ q.0 q.1) h)

pub nothing_kept : Keeps nothing_laid []
nothing_kept = record { few = omega arith; follow = tt; grows = tt; whole = refl }

-- after both passes the bytes can be cut into the segments
pub passes_cut : (ls : List (List ℕ)) (s t : Passed) (symbols : List Symbol) (b c : Built) → s.laying ≡ nothing_laid → b ≡ nothing_built
    → pass first_line ls 1 s ≡ Ok t → pass (second_line symbols) ls 1 b ≡ Ok c → CanBeCut (shut t.laying.growing t.laying.closed) c.bytes
passes_cut ls s t symbols b c l n e f =
    let start : Keeps s.laying b.bytes = subst (λ (x : Laid). Keeps x b.bytes) (sym l) (subst (λ (x : Built). Keeps nothing_laid x.bytes) (sym n) nothing_kept) in
    can_be_cut t.laying c.bytes (passes_keep ls 1 1 s t symbols b c e f start)
