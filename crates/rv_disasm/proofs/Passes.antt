-- The two passes over lines that statements were printed as.
use Rattle.std.proofs.Common.{◌≡◌, ℕ, ◌+◌, ◌^◌, ◌<◌, List, [], ◌∷◌, ◌++◌, map, Some, None, Bool, true, false, cond, refl, sym, ap, subst, ◌∙◌, arith}
use Rattle.std.specs.Prelude.{not}
use Rattle.std.specs.List.{AllByRecursion}
use Rattle.std.specs.declared.result.Result.{Result}
use Rattle.std.specs.declared.result.Result.TheVariants.{Ok, Err}
use Rattle.std.proofs.lemmas.Bool.{cond-true}
use Rattle.asm_text.specs.Lexing.{lexed}
use Rattle.asm_text.specs.Pieces.{printed}
use Rattle.hart_memory.specs.Place.{holds}
use Rattle.asm_forms.specs.Operations.{operation_fits, bytes_of, made}
use Rattle.asm_forms.specs.Statements.{Reading, reading}
use Rattle.rv_assembler.specs.Symbols.{Symbol}
use Rattle.rv_assembler.specs.Laying.{Laid, laid, is_full, grown, overlaps, shut}
use Rattle.hart_words.specs.InTurn.{◌>>=◌}
use Rattle.rv_assembler.specs.Source.{at_line, pass, Refusal, Passed, with_laying, first_read, first_line, Built, reached, moved, entry_by, with_operation, second_by, task_of, second_line}
use Rattle.asm_forms.specs.declared.asm_why.AsmWhy.{AsmWhy}
use Rattle.asm_forms.specs.declared.operation.Operation.{Operation}
use Rattle.asm_forms.specs.declared.extent.Extent.{Extent}
use Rattle.asm_forms.specs.declared.extent.Extent.TheVariants.{Org as OrgExtent, Entry as EntryExtent, Takes}
use Rattle.rv_disasm.specs.Fitting.{statement_fits}
use Rattle.rv_disasm.specs.Printing.{line_pieces}
use Rattle.rv_disasm.specs.Listing.{behind, lines_from}
use Rattle.rv_disasm.specs.declared.statement.Statement.{Statement}
use Rattle.rv_disasm.specs.declared.statement.Statement.TheVariants.{Entry, Org, Byte, Half, Word, Long, Short}
use Rattle.rv_disasm.proofs.Sentences.{operation_for, extent_for, statement_makes, task_for, line_again}

abbrev pub AllFit : List Statement → Type 0
AllFit ss = AllByRecursion (λ s. statement_fits s ≡ true) ss

-- each place is a word
abbrev pub Places : ℕ → List Statement → Type 0
Places p [] = p < 2 ^ 32
Places p (s ∷ ss) = (p < 2 ^ 32) × Places (behind s p) ss

first_place : (p : ℕ) (ss : List Statement) → Places p ss → p < 2 ^ 32
first_place p [] h = h
first_place p (s ∷ ss) h = h.0

-- ---- one line

-- the first pass over a line
first_again : (s : Passed) (st : Statement) (t : Laid) → statement_fits st ≡ true → s.laying.place < 2 ^ 32 → laid (extent_for st) s.laying ≡ Ok t
    → first_line s (printed (line_pieces s.laying.place st)) ≡ Ok (with_laying s.symbols t)
unfolding first_line
first_again s st t f l e =
    let p = s.laying.place in
    let m = statement_makes st p l f in
    let after : Result Reading AsmWhy → Result Passed AsmWhy = λ r. r >>= first_read s in
    let kept : Result Laid AsmWhy → Result Passed AsmWhy = λ r. r >>= λ x. Ok (with_laying s.symbols x) in
    ap after (line_again p st f m)
    ∙ ap (λ x. kept (laid x s.laying)) m.extent
    ∙ ap kept e

-- what a statement adds
abbrev pub built_by : Statement → Built → Built
built_by st b = record { place = moved (extent_for st) b.place; entry = entry_by (operation_for st) b.entry; bytes = b.bytes ++ bytes_of (operation_for st) }

second_again : (symbols : List Symbol) (b : Built) (st : Statement) → statement_fits st ≡ true → b.place < 2 ^ 32
    → second_line symbols b (printed (line_pieces b.place st)) ≡ Ok (built_by st b)
unfolding second_line
second_again symbols b st f l =
    let p = b.place in
    let m = statement_makes st p l f in
    let k = task_for p st in
    let after : Result Reading AsmWhy → Result Built AsmWhy = λ r. second_by symbols b (task_of r) in
    let operated : Result Operation AsmWhy → Result Built AsmWhy = λ r. r >>= λ o. Ok (with_operation k b o) in
    let numbered : Result ℕ AsmWhy → Result Built AsmWhy = λ r. r >>= λ n. operated (reached (made k.kind k.operands n)) in
    let placed : Extent → Result Built AsmWhy = λ x. Ok (record { place = moved x b.place; entry = entry_by (operation_for st) b.entry; bytes = b.bytes ++ bytes_of (operation_for st) }) in
    ap after (line_again p st f m)
    ∙ ap numbered (m.resolved symbols)
    ∙ ap (λ o. operated (reached o)) m.made
    ∙ ap operated (cond-true (operation_fits (operation_for st)) (Ok (operation_for st)) _ m.fits)
    ∙ ap placed m.extent

-- the empty line at the end
first_empty : (s : Passed) → first_line s [] ≡ Ok s
unfolding first_line reading lexed
first_empty s = refl

second_empty : (symbols : List Symbol) (b : Built) → second_line symbols b [] ≡ Ok b
unfolding second_line reading lexed
second_empty symbols b = refl

-- ---- where an extent leads

abbrev pub place_by : Extent → ℕ → ℕ
place_by (OrgExtent v) p = v
place_by EntryExtent p = p
place_by (Takes n) p = p + n

refused_or : {A E : Type 0} (b : Bool) (d : E) (r : Result A E) (x : A) → cond b (Err d) r ≡ Ok x → (b ≡ false) × (r ≡ Ok x)
refused_or true d r x e = cc
refused_or false d r x e = (refl, e)

laid_place : (x : Extent) (l t : Laid) → laid x l ≡ Ok t → t.place ≡ place_by x l.place
unfolding laid
laid_place (OrgExtent v) l t e = let same : record { place = v; growing = None; closed = shut l.growing l.closed; entered = l.entered } ≡ t = cc in sym (ap (λ (k : Laid). k.place) same)
laid_place EntryExtent l t e =
    let k = refused_or l.entered _ _ t e in
    let same : record { place = l.place; growing = l.growing; closed = l.closed; entered = true } ≡ t = let f = k.1 in cc in sym (ap (λ (k : Laid). k.place) same)
laid_place (Takes n) l t e =
    let s = grown l.growing l.place n in
    let a = refused_or (is_full l.growing l.closed) _ _ t e in
    let b = refused_or (not (holds s.base s.size)) _ _ t a.1 in
    let c = refused_or (overlaps s l.closed) _ _ t b.1 in
    let same : record { place = l.place + n; growing = Some s; closed = l.closed; entered = l.entered } ≡ t = let f = c.1 in cc in sym (ap (λ (k : Laid). k.place) same)

place_behind : (s : Statement) (p : ℕ) → place_by (extent_for s) p ≡ behind s p
place_behind (Entry e) p = refl
place_behind (Org a) p = refl
place_behind (Byte b) p = refl
place_behind (Half h) p = refl
place_behind (Word w) p = refl
place_behind (Long i) p = refl
place_behind (Short c) p = refl

moved_small : (x : Extent) (p : ℕ) → place_by x p < 2 ^ 32 → moved x p ≡ place_by x p
moved_small (OrgExtent v) p h = refl
moved_small EntryExtent p h = refl
moved_small (Takes n) p h = omega arith

-- ---- all lines

abbrev pub run_first : List Statement → Laid → Result Laid AsmWhy
run_first [] l = Ok l
run_first (s ∷ ss) l = laid (extent_for s) l >>= run_first ss

abbrev pub run_second : List Statement → Built → Built
run_second [] b = b
run_second (s ∷ ss) b = run_second ss (built_by s b)

abbrev pub lines_at : ℕ → List Statement → List (List ℕ)
lines_at p ss = map printed (lines_from p ss) ++ [] ∷ []

bind_ok : {A B E : Type 0} (r : Result A E) (f : A → Result B E) (y : B) → (r >>= f) ≡ Ok y → (x : A) × (r ≡ Ok x) × (f x ≡ Ok y)
bind_ok (Ok x) f y e = (x, refl, e)
bind_ok (Err d) f y e = cc

pub first_passes : (n p : ℕ) (ss : List Statement) (s : Passed) (l : Laid) → AllFit ss → p ≡ s.laying.place → Places p ss → run_first ss s.laying ≡ Ok l
    → pass first_line (lines_at p ss) n s ≡ Ok (with_laying s.symbols l)
unfolding pass
first_passes n p [] s l f q h e =
    let same : s.laying ≡ l = cc in
    let go : Result Passed AsmWhy → Result Passed Refusal = λ r. at_line n r >>= pass first_line [] (n + 1) in
    ap go (first_empty s) ∙ ap (λ x. Ok (with_laying s.symbols x)) same
first_passes n p (st ∷ ss) s l f q h e =
    let step = bind_ok (laid (extent_for st) s.laying) (run_first ss) l e in
    let t = step.0 in
    let small : s.laying.place < 2 ^ 32 = subst (λ (k : ℕ). k < 2 ^ 32) q h.0 in
    let there : behind st p ≡ t.place = ap (behind st) q ∙ sym (place_behind st s.laying.place) ∙ sym (laid_place (extent_for st) s.laying t step.1) in
    let go : Result Passed AsmWhy → Result Passed Refusal = λ r. at_line n r >>= pass first_line (lines_at (behind st p) ss) (n + 1) in
    ap (λ k. go (first_line s (printed (line_pieces k st)))) q
    ∙ ap go (first_again s st t f.0 small step.1)
    ∙ first_passes (n + 1) (behind st p) ss (with_laying s.symbols t) l f.1 there h.1 step.2

pub second_passes : (symbols : List Symbol) (n p : ℕ) (ss : List Statement) (b : Built) → AllFit ss → p ≡ b.place → Places p ss
    → pass (second_line symbols) (lines_at p ss) n b ≡ Ok (run_second ss b)
unfolding pass
second_passes symbols n p [] b f q h =
    let go : Result Built AsmWhy → Result Built Refusal = λ r. at_line n r >>= pass (second_line symbols) [] (n + 1) in
    ap go (second_empty symbols b)
second_passes symbols n p (st ∷ ss) b f q h =
    let small : b.place < 2 ^ 32 = subst (λ (k : ℕ). k < 2 ^ 32) q h.0 in
    let next = first_place (behind st p) ss h.1 in
    let on : behind st p ≡ place_by (extent_for st) b.place = ap (behind st) q ∙ sym (place_behind st b.place) in
    let there : behind st p ≡ moved (extent_for st) b.place = on ∙ sym (moved_small (extent_for st) b.place (subst (λ (k : ℕ). k < 2 ^ 32) on next)) in
    let go : Result Built AsmWhy → Result Built Refusal = λ r. at_line n r >>= pass (second_line symbols) (lines_at (behind st p) ss) (n + 1) in
    ap (λ k. go (second_line symbols b (printed (line_pieces k st)))) q
    ∙ ap go (second_again symbols b st f.0 small)
    ∙ second_passes symbols (n + 1) (behind st p) ss (built_by st b) f.1 there h.1
