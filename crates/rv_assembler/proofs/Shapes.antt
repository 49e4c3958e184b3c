-- The stretches of lines, and the segments that the first pass keeps.
use Rattle.std.proofs.Common.{◌≡◌, ℕ, ◌+◌, ◌<◌, List, [], ◌∷◌, ◌++◌, Bool, true, false, Option, Some, None, Ok, refl, sym, ap, ◌∙◌, arith, subst, append_assoc}
use Rattle.std.specs.Prelude.{nat_lt}
use Rattle.std.proofs.lemmas.List.{append-nil}
use Rattle.std.proofs.lemmas.Bool.Decides.{nat_tests}
use Rattle.asm_forms.specs.Operations.{extent_of}
use Rattle.asm_forms.specs.Statements.{Task}
use Rattle.asm_forms.specs.declared.kind.Kind.{Kind}
use Rattle.asm_forms.specs.declared.kind.Kind.TheVariants.{Org, Entry, Byte, Half, Zero, Short, Pair}
use Rattle.asm_forms.specs.declared.extent.Extent.{Extent}
use Rattle.asm_forms.specs.declared.extent.Extent.TheVariants.{Org as OrgExtent, Entry as EntryExtent, Takes}
use Rattle.asm_forms.specs.declared.asm_why.AsmWhy.TheVariants.{BadOperands}
use Rattle.asm_forms.proofs.Fitting.{Positive}
use Rattle.rv_assembler.specs.Laying.{Laid, laid, shut, grown}
use Rattle.rv_assembler.specs.Source.{laid_by}
use Rattle.rv_assembler.specs.Relation.{extent_by, entry_kind, entry_in, stretches, filled_by, filled}
use Rattle.rv_assembler.specs.declared.stretch.Stretch.{Stretch}
use Rattle.rv_assembler.proofs.Keeping.{ok_is, cond_ok, size_grown}
use Rattle.rv_assembler.proofs.Located.{took, jumped, marked}

-- the segment that grows, or none yet at the place
abbrev pub begun : Option Stretch → ℕ → Stretch
begun None p = record { base = p; size = 0 }
begun (Some s) p = s

-- a segment that grows has a byte
abbrev pub HasSome : Option Stretch → Type 0
HasSome None = Unit {0}
HasSome (Some s) = 0 < s.size

-- the segments that there will be
abbrev pub expected : Laid → List Extent → List Stretch
expected l es = l.closed ++ filled (stretches (begun l.growing l.place).base (begun l.growing l.place).size es)

is_some : (n : ℕ) → 0 < n → nat_lt 0 n ≡ true
is_some n h = grind (arith, nat_tests)

pub first_filled : (s : Stretch) (ss : List Stretch) → 0 < s.size → filled (s ∷ ss) ≡ s ∷ filled ss
first_filled s ss h = ap (λ b. filled_by b s (filled ss)) (is_some s.size h)

jump_shape : (g : Option Stretch) (c rest : List Stretch) (p : ℕ) → HasSome g → c ++ filled (begun g p ∷ rest) ≡ shut g c ++ filled rest
jump_shape None c rest p h = refl
jump_shape (Some s) c rest p h = ap (λ xs. c ++ xs) (first_filled s rest h) ∙ sym (append_assoc c (s ∷ []) (filled rest))

pub take_shape : (g : Option Stretch) (c : List Stretch) (p n : ℕ) (es : List Extent) → c ++ filled (stretches (begun g p).base ((begun g p).size + n) es) ≡ c ++ filled (stretches (grown g p n).base (grown g p n).size es)
take_shape None c p n es = let e : 0 + n ≡ n = omega arith in ap (λ k. c ++ filled (stretches p k es)) e
take_shape (Some s) c p n es = refl

-- no line changes them
pub laid_shape : (e : Extent) (l after : Laid) (es : List Extent) → laid e l ≡ Ok after → HasSome l.growing → expected l (e ∷ es) ≡ expected after es
laid_shape (OrgExtent p) l after es e h = jump_shape l.growing l.closed (stretches p 0 es) l.place h ∙ ap (λ (x : Laid). expected x es) (jumped p l after e)
laid_shape EntryExtent l after es e h = ap (λ (x : Laid). expected x es) (marked l after e)
laid_shape (Takes n) l after es e h = take_shape l.growing l.closed l.place n es ∙ ap (λ (x : Laid). expected x es) (took n l after e).is

pub line_shape : (k : Option Task) (l after : Laid) (es : List Extent) → laid_by k l ≡ Ok after → HasSome l.growing → expected l (extent_by k ∷ es) ≡ expected after es
line_shape None l after es e h = ap (λ (x : Laid). expected x es) (ok_is l after e)
line_shape (Some k) l after es e h = laid_shape (extent_of k.kind k.operands.amount) l after es e h

laid_some : (e : Extent) (l after : Laid) → laid e l ≡ Ok after → Positive e → HasSome l.growing → HasSome after.growing
laid_some (OrgExtent p) l after e f h = subst (λ (x : Laid). HasSome x.growing) (jumped p l after e) tt
laid_some EntryExtent l after e f h = subst (λ (x : Laid). HasSome x.growing) (marked l after e) h
laid_some (Takes n) l after e f h = subst (λ (x : Laid). HasSome x.growing) (took n l after e).is (size_grown l.growing l.place n f)

pub line_some : (k : Option Task) (l after : Laid) → laid_by k l ≡ Ok after → ((x : Task) → k ≡ Some x → Positive (extent_of x.kind x.operands.amount)) → HasSome l.growing → HasSome after.growing
line_some None l after e f h = subst (λ (x : Laid). HasSome x.growing) (ok_is l after e) h
line_some (Some k) l after e f h = laid_some (extent_of k.kind k.operands.amount) l after e (f k refl) h

pub shape_at_end : (g : Option Stretch) (c : List Stretch) (p : ℕ) → HasSome g → c ++ filled (begun g p ∷ []) ≡ shut g c
shape_at_end None c p h = append-nil c
shape_at_end (Some s) c p h = ap (λ xs. c ++ xs) (first_filled s [] h)

-- ---- the entry

abbrev pub count : Bool → ℕ
count true = 1
count false = 0

counted : (e : Extent) (l after : Laid) → laid e l ≡ Ok after → (e ≡ EntryExtent → ⊥) → after.entered ≡ l.entered
counted (OrgExtent p) l after e n = ap (λ (x : Laid). x.entered) (sym (jumped p l after e))
counted EntryExtent l after e n = absurd (n refl)
counted (Takes k) l after e n = ap (λ (x : Laid). x.entered) (sym (took k l after e).is)

not_entered : (l after : Laid) → laid EntryExtent l ≡ Ok after → l.entered ≡ false
unfolding laid
not_entered l after e = (cond_ok l.entered BadOperands _ after e).0

entry_counted : (l after : Laid) → laid EntryExtent l ≡ Ok after → count l.entered + 1 ≡ count after.entered
entry_counted l after e = ap (λ b. count b + 1) (not_entered l after e) ∙ ap (λ (x : Laid). count x.entered) (marked l after e)

same_count : (a b : Bool) → b ≡ a → count a + 0 ≡ count b
same_count a true e = ap (λ x. count x + 0) (sym e)
same_count a false e = ap (λ x. count x + 0) (sym e)

kind_counted : (k : Kind) (a : ℕ) (l after : Laid) → laid (extent_of k a) l ≡ Ok after → count l.entered + entry_kind k ≡ count after.entered
unfolding extent_of
kind_counted Entry a l after e = entry_counted l after e
kind_counted Org a l after e = same_count l.entered after.entered (counted (OrgExtent a) l after e (λ x. cc))
kind_counted Byte a l after e = same_count l.entered after.entered (counted (Takes 1) l after e (λ x. cc))
kind_counted Half a l after e = same_count l.entered after.entered (counted (Takes 2) l after e (λ x. cc))
kind_counted Zero a l after e = same_count l.entered after.entered (counted (Takes a) l after e (λ x. cc))
kind_counted (Short row) a l after e = same_count l.entered after.entered (counted (Takes 2) l after e (λ x. cc))
kind_counted Pair a l after e = same_count l.entered after.entered (counted (Takes 8) l after e (λ x. cc))
kind_counted _ a l after e = same_count l.entered after.entered (counted (Takes 4) l after e (λ x. cc))

-- each `.entry` is counted, and only one passes
pub line_counted : (k : Option Task) (l after : Laid) → laid_by k l ≡ Ok after → count l.entered + entry_in k ≡ count after.entered
line_counted None l after e = same_count l.entered after.entered (ap (λ (x : Laid). x.entered) (sym (ok_is l after e)))
line_counted (Some k) l after e = kind_counted k.kind k.operands.amount l after e
