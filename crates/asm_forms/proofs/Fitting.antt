-- What a line that is read asks for fits, and has as many bytes as it takes.
use Rattle.std.proofs.Common.{◌≡◌, ℕ, ◌<◌, List, [], ◌∷◌, length, Bool, true, false, cond, Option, Some, None, Result, Ok, Err, refl, ap, ◌∙◌, subst, arith, lit<}
use Rattle.std.specs.Prelude.{◌&&◌, nat_le}
use Rattle.std.proofs.lemmas.Bool.Decides.{nat_tests}
use Rattle.asm_text.specs.Names.{is_same_text}
use Rattle.asm_text.specs.Words.{Word, NameWord, NumberWord, MarkWord}
use Rattle.asm_text.specs.Lexing.{lexed}
use Rattle.asm_text.specs.declared.lex_fault.LexFault.{LexFault}
use Rattle.asm_fields.specs.Operands.{Operands}
use Rattle.asm_forms.specs.Operations.{made, operation_fits, extent_of, taken, bytes_of, first_value}
use Rattle.asm_forms.specs.Forms.{Row, forms}
use Rattle.asm_forms.specs.Statements.{Task, Fits, task_by, read_form, task_or, chosen, task_named, some_task, statement_of, Reading, reading, reading_of, reading_by}
use Rattle.asm_forms.specs.declared.kind.Kind.{Kind}
use Rattle.asm_forms.specs.declared.kind.Kind.TheVariants.{Org, Entry, Byte, Half, Zero, Short, Pair}
use Rattle.asm_forms.specs.declared.extent.Extent.{Extent}
use Rattle.asm_forms.specs.declared.extent.Extent.TheVariants.{Org as OrgExtent, Entry as EntryExtent, Takes}
use Rattle.asm_forms.specs.declared.asm_why.AsmWhy.{AsmWhy}
use Rattle.asm_forms.specs.declared.asm_why.AsmWhy.TheVariants.{UnknownMnemonic, BadOperands}
use Rattle.asm_forms.proofs.Zeros.{length_zeros}

ok_is : {A E : Type 0} (x y : A) → ◌≡◌ {A = Result A E} (Ok x) (Ok y) → x ≡ y
ok_is x y e = cc

cond_some : {A : Type 0} (b : Bool) (x y : A) → cond b (Some x) None ≡ Some y → (b ≡ true) × (x ≡ y)
cond_some true x y e = (refl, cc)
cond_some false x y e = cc

-- ---- what is read fits

task_by_fits : (kind : Kind) (o : Option Operands) (k : Task) → task_by kind o ≡ Some k → Fits k
task_by_fits kind None k e = cc
task_by_fits kind (Some o) k e =
    let p = cond_some (operation_fits (made kind o (first_value o.number))) (record { kind = kind; operands = o }) k e in
    subst (λ (x : Task). Fits x) p.1 p.0

read_form_fits : (row : Row) (ws : List Word) (k : Task) → read_form row ws ≡ Some k → Fits k
unfolding read_form
read_form_fits row ws k e = task_by_fits row.kind _ k e

chosen_by : (b : Bool) (o : Option Task) (r s : Result Task AsmWhy) (k : Task) → cond b (task_or o r) s ≡ Ok k → (o ≡ Some k → Fits k) → (r ≡ Ok k → Fits k) → (s ≡ Ok k → Fits k) → Fits k
chosen_by true None r s k e f g h = g e
chosen_by true (Some x) r s k e f g h = f (ap (λ y. Some y) (ok_is x k e))
chosen_by false o r s k e f g h = h e

chosen_fits : (rows : List Row) (why : AsmWhy) (t : List ℕ) (ws : List Word) (k : Task) → chosen rows why t ws ≡ Ok k → Fits k
chosen_fits [] why t ws k e = cc
chosen_fits (row ∷ rows) why t ws k e =
    chosen_by (is_same_text row.name t) (read_form row ws) (chosen rows BadOperands t ws) (chosen rows why t ws) k e (read_form_fits row ws k) (chosen_fits rows BadOperands t ws k) (chosen_fits rows why t ws k)

task_named_fits : (t : List ℕ) (ws : List Word) (k : Task) → task_named t ws ≡ Ok k → Fits k
unfolding task_named
task_named_fits t ws k e = chosen_fits forms UnknownMnemonic t ws k e

some_task_ok : (r : Result Task AsmWhy) (k : Task) → some_task r ≡ Ok (Some k) → r ≡ Ok k
some_task_ok (Ok x) k e = cc
some_task_ok (Err w) k e = cc

statement_fits : (ws : List Word) (k : Task) → statement_of ws ≡ Ok (Some k) → Fits k
statement_fits [] k e = cc
statement_fits (NameWord t ∷ ws) k e = task_named_fits t ws k (some_task_ok (task_named t ws) k e)
statement_fits (NumberWord z ∷ ws) k e = cc
statement_fits (MarkWord m ∷ ws) k e = cc

reading_by_fits : (f : Option LexFault) (ws : List Word) (r : Reading) (k : Task) → reading_by f ws ≡ Ok r → r.statement ≡ Ok (Some k) → Fits k
reading_by_fits None ws r k e s = statement_fits _ k (ap (λ (x : Reading). x.statement) (ok_is (reading_of ws) r e) ∙ s)
reading_by_fits (Some f) ws r k e s = cc

pub reading_fits : (line : List ℕ) (r : Reading) (k : Task) → reading line ≡ Ok r → r.statement ≡ Ok (Some k) → Fits k
unfolding reading
reading_fits line r k e s = reading_by_fits (lexed line).fault _ r k e s

-- ---- how many bytes

abbrev pub Positive : Extent → Type 0
Positive (OrgExtent p) = Unit {0}
Positive EntryExtent = Unit {0}
Positive (Takes n) = 0 < n

at_least_one : (n : ℕ) → (nat_le 1 n && nat_le n 65536) ≡ true → 0 < n
at_least_one n e = grind (arith, nat_tests)

pub positive : (k : Kind) (o : Operands) (n : ℕ) → operation_fits (made k o n) ≡ true → Positive (extent_of k o.amount)
unfolding made operation_fits extent_of
positive Org o n e = tt
positive Entry o n e = tt
positive Byte o n e = lit< tt
positive Half o n e = lit< tt
positive Zero o n e = at_least_one o.amount e
positive (Short row) o n e = lit< tt
positive Pair o n e = lit< tt
positive _ o n e = lit< tt

pub bytes_taken : (k : Kind) (o : Operands) (n : ℕ) → length (bytes_of (made k o n)) ≡ taken (extent_of k o.amount)
unfolding made extent_of bytes_of
bytes_taken Zero o n = length_zeros o.amount
bytes_taken _ o n = refl
