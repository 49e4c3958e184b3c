-- The rows of the table, one by one, and the words behind a label.
use Rattle.std.proofs.Common.{◌≡◌, ℕ, suc, ◌+◌, ◌<◌, List, ◌∷◌, drop, get_or, map, length, Some, None, Bool, true, false, cond, Err, refl, ap, ◌∙◌, arith, drop-cons}
use Rattle.std.specs.List.{slice_get}
use Rattle.asm_text.specs.Names.{is_same_text}
use Rattle.asm_text.specs.Words.{Word, word_at}
use Rattle.asm_text.specs.declared.token.Token.{Token}
use Rattle.asm_text.specs.declared.token_kind.TokenKind.TheVariants.{Name, Number, Comma, Colon, Open, Close}
use Rattle.asm_text.specs.declared.token_kind.TokenKind.{TokenKind}
use Rattle.std.specs.Prelude.{slice_range, ℤ}
use Rattle.asm_text.specs.Words.{word_by}
use Rattle.asm_fields.specs.Fields.{label_in, is_marked}
use Rattle.asm_forms.specs.Statements.{chosen, read_form, task_or, label_of, statement_of, some_task, task_named}
use Rattle.asm_forms.specs.Seen.{row_of, form_rows}
use Rattle.asm_forms.specs.declared.form.Form.{Form}
use Rattle.asm_forms.specs.declared.asm_why.AsmWhy.{AsmWhy}
use Rattle.asm_forms.specs.declared.asm_why.AsmWhy.TheVariants.{BadOperands, UnknownMnemonic}
use Rattle.asm_fields.proofs.Items.{drop_at}

pub chosen_on : (table : List Form) (i : ℕ) (why : AsmWhy) (t : List ℕ) (ws : List Word) (d : Form) → i < length table
    → chosen (form_rows (drop i table)) why t ws
    ≡ cond (is_same_text (get_or table i d).name.now t) (task_or (read_form (row_of (get_or table i d)) ws) (chosen (form_rows (drop (i + 1) table)) BadOperands t ws)) (chosen (form_rows (drop (i + 1) table)) why t ws)
chosen_on table i why t ws d h =
    let one : suc i ≡ i + 1 = omega arith in
    ap (λ x. chosen (form_rows x) why t ws) (drop-cons table i d h ∙ ap (λ k. get_or table i d ∷ drop k table) one)

pub taken : {A : Type 0} (b : Bool) (x y : A) → b ≡ true → cond b x y ≡ x
taken true x y e = refl
taken false x y e = cc

pub left : {A : Type 0} (b : Bool) (x y : A) → b ≡ false → cond b x y ≡ y
left false x y e = refl
left true x y e = cc

-- a label is told by the first two words
pub label_at : (line : List ℕ) (ts : List Token) (t u : Token) → slice_get ts 0 ≡ Some t → slice_get ts 1 ≡ Some u
    → label_of (map (word_at line) ts) ≡ cond (is_marked Colon (word_at line u)) (label_in (word_at line t)) None
label_at line ts t u e f =
    ap (λ x. label_of (map (word_at line) x)) (drop_at ts 0 t e ∙ ap (λ x. t ∷ x) (drop_at ts 1 u f))

pub statement_on : (line : List ℕ) (ts : List Token) (at : ℕ) (t : Token) → slice_get ts at ≡ Some t
    → statement_of (map (word_at line) (drop at ts)) ≡ statement_of (word_at line t ∷ map (word_at line) (drop (at + 1) ts))
statement_on line ts at t e = ap (λ x. statement_of (map (word_at line) x)) (drop_at ts at t e)

pub named : (line : List ℕ) (t : Token) (ws : List Word) → t.kind ≡ Name → statement_of (word_at line t ∷ ws) ≡ some_task (task_named (slice_range line t.start t.end) ws)
named line t ws e = ap (λ k. statement_of (word_by k (slice_range line t.start t.end) t.value ∷ ws)) e

unnamed_by : (k : TokenKind) (s : List ℕ) (v : ℤ) (ws : List Word) → (k ≡ Name → ⊥) → statement_of (word_by k s v ∷ ws) ≡ Err UnknownMnemonic
unnamed_by Name s v ws n = absurd (n refl)
unnamed_by Number s v ws n = refl
unnamed_by Comma s v ws n = refl
unnamed_by Colon s v ws n = refl
unnamed_by Open s v ws n = refl
unnamed_by Close s v ws n = refl

pub unnamed : (line : List ℕ) (t : Token) (ws : List Word) → (t.kind ≡ Name → ⊥) → statement_of (word_at line t ∷ ws) ≡ Err UnknownMnemonic
unnamed line t ws n = unnamed_by t.kind (slice_range line t.start t.end) t.value ws n
