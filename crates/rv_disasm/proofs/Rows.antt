-- The table of forms, row by row.
use Rattle.std.proofs.Common.{◌≡◌, ℕ, suc, ◌+◌, ◌<◌, List, ◌∷◌, drop, get_or, length, Some, cond, ap, ◌∙◌, arith, drop-cons}
use Rattle.asm_forms.specs.Seen.{row_of, form_rows}
use Rattle.asm_forms.specs.declared.form.Form.{Form}
use Rattle.asm_forms.specs.declared.kind.Kind.{Kind}
use Rattle.rv_disasm.specs.Shown.{prints, row_in}

-- a table from one of its rows on
pub row_in_on : (table : List Form) (i : ℕ) (kind : Kind) (number : ℕ) (d : Form) → i < length table
    → row_in (form_rows (drop i table)) kind number
    ≡ cond (prints (row_of (get_or table i d)) kind number) (Some (row_of (get_or table i d))) (row_in (form_rows (drop (i + 1) table)) kind number)
row_in_on table i kind number d h =
    let one : suc i ≡ i + 1 = omega arith in
    ap (λ x. row_in (form_rows x) kind number) (drop-cons table i d h ∙ ap (λ k. get_or table i d ∷ drop k table) one)
