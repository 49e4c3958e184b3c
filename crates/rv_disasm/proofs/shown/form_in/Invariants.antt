use Rattle.std.proofs.Common.{◌≡◌, drop}
use Rattle.asm_forms.specs.Seen.{form_rows}
use Rattle.rv_disasm.specs.Shown.{row_in}
use Rattle.rv_disasm.proofs.shown.form_in.Given as goal

-- no row before this one is printed
abbrev pub invariant-loop-form : goal.invariant-loop-form
invariant-loop-form l = row_in (form_rows (drop l.form-index l.table)) l.kind l.number ≡ row_in (form_rows l.table) l.kind l.number
