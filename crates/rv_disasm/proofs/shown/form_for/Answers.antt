use Rattle.std.proofs.Common.{[], ap, ◌∙◌}
use Rattle.std.specs.Prelude.{unwrap_or}
use Rattle.asm_forms.specs.Forms.{form}
use Rattle.asm_forms.specs.declared.kind.Kind.TheVariants.{Org}
use Rattle.rv_disasm.specs.Shown.{row_in, row_for}
use Rattle.rv_disasm.proofs.shown.form_for.Goals as goal

pub returns-in-Some : goal.returns-in-Some
unfolding row_for
returns-in-Some c = ap (λ o. unwrap_or o (form [] [] Org)) (c.in-Some.ensures ∙ ap (λ x. row_in x c.args.kind c.args.number) c.all_forms.ensures)

pub returns-in-None : goal.returns-in-None
unfolding row_for
returns-in-None c = ap (λ o. unwrap_or o (form [] [] Org)) (c.in-None.ensures ∙ ap (λ x. row_in x c.args.kind c.args.number) c.all_forms.ensures)
