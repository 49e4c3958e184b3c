use Rattle.std.proofs.Common.{sym, ◌∙◌}
use Rattle.std.proofs.lemmas.Bool.{cond-true, cond-false}
use Rattle.rv_disasm.proofs.Rows.{row_in_on}
use Rattle.rv_disasm.proofs.shown.form_in.Goals as goal

pub returns-then-prints : goal.returns-then-prints
returns-then-prints c =
    let step = row_in_on c.args.table.now c.loop-form.form-index c.args.kind c.args.number _ c.loop-form-test.true in
    sym (cond-true _ _ _ (sym c.prints.ensures ∙ c.if-prints.true)) ∙ sym step ∙ c.loop-form.invariant

pub loop-form-preserved : goal.loop-form-preserved
loop-form-preserved c =
    let step = row_in_on c.args.table.now c.loop-form.form-index c.args.kind c.args.number _ c.loop-form-test.true in
    sym (cond-false _ _ _ (sym c.prints.ensures ∙ c.if-prints.false)) ∙ sym step ∙ c.loop-form.invariant
