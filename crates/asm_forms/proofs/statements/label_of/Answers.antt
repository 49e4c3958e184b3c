use Rattle.std.proofs.Common.{sym, ◌∙◌}
use Rattle.asm_forms.proofs.Chosen.{label_at, taken, left}
use Rattle.asm_forms.proofs.statements.label_of.Goals as goal

pub returns-then-is_marked-clause-label : goal.returns-then-is_marked-clause-label
returns-then-is_marked-clause-label c =
    c.label_in.ensures ∙ sym (label_at c.args.line.now c.args.tokens.now c.get-name.result c.get-colon.result c.get-name.ensures c.get-colon.ensures ∙ taken _ _ _ (sym (c.is_marked.ensures c.args.line.now) ∙ c.if-is_marked.true))

pub returns-else-is_marked-clause-label : goal.returns-else-is_marked-clause-label
returns-else-is_marked-clause-label c =
    sym (label_at c.args.line.now c.args.tokens.now c.get-name.result c.get-colon.result c.get-name.ensures c.get-colon.ensures ∙ left _ _ _ (sym (c.is_marked.ensures c.args.line.now) ∙ c.if-is_marked.false))
