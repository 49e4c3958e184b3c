use Rattle.std.proofs.Common.{sym, ap, ◌∙◌}
use Rattle.asm_forms.specs.Statements.{some_task}
use Rattle.asm_forms.proofs.Chosen.{statement_on, named, unnamed}
use Rattle.asm_forms.proofs.statements.statement.Goals as goal

pub returns-in-Ok : goal.returns-in-Ok
returns-in-Ok c = ap some_task c.in-Ok.ensures ∙ sym (statement_on c.args.line.now c.args.tokens.now c.args.at c.get-token.result c.get-token.ensures ∙ named c.args.line.now c.get-token.result _ c.in-Name.is)

pub returns-in-Err : goal.returns-in-Err
returns-in-Err c = ap some_task c.in-Err.ensures ∙ sym (statement_on c.args.line.now c.args.tokens.now c.args.at c.get-token.result c.get-token.ensures ∙ named c.args.line.now c.get-token.result _ c.in-Name.is)

pub returns-in_default : goal.returns-in_default
returns-in_default c = sym (statement_on c.args.line.now c.args.tokens.now c.args.at c.get-token.result c.get-token.ensures ∙ unnamed c.args.line.now c.get-token.result _ c.in_default.not-Name)
