use Rattle.std.proofs.Common.{◌∙◌, sym}
use Rattle.board_inputs.specs.Numbers.{number_upto}
use Rattle.hart_monitor.proofs.NumberText.{decimals_are, plain_some}
use Rattle.hart_monitor.proofs.numbers.decimal.Goals as goal

pub returns-then-is_plain : goal.returns-then-is_plain
unfolding number_upto
returns-then-is_plain c = rw (sym c.is_plain.ensures ∙ c.if-is_plain.true) (c.digits_in.ensures ∙ decimals_are c.args.text.now (plain_some c.args.text.now (sym c.is_plain.ensures ∙ c.if-is_plain.true)))
