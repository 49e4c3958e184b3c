use Rattle.std.proofs.Common.{◌∙◌, sym, arith, rules}
use Rattle.board_inputs.proofs.Digits.{no_digit, too_great, reads_more}
use Rattle.chain_lint.proofs.pair_reading.value_of.Goals as goal

pub returns-then-not-is_ascii_digit-clause-value : goal.returns-then-not-is_ascii_digit-clause-value
returns-then-not-is_ascii_digit-clause-value c = no_digit c.args.most c.args.text.now c.loop-digit.digit-index c.loop-digit-test.true (sym c.is_ascii_digit.ensures.value ∙ c.if-not-is_ascii_digit.true)

pub returns-then-value-from-clause-value : goal.returns-then-value-from-clause-value
returns-then-value-from-clause-value c = too_great c.args.most c.args.text.now c.loop-digit.digit-index c.loop-digit.value c.loop-digit-test.true c.loop-digit.invariant (sym c.is_ascii_digit.ensures.value ∙ c.if-not-is_ascii_digit.false) (omega arith)

pub loop-digit-preserved : goal.loop-digit-preserved
loop-digit-preserved c = reads_more c.args.text.now c.loop-digit.digit-index c.loop-digit.value _ c.args.most c.loop-digit-test.true c.loop-digit.invariant (sym c.is_ascii_digit.ensures.value ∙ c.if-not-is_ascii_digit.false) (search rules) (omega arith)
