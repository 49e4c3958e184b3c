use Rattle.board_inputs.proofs.Digits.{HasRead}
use Rattle.chain_lint.proofs.pair_reading.value_of.Given as goal

abbrev pub invariant-loop-digit : goal.invariant-loop-digit
invariant-loop-digit l = HasRead l.text l.digit-index l.value l.most
