use Rattle.std.proofs.Common.{arith}
use Rattle.board_inputs.proofs.LineAgain.{line_again}
use Rattle.board_inputs.proofs.LineTold.{line_told}
use Rattle.board_inputs.proofs.LinePassed.{passed_is, passed_again}
use Rattle.board_inputs.proofs.laws.lines_are_spelled.Goals as goal

pub returns-clause-told : goal.returns-clause-told
returns-clause-told c = λ line e. (line_told c.args.inputs line e (omega (arith, c.ranges.inputs)), line_again c.args.inputs line e (omega (arith, c.ranges.inputs)))

pub returns-clause-passed : goal.returns-clause-passed
returns-clause-passed c = λ line. (passed_is c.args.inputs line, passed_again c.args.inputs line)
