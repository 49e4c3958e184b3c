use Rattle.board_inputs.proofs.LinePassed.{test_passed, passed_test}
use Rattle.board_inputs.proofs.Openings.{shape_told, shape_said}
use Rattle.board_inputs.proofs.laws.shapes_are_spelled.Goals as goal

pub returns : goal.returns
returns c = record {
  said = λ line s. (shape_told line s, shape_said line s);
  passed = λ line. (test_passed line, passed_test line);
}
