use Rattle.board_outside.proofs.Writing.{writes_nothing}
use Rattle.hart_board.proofs.report.put_end.Goals as goal

pub returns-in-SinkFailed : goal.returns-in-SinkFailed
returns-in-SinkFailed g c = rw c.in-SinkFailed.is (writes_nothing _)
