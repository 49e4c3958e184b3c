use Rattle.board_outside.proofs.Writing.{then_writes, stops_writing}
use Rattle.hart_report.proofs.Texts.{stopped}
use Rattle.chain_core.proofs.ending.put_done.Goals as goal

pub returns-in_err-put_bodies-in-Done : goal.returns-in_err-put_bodies-in-Done
returns-in_err-put_bodies-in-Done g c = rw c.in-Done.is (stopped c.from_residual.result c.from_residual.ensures.0 (stops_writing _ c.in_err-put_bodies-in-Done.ensures))

pub returns-in_ok-put_bodies-in-Done : goal.returns-in_ok-put_bodies-in-Done
returns-in_ok-put_bodies-in-Done g c = rw c.in-Done.is (then_writes c.in_ok-put_bodies-in-Done.ensures c.put_board.ensures)
