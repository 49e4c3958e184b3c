use Rattle.board_outside.proofs.Writing.{then_writes, stops_writing}
use Rattle.std.proofs.Common.{sym}
use Rattle.hart_report.proofs.Texts.{stopped}
use Rattle.chain_core.proofs.stepping.settle_move.Goals as goal

pub returns-in_err-put_step-clause-text : goal.returns-in_err-put_step-clause-text
returns-in_err-put_step-clause-text g c = stopped c.from_residual.result c.from_residual.ensures.0 (stops_writing _ c.in_err-put_step.ensures.text)

pub returns-in_err-put_step-clause-room : goal.returns-in_err-put_step-clause-room
returns-in_err-put_step-clause-room g c = λ n h. c.arrive.ensures.room n (c.count.ensures.room n h)

pub returns-clause-text : goal.returns-clause-text
returns-clause-text g c = then_writes c.in_ok-put_step.ensures.text (c.tell_service.ensures c.args.board.now (sym c.arrive.ensures.hart.0))

pub returns-clause-room : goal.returns-clause-room
returns-clause-room g c = λ n h. c.arrive.ensures.room n (c.count.ensures.room n h)
