use Rattle.std.proofs.Common.{◌++◌}
use Rattle.board_outside.proofs.Writing.{then_writes, stops_writing}
use Rattle.hart_report.proofs.Texts.{stopped}
use Rattle.lab_check.proofs.parts.put_parts.Goals as goal

pub returns-in_err-put : goal.returns-in_err-put
returns-in_err-put g c = stopped c.from_residual.result c.from_residual.ensures.0 (stops_writing (c.args.name.now ++ c.args.rest.now) c.in_err-put.ensures)

pub returns-in_err-put-2 : goal.returns-in_err-put-2
returns-in_err-put-2 g c = stopped c.from_residual-in_err-put-2.result c.from_residual-in_err-put-2.ensures.0 (then_writes c.in_ok-put.ensures (stops_writing c.args.rest.now c.in_err-put-2.ensures))

pub returns : goal.returns
returns g c = then_writes c.in_ok-put.ensures (then_writes c.in_ok-put-2.ensures c.put-3.ensures)
