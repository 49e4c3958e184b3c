use Rattle.board_outside.proofs.Writing.{then_writes, stops_writing}
use Rattle.hart_report.specs.Hart.{pc_and_registers}
use Rattle.hart_report.proofs.Texts.{stopped}
use Rattle.hart_report.proofs.hart.put_pc_and_registers.Goals as goal

pub returns-in_err-put_pc : goal.returns-in_err-put_pc
unfolding pc_and_registers
returns-in_err-put_pc g c = stopped c.from_residual.result c.from_residual.ensures.0 (stops_writing _ c.in_err-put_pc.ensures)

pub returns : goal.returns
unfolding pc_and_registers
returns g c = then_writes c.in_ok-put_pc.ensures c.put_registers.ensures
