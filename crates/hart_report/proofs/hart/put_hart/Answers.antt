use Rattle.board_outside.proofs.Writing.{then_writes, stops_writing}
use Rattle.hart_report.specs.Hart.{hart_lines}
use Rattle.hart_report.proofs.Texts.{stopped}
use Rattle.hart_report.proofs.hart.put_hart.Goals as goal

pub returns-in_err-put_pc_and_registers : goal.returns-in_err-put_pc_and_registers
unfolding hart_lines
returns-in_err-put_pc_and_registers g c = stopped c.from_residual.result c.from_residual.ensures.0 (stops_writing _ c.in_err-put_pc_and_registers.ensures)

pub returns : goal.returns
unfolding hart_lines
returns g c = then_writes c.in_ok-put_pc_and_registers.ensures c.put_csrs.ensures
