use Rattle.board_outside.proofs.Writing.{then_writes, stops_writing}
use Rattle.hart_report.specs.Hart.{csr_lines}
use Rattle.hart_report.proofs.Texts.{stopped}
use Rattle.hart_report.proofs.csrs.put_csrs.Goals as goal

pub returns-in_err-put_set_up : goal.returns-in_err-put_set_up
unfolding csr_lines
returns-in_err-put_set_up g c = stopped c.from_residual.result c.from_residual.ensures.0 (stops_writing _ (stops_writing _ c.in_err-put_set_up.ensures))

pub returns-in_err-put_trap : goal.returns-in_err-put_trap
unfolding csr_lines
returns-in_err-put_trap g c = stopped c.from_residual-in_err-put_trap.result c.from_residual-in_err-put_trap.ensures.0 (stops_writing _ (then_writes c.in_ok-put_set_up.ensures c.in_err-put_trap.ensures))

pub returns : goal.returns
unfolding csr_lines
returns g c = then_writes (then_writes c.in_ok-put_set_up.ensures c.in_ok-put_trap.ensures) c.put_levels.ensures
