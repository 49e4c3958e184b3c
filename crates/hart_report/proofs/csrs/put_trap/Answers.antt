use Rattle.board_outside.proofs.Writing.{then_writes, stops_writing}
use Rattle.hart_report.specs.Hart.{trap_lines}
use Rattle.hart_report.proofs.Texts.{stopped}
use Rattle.hart_report.proofs.csrs.put_trap.Goals as goal

pub returns-in_err-put_csr : goal.returns-in_err-put_csr
unfolding trap_lines
returns-in_err-put_csr g c = stopped c.from_residual.result c.from_residual.ensures.0 (stops_writing _ (stops_writing _ (stops_writing _ c.in_err-put_csr.ensures)))

pub returns-in_err-put_csr-2 : goal.returns-in_err-put_csr-2
unfolding trap_lines
returns-in_err-put_csr-2 g c = stopped c.from_residual-in_err-put_csr-2.result c.from_residual-in_err-put_csr-2.ensures.0 (stops_writing _ (stops_writing _ (then_writes c.in_ok-put_csr.ensures c.in_err-put_csr-2.ensures)))

pub returns-in_err-put_csr-3 : goal.returns-in_err-put_csr-3
unfolding trap_lines
returns-in_err-put_csr-3 g c = stopped c.from_residual-in_err-put_csr-3.result c.from_residual-in_err-put_csr-3.ensures.0 (stops_writing _ (then_writes (then_writes c.in_ok-put_csr.ensures c.in_ok-put_csr-2.ensures) c.in_err-put_csr-3.ensures))

pub returns : goal.returns
unfolding trap_lines
returns g c = then_writes (then_writes (then_writes c.in_ok-put_csr.ensures c.in_ok-put_csr-2.ensures) c.in_ok-put_csr-3.ensures) c.put_csr-4.ensures
