use Rattle.board_outside.proofs.Writing.{then_writes, stops_writing}
use Rattle.hart_report.specs.Hart.{set_up_lines}
use Rattle.hart_report.proofs.Texts.{stopped}
use Rattle.hart_report.proofs.csrs.put_set_up.Goals as goal

pub returns-in_err-put_mstatus : goal.returns-in_err-put_mstatus
unfolding set_up_lines
returns-in_err-put_mstatus g c = stopped c.from_residual.result c.from_residual.ensures.0 (stops_writing _ (stops_writing _ c.in_err-put_mstatus.ensures))

pub returns-in_err-put_csr : goal.returns-in_err-put_csr
unfolding set_up_lines
returns-in_err-put_csr g c = stopped c.from_residual-in_err-put_csr.result c.from_residual-in_err-put_csr.ensures.0 (stops_writing _ (then_writes c.in_ok-put_mstatus.ensures c.in_err-put_csr.ensures))

pub returns : goal.returns
unfolding set_up_lines
returns g c = then_writes (then_writes c.in_ok-put_mstatus.ensures c.in_ok-put_csr.ensures) c.put_csr-2.ensures
