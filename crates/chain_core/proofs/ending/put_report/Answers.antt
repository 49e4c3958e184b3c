use Rattle.std.proofs.Common.{ap}
use Rattle.board_outside.proofs.Writing.{then_writes, stops_writing}
use Rattle.hart_report.proofs.Texts.{stopped, same_text}
use Rattle.chain_core.specs.Text.{end_line, report}
use Rattle.chain_core.proofs.ending.put_report.Goals as goal

pub returns-in_err-put_end : goal.returns-in_err-put_end
unfolding report
returns-in_err-put_end g c = stopped c.from_residual.result c.from_residual.ensures.0 (stops_writing _ (stops_writing _ (same_text (ap (end_line c.args.ended.now.end) c.halted.ensures) c.in_err-put_end.ensures)))

pub returns-in_err-put_steps : goal.returns-in_err-put_steps
unfolding report
returns-in_err-put_steps g c = stopped c.from_residual-in_err-put_steps.result c.from_residual-in_err-put_steps.ensures.0 (stops_writing _ (then_writes (same_text (ap (end_line c.args.ended.now.end) c.halted.ensures) c.in_ok-put_end.ensures) c.in_err-put_steps.ensures))

pub returns : goal.returns
unfolding report
returns g c = then_writes (then_writes (same_text (ap (end_line c.args.ended.now.end) c.halted.ensures) c.in_ok-put_end.ensures) c.in_ok-put_steps.ensures) c.put_done.ensures
