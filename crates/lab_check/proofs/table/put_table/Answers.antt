use Rattle.std.proofs.Common.{ap}
use Rattle.board_outside.proofs.Writing.{then_writes, stops_writing}
use Rattle.hart_report.proofs.Texts.{stopped}
use Rattle.chain_search.specs.Tables.{bound_told}
use Rattle.lab_check.specs.Lines.{bound_text, table_text}
use Rattle.lab_check.proofs.LinesLeft.{as_text}
use Rattle.lab_check.proofs.table.put_table.Goals as goal

pub returns-in_err-put_lines : goal.returns-in_err-put_lines
unfolding table_text
returns-in_err-put_lines g c = stopped c.from_residual.result c.from_residual.ensures.0 (stops_writing (bound_text (bound_told c.args.pairs.now c.args.answers.now)) c.in_err-put_lines.ensures)

pub returns : goal.returns
unfolding table_text
returns g c = then_writes c.in_ok-put_lines.ensures (as_text (ap (λ o. bound_text o) c.requires.bound) c.put_bound.ensures)
