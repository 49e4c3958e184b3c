use Rattle.std.proofs.Common.{ap}
use Rattle.board_outside.proofs.Writing.{then_writes, stops_writing}
use Rattle.hart_report.specs.Contents.{count_line, output_part}
use Rattle.hart_report.proofs.Texts.{stopped, same_text}
use Rattle.hart_report.proofs.contents.put_output.Goals as goal

pub returns-in_err-put_count : goal.returns-in_err-put_count
unfolding output_part
returns-in_err-put_count g c =
    stopped c.from_residual.result c.from_residual.ensures.0 (stops_writing _ (same_text (ap count_line c.output_len.ensures) c.in_err-put_count.ensures))

pub returns : goal.returns
unfolding output_part
returns g c = then_writes (same_text (ap count_line c.output_len.ensures) c.in_ok-put_count.ensures) c.put_output_lines.ensures
