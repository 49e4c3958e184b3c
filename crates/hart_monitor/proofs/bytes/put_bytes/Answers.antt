use Rattle.std.proofs.Common.{true, false, arith}
use Rattle.std.specs.Int.{div_ceil}
use Rattle.board_outside.proofs.Writing.{then_writes, stops_writing, writes_nothing}
use Rattle.hart_report.proofs.Texts.{stopped}
use Rattle.hart_monitor.specs.Bytes.{bytes_text}
use Rattle.hart_monitor.proofs.Rows.{lines_step, no_lines}
use Rattle.hart_monitor.proofs.bytes.put_bytes.Goals as goal

pub returns-in_err-put_row : goal.returns-in_err-put_row
unfolding bytes_text
returns-in_err-put_row g c =
    stopped c.from_residual.result c.from_residual.ensures.0
    (c.loop-row.invariant false _ (rw (lines_step c.args.banks.now.present (div_ceil c.args.count 16) c.loop-row.row c.args.count c.args.at (omega (arith, c.loop-row-test.true, c.div_ceil-row-end.ensures)), ← c.min.ensures) (stops_writing _ c.in_err-put_row.ensures)))

pub loop-row-preserved : goal.loop-row-preserved
loop-row-preserved g c r n later =
    c.loop-row.invariant r n (rw (lines_step c.args.banks.now.present (div_ceil c.args.count 16) c.loop-row.row c.args.count c.args.at (omega (arith, c.loop-row-test.true, c.div_ceil-row-end.ensures)), ← c.min.ensures) (then_writes c.in_ok-put_row.ensures later))

pub returns : goal.returns
unfolding bytes_text
returns g c = c.loop-row.invariant true _ (rw (no_lines c.args.banks.now.present (div_ceil c.args.count 16) c.loop-row.row _ _ (omega (arith, c.loop-row-test.false, c.div_ceil-row-end.ensures))) (writes_nothing _))
