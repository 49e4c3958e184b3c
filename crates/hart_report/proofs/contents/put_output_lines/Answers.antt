use Rattle.std.proofs.Common.{◌<◌, ◌≤◌, ◌*◌, true, false, length, drop, arith}
use Rattle.std.specs.Int.{div_ceil}
use Rattle.board_outside.proofs.Writing.{then_writes, stops_writing, writes_nothing}
use Rattle.hart_report.proofs.Texts.{stopped}
use Rattle.hart_report.proofs.Rows.{output_lines_step, no_output_lines}
use Rattle.hart_report.proofs.contents.put_output_lines.Goals as goal

pub returns-in_err-put_output_line : goal.returns-in_err-put_output_line
returns-in_err-put_output_line g c =
    let bytes = g.D.Device.means.output_of (g.D.Device.state c.args.device.now) in
    let in_range : c.loop-row.row < div_ceil (length bytes) 32 = rw (← c.output_len.ensures) (rw (← c.div_ceil-row-end.ensures) c.loop-row-test.true) in
    stopped c.from_residual.result c.from_residual.ensures.0
    (c.loop-row.invariant false _ (rw (output_lines_step (div_ceil (length bytes) 32) c.loop-row.row bytes in_range) (stops_writing _ c.in_err-put_output_line.ensures)))

pub loop-row-preserved : goal.loop-row-preserved
loop-row-preserved g c r n later =
    let bytes = g.D.Device.means.output_of (g.D.Device.state c.args.device.now) in
    let in_range : c.loop-row.row < div_ceil (length bytes) 32 = rw (← c.output_len.ensures) (rw (← c.div_ceil-row-end.ensures) c.loop-row-test.true) in
    c.loop-row.invariant r n (rw (output_lines_step (div_ceil (length bytes) 32) c.loop-row.row bytes in_range) (then_writes c.in_ok-put_output_line.ensures later))

pub returns : goal.returns
returns g c =
    let bytes = g.D.Device.means.output_of (g.D.Device.state c.args.device.now) in
    let past : div_ceil (length bytes) 32 ≤ c.loop-row.row = rw (← c.output_len.ensures) (rw (← c.div_ceil-row-end.ensures) (omega (arith, c.loop-row-test.false))) in
    c.loop-row.invariant true _ (rw (no_output_lines (div_ceil (length bytes) 32) c.loop-row.row (drop (c.loop-row.row * 32) bytes) past) (writes_nothing _))
