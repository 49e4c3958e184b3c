use Rattle.std.proofs.Common.{◌≤◌, length, true, false, arith}
use Rattle.board_outside.proofs.Writing.{then_writes, stops_writing, writes_nothing}
use Rattle.hart_report.proofs.Texts.{stopped}
use Rattle.lab_sweep.proofs.Told.{row_left, none_left}
use Rattle.lab_sweep.proofs.telling.put_outcomes.Goals as goal

pub returns-in_err-put_row : goal.returns-in_err-put_row
returns-in_err-put_row g c =
    stopped c.from_residual.result c.from_residual.ensures.0
    (c.loop-i.invariant false _ (rw (row_left _ c.loop-i.i c.args.outcomes.now c.row.ensures) (stops_writing _ c.in_err-put_row.ensures)))

pub loop-i-preserved : goal.loop-i-preserved
loop-i-preserved g c r n later = c.loop-i.invariant r n (rw (row_left _ c.loop-i.i c.args.outcomes.now c.row.ensures) (then_writes c.in_ok-put_row.ensures later))

pub returns : goal.returns
returns g c =
    let none : length c.args.outcomes.now ≤ c.loop-i.i = omega (arith, c.loop-i-test.false, c.len-i-end.ensures) in
    c.loop-i.invariant true _ (rw (none_left c.loop-i.i c.args.outcomes.now none) (writes_nothing _))
