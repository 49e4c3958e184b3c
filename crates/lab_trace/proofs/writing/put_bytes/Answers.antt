use Rattle.std.proofs.Common.{◌≤◌, length, true, false, arith}
use Rattle.board_outside.proofs.Writing.{then_writes, stops_writing, writes_nothing}
use Rattle.hart_report.proofs.Texts.{stopped}
use Rattle.lab_trace.proofs.Parts.{byte_left, none_left}
use Rattle.lab_trace.proofs.writing.put_bytes.Goals as goal

pub returns-in_err-put_byte : goal.returns-in_err-put_byte
returns-in_err-put_byte g c =
    stopped c.from_residual.result c.from_residual.ensures.0
    (c.loop-i.invariant false _ (rw (byte_left c.loop-i.i c.args.bytes.now c.loop-i-test.true) (stops_writing _ c.in_err-put_byte.ensures)))

pub loop-i-preserved : goal.loop-i-preserved
loop-i-preserved g c r n later = c.loop-i.invariant r n (rw (byte_left c.loop-i.i c.args.bytes.now c.loop-i-test.true) (then_writes c.in_ok-put_byte.ensures later))

pub returns : goal.returns
returns g c =
    let none : length c.args.bytes.now ≤ c.loop-i.i = omega (arith, c.loop-i-test.false) in
    c.loop-i.invariant true _ (rw (none_left c.loop-i.i c.args.bytes.now none) (writes_nothing _))
