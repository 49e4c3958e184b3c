use Rattle.std.proofs.Common.{◌≡◌, ◌-◌, ◌<◌, true, false, arith}
use Rattle.board_outside.proofs.Writing.{then_writes, stops_writing, writes_nothing}
use Rattle.hart_report.proofs.Texts.{register_lines_step, no_register_lines, stopped}
use Rattle.hart_report.proofs.hart.put_registers.Goals as goal

pub returns-in_err-put_register : goal.returns-in_err-put_register
returns-in_err-put_register g c =
    let in_range : c.loop-i.i < 32 = c.loop-i-test.true in
    stopped c.from_residual.result c.from_residual.ensures.0
    (c.loop-i.invariant false _ (rw (register_lines_step c.loop-i.i c.args.registers.now in_range, ← c.get.ensures.value) (stops_writing _ c.in_err-put_register.ensures)))

pub loop-i-preserved : goal.loop-i-preserved
loop-i-preserved g c r n later =
    let in_range : c.loop-i.i < 32 = c.loop-i-test.true in
    c.loop-i.invariant r n (rw (register_lines_step c.loop-i.i c.args.registers.now in_range, ← c.get.ensures.value) (then_writes c.in_ok-put_register.ensures later))

pub returns : goal.returns
returns g c =
    let none : 32 - c.loop-i.i ≡ 0 = omega arith in
    c.loop-i.invariant true _ (rw (no_register_lines c.loop-i.i c.args.registers.now none) (writes_nothing _))
