use Rattle.std.proofs.Common.{◌-◌, Bool}
use Rattle.board_outside.specs.Sink.{SinkView, Writes}
use Rattle.hart_report.specs.Hart.{register_lines}
use Rattle.hart_report.proofs.hart.put_registers.Given as goal

-- whatever becomes of the lines that are left becomes of all lines
abbrev pub invariant-loop-i : goal.invariant-loop-i
invariant-loop-i g l =
    let told = g.W.Sink.told in
    (r : Bool) (n : SinkView) → Writes r (told l.out) n (register_lines (32 - l.i) l.i l.registers)
    → Writes r (told l.fn.out) n (register_lines 31 1 l.registers)
