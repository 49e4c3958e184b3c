use Rattle.std.proofs.Common.{Bool, drop}
use Rattle.board_outside.specs.Sink.{SinkView, Writes}
use Rattle.lab_check.specs.Lines.{answer_lines}
use Rattle.lab_check.proofs.lines.put_lines.Given as goal

-- whatever becomes of the lines that are left becomes of all lines
abbrev pub invariant-loop-i : goal.invariant-loop-i
invariant-loop-i g l =
    let told = g.W.Sink.told in
    (r : Bool) (n : SinkView) → Writes r (told l.out) n (answer_lines l.names l.code.present.rom l.table (drop l.i l.pairs) (drop l.i l.answers)) → Writes r (told l.fn.out) n (answer_lines l.names l.code.present.rom l.table l.pairs l.answers)
