use Rattle.std.proofs.Common.{Bool, drop}
use Rattle.board_outside.specs.Sink.{SinkView, Writes}
use Rattle.lab_sweep.specs.Texts.{rows_text}
use Rattle.lab_sweep.proofs.telling.put_outcomes.Given as goal

-- whatever becomes of the lines that are left becomes of all lines
abbrev pub invariant-loop-i : goal.invariant-loop-i
invariant-loop-i g l =
    let told = g.W.Sink.told in
    (r : Bool) (n : SinkView) → Writes r (told l.out) n (rows_text (drop l.i l.outcomes)) → Writes r (told l.fn.out) n (rows_text l.outcomes)
