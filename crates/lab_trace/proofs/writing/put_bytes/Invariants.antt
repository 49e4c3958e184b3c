use Rattle.std.proofs.Common.{Bool, drop}
use Rattle.board_outside.specs.Sink.{SinkView, Writes}
use Rattle.lab_trace.specs.Added.{spelled}
use Rattle.lab_trace.proofs.writing.put_bytes.Given as goal

-- whatever becomes of the bytes that are left becomes of all
abbrev pub invariant-loop-i : goal.invariant-loop-i
invariant-loop-i g l =
    let told = g.W.Sink.told in
    (r : Bool) (n : SinkView) → Writes r (told l.out) n (spelled (drop l.i l.bytes)) → Writes r (told l.fn.out) n (spelled l.bytes)
