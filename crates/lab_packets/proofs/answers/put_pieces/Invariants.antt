use Rattle.std.proofs.Common.{◌≡◌, ◌++◌, length}
use Rattle.lab_packets.specs.Answers.{console_pieces}
use Rattle.lab_packets.proofs.answers.put_pieces.Given as goal

abbrev pub invariant-loop-rest : goal.invariant-loop-rest
invariant-loop-rest l = l.text ++ console_pieces (length l.rest) l.size l.rest ≡ l.initial.text ++ console_pieces (length l.bytes) l.size l.bytes

abbrev pub decreases-loop-rest : goal.decreases-loop-rest
decreases-loop-rest l = length l.rest
