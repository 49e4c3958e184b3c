use Rattle.std.proofs.Common.{◌≡◌, [], length}
use Rattle.lab_packets.specs.Digits.{bytes_behind}
use Rattle.lab_packets.proofs.digits.bytes_of.Given as goal

abbrev pub invariant-loop-rest : goal.invariant-loop-rest
invariant-loop-rest l = bytes_behind l.bytes l.rest ≡ bytes_behind [] l.digits

abbrev pub decreases-loop-rest : goal.decreases-loop-rest
decreases-loop-rest l = length l.rest
