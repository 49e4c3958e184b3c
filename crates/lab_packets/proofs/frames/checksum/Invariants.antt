use Rattle.std.proofs.Common.{◌≡◌, drop}
use Rattle.lab_packets.specs.Frames.{summed}
use Rattle.lab_packets.proofs.frames.checksum.Given as goal

abbrev pub invariant-loop-byte : goal.invariant-loop-byte
invariant-loop-byte l = summed l.sum (drop l.byte-index l.bytes) ≡ summed 0 l.bytes
