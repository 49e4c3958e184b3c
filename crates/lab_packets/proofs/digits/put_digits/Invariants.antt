use Rattle.std.proofs.Common.{◌≡◌, ◌++◌, drop}
use Rattle.lab_packets.specs.Digits.{bytes_digits}
use Rattle.lab_packets.proofs.digits.put_digits.Given as goal

abbrev pub invariant-loop-byte : goal.invariant-loop-byte
invariant-loop-byte l = l.text ++ bytes_digits (drop l.byte-index l.bytes) ≡ l.initial.text ++ bytes_digits l.bytes
