use Rattle.std.proofs.Common.{◌≡◌, ◌<◌, ◌^◌, drop}
use Rattle.asm_text.specs.Numbers.{digits_after}
use Rattle.lab_packets.proofs.numbers.digits_in.Given as goal

abbrev pub invariant-loop-byte : goal.invariant-loop-byte
invariant-loop-byte l = record { small : l.value < 2 ^ 32; same : digits_after l.base l.value (drop l.byte-index l.digits) ≡ digits_after l.base 0 l.digits }
