use Rattle.std.proofs.Common.{◌≡◌, ◌<◌, ◌≤◌, ◌^◌, drop}
use Rattle.asm_text.specs.Numbers.{digits_after}
use Rattle.lab_trace.proofs.reading.number_of.Given as goal

-- so many digits make so great a number, with which the others go on
abbrev pub invariant-loop-byte : goal.invariant-loop-byte
invariant-loop-byte l = (l.value < 16 ^ l.byte-index) × (l.byte-index ≤ 8) × (digits_after 16 l.value (drop l.byte-index l.digits) ≡ digits_after 16 0 l.digits)
