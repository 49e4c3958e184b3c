use Rattle.std.proofs.Common.{◌≡◌, ◌<◌, ◌^◌, drop}
use Rattle.asm_text.specs.Numbers.{digits_after}
use Rattle.asm_text.proofs.number.digits_in.Given as goal

abbrev pub invariant-loop-c : goal.invariant-loop-c
invariant-loop-c l = record { small : l.value < 2 ^ 32; same : digits_after l.base l.value (drop l.c-index l.digits) ≡ digits_after l.base 0 l.digits }
