use Rattle.std.proofs.Common.{◌≡◌, ◌++◌}
use Rattle.hart_memory.specs.Memory.{zeros}
use Rattle.asm_forms.proofs.bytes.push_zeros.Given as goal

abbrev pub invariant-loop : goal.invariant-loop
invariant-loop l = l.bytes.items ≡ l.initial.bytes.items ++ zeros l.counter
