use Rattle.std.proofs.Common.{◌≡◌, drop}
use Rattle.asm_fields.specs.Fields.{has_dot}
use Rattle.asm_fields.proofs.reading.has_dot.Given as goal

abbrev pub invariant-loop-b : goal.invariant-loop-b
invariant-loop-b l = has_dot (drop l.b-index l.b-items) ≡ has_dot l.b-items
