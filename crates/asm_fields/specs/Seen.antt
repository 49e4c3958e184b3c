-- The code's operands, as the definitions see them.
use Rattle.std.specs.Prelude.{Option, Some, None}
use Rattle.asm_fields.specs.declared.number.Number.{Number as CodeNumber}
use Rattle.asm_fields.specs.declared.number.Number.TheVariants.{Given as CodeGiven, Absolute as CodeAbsolute, Near as CodeNear, NearLabel as CodeNearLabel}
use Rattle.asm_fields.specs.declared.operands.Operands.{Operands as CodeOperands}
use Rattle.asm_fields.specs.Operands.{Operands, Number, Given, Absolute, Near, NearLabel}

abbrev pub seen_number : CodeNumber → Number
seen_number (CodeGiven v) = Given v
seen_number (CodeAbsolute t) = Absolute t.now
seen_number (CodeNear a) = Near a
seen_number (CodeNearLabel t) = NearLabel t.now

abbrev pub seen : CodeOperands → Operands
seen o = record { rd = o.rd; rs1 = o.rs1; rs2 = o.rs2; csr = o.csr; amount = o.amount; number = seen_number o.number }

abbrev pub seen_number_option : Option CodeNumber → Option Number
seen_number_option None = None
seen_number_option (Some n) = Some (seen_number n)

abbrev pub seen_option : Option CodeOperands → Option Operands
seen_option None = None
seen_option (Some o) = Some (seen o)
