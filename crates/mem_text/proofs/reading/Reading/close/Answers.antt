use Rattle.std.proofs.Common.{arith, subst}
use Rattle.mem_text.specs.Moves.{IsShort}
use Rattle.mem_text.proofs.Digits.{is_byte}
use Rattle.mem_text.proofs.reading.Reading.close.Goals as goal

pub overflow_cast-value : goal.overflow_cast-value
overflow_cast-value c =
    let short = subst IsShort c.in-Number.is c.self.invariant.short in
    omega (arith, is_byte c.in-Number.digits c.in-Number.value short.0 short.1)
