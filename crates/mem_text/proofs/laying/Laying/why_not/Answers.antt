use Rattle.std.proofs.Common.{arith}
use Rattle.mem_text.proofs.Places.{place_is_near}
use Rattle.mem_text.proofs.laying.Laying.why_not.Goals as goal

pub overflow_cast-place : goal.overflow_cast-place
overflow_cast-place c = omega (arith, place_is_near _ c.self.invariant, c.len-2.ensures)

pub overflow_add-place : goal.overflow_add-place
overflow_add-place c = omega (arith, place_is_near _ c.self.invariant, c.len-2.ensures)
