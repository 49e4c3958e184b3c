use Rattle.std.proofs.Common.{arith}
use Rattle.lab_names.proofs.Digits.{word_fits}
use Rattle.lab_names.proofs.names_reading.number_of.Goals as goal

pub overflow_mul-value : goal.overflow_mul-value
overflow_mul-value c = omega (arith, word_fits c.loop-byte.byte-index c.loop-byte.value c.loop-byte.invariant.1 c.loop-byte.invariant.0)

pub overflow_add-value : goal.overflow_add-value
overflow_add-value c = omega (arith, c.in-Some.ensures.value, c.from-in-loop-byte.ensures, word_fits c.loop-byte.byte-index c.loop-byte.value c.loop-byte.invariant.1 c.loop-byte.invariant.0)
