use Rattle.std.proofs.Common.{arith}
use Rattle.mem_text.proofs.Digits.{is_address}
use Rattle.mem_text.proofs.moves.longer_number.Goals as goal

pub overflow_mul-result : goal.overflow_mul-result
overflow_mul-result c = omega (arith, is_address c.args.digits c.args.value c.args.digit (omega arith) c.requires.short.1 c.requires.small)

pub overflow_add-result-2 : goal.overflow_add-result-2
overflow_add-result-2 c = omega (arith, is_address c.args.digits c.args.value c.args.digit (omega arith) c.requires.short.1 c.requires.small)
