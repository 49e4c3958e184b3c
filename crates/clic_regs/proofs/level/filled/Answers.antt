use Rattle.std.proofs.Common.{◌≡◌, ◌*◌, ◌-◌, ◌%◌, ◌^◌, ◌<◌, arith}
use Rattle.clic_regs.proofs.Levels.{unit_small, filled_small}
use Rattle.clic_regs.proofs.level.filled.Goals as goal

pub overflow_cast-result : goal.overflow_cast-result
overflow_cast-result c =
    let unit : 1 * 2 ^ (8 - c.args.upper) % 65536 ≡ 2 ^ (8 - c.args.upper) = omega (arith, unit_small c.args.upper c.requires) in
    let small : c.from-byte.result < 256 = omega arith in
    rw unit (omega (arith, filled_small c.args.upper c.from-byte.result c.requires small))
