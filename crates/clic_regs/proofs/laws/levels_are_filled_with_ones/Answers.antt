use Rattle.clic_regs.proofs.Levels.{level_upper, filled_lower, filled_small, priority_rest}
use Rattle.clic_regs.proofs.laws.levels_are_filled_with_ones.Goals as goal

pub returns : goal.returns
returns c = record { upper = level_upper; lower = filled_lower; small = filled_small; rest = priority_rest }
