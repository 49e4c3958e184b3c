use Rattle.std.proofs.Common.{rules}
use Rattle.clic_regs.proofs.Kept.{replicas-kept}
use Rattle.clic_regs.proofs.clic.Clic.new.Goals as goal

pub invariant_of-result : goal.invariant_of-result
invariant_of-result c = replicas-kept c.args.shape _ _ _ _ _ (search rules) (search rules) (search rules) (search rules) (search rules) (search rules)
