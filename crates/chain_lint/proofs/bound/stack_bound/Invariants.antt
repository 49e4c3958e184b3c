use Rattle.std.proofs.Common.{◌≡◌}
use Rattle.chain_lint.specs.Bound.{bound_below}
use Rattle.chain_lint.proofs.bound.stack_bound.Given as goal

abbrev pub invariant-loop-level : goal.invariant-loop-level
invariant-loop-level l = l.sum ≡ bound_below l.list l.level
