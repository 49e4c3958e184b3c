use Rattle.std.proofs.Common.{◌≡◌, max, drop}
use Rattle.chain_lint.specs.Bound.{level_cost}
use Rattle.chain_lint.proofs.bound.level_cost.Given as goal

-- the greatest so far with what is left gives what all gives
abbrev pub invariant-loop-used : goal.invariant-loop-used
invariant-loop-used l = max l.cost (level_cost (drop l.used-index l.list) l.level) ≡ level_cost l.fn.list l.fn.level
