use Rattle.std.proofs.Common.{◌≡◌, arith, subst}
use Rattle.chain_lint.specs.Bound.{bound_below}
use Rattle.chain_lint.proofs.Loops.{sum_small, bound_small}
use Rattle.chain_lint.proofs.bound.stack_bound.Goals as goal

pub overflow_add-sum : goal.overflow_add-sum
overflow_add-sum c =
    let small = sum_small c.args.list.now c.loop-level.level c.requires in
    let cost = c.level_cost-sum.ensures.small in
    omega (arith, c.loop-level.invariant, small, cost, c.loop-level-test.true)

pub returns-clause-small : goal.returns-clause-small
returns-clause-small c =
    let whole = bound_small c.args.list.now 255 c.requires in
    let all : c.loop-level.level ≡ 256 = omega (arith, c.loop-level-test.false, c.loop-level.auto.level-end) in
    let is : c.loop-level.sum ≡ bound_below c.args.list.now 256 = subst (λ n. c.loop-level.sum ≡ bound_below c.args.list.now n) all c.loop-level.invariant in
    omega (arith, is, whole)
