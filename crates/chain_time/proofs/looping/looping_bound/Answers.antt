use Rattle.std.proofs.Common.{arith}
use Rattle.chain_time.proofs.Lows.{next_time, time_end}
use Rattle.chain_time.proofs.looping.looping_bound.Goals as goal

pub loop-i-preserved : goal.loop-i-preserved
loop-i-preserved c =
    let small = c.loop-i.invariant.1 in
    let one = c.all_of-sum.ensures.small in
    (next_time c.args.list.now c.args.low c.loop-i.i c.loop-i.sum c.all_of-sum.result _ c.all_of-sum.ensures.value c.loop-i-test.true c.loop-i.invariant.0, omega arith)

pub returns-clause-value : goal.returns-clause-value
returns-clause-value c = let e = time_end c.args.list.now c.args.low c.loop-i.i c.loop-i-test.false in let h = c.loop-i.invariant.0 in omega arith
