use Rattle.lab_sweep.proofs.InOrder.{front_before, free_at}
use Rattle.lab_sweep.proofs.moving.in_order.Goals as goal

pub push-requires-clause-order : goal.push-requires-clause-order
push-requires-clause-order c = rw c.loop-k.invariant (front_before c.args.shape.inputs 0 c.loop-k.k c.args.list.now _ c.loop-k-test.true c.requires)

pub push-requires-clause-free : goal.push-requires-clause-free
push-requires-clause-free c = rw c.loop-k.invariant (free_at c.args.shape.inputs 0 c.loop-k.k c.args.list.now _ c.loop-k-test.true c.requires)
