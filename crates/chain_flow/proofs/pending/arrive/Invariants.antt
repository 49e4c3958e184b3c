use Rattle.std.proofs.Common.{◌≡◌}
use Rattle.chain_flow.specs.Walk.{arrived}
use Rattle.chain_flow.proofs.Arrivals.{arrived_past}
use Rattle.chain_flow.proofs.pending.arrive.Given as goal

abbrev pub invariant-loop-i : goal.invariant-loop-i
invariant-loop-i l = arrived_past l.at l.flow l.pending.items l.i ≡ arrived l.fn.at l.fn.flow l.fn.pending.items
