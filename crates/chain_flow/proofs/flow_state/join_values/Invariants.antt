use Rattle.std.proofs.Common.{◌≡◌, length}
use Rattle.chain_flow.specs.Flow.{joined_values}
use Rattle.chain_flow.proofs.Joins.{joined_so_far}
use Rattle.chain_flow.proofs.flow_state.join_values.Given as goal

abbrev pub invariant-loop-i : goal.invariant-loop-i
invariant-loop-i l = (length l.values ≡ 32) × (joined_so_far l.values l.others l.i ≡ joined_values l.fn.values l.others)
