use Rattle.std.proofs.Common.{◌≡◌, drop}
use Rattle.chain_certify.specs.Flow.{are_below}
use Rattle.chain_certify.proofs.flow_state.are_below.Given as goal

-- what is left gives what all gives
abbrev pub invariant-loop-i : goal.invariant-loop-i
invariant-loop-i l = are_below (drop l.i l.values) (drop l.i l.others) ≡ are_below l.values l.others
