use Rattle.std.proofs.Common.{◌≡◌, drop, max}
use Rattle.chain_certify.specs.Check.{deepest}
use Rattle.chain_certify.proofs.checking.deepest.Given as goal

-- the greatest so far with what is left gives what all gives
abbrev pub invariant-loop-i : goal.invariant-loop-i
invariant-loop-i l = max l.greatest (deepest (drop l.i l.nodes)) ≡ deepest l.nodes
