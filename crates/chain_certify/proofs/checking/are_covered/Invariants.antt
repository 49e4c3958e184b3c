use Rattle.std.proofs.Common.{◌≡◌, drop}
use Rattle.chain_certify.specs.Check.{are_covered}
use Rattle.chain_certify.proofs.checking.are_covered.Given as goal

-- what is left gives what all gives
abbrev pub invariant-loop-i : goal.invariant-loop-i
invariant-loop-i l = are_covered l.nodes (drop l.i l.hints) (drop l.i l.next) ≡ are_covered l.nodes l.hints l.next
