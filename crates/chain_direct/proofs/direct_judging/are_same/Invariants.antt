use Rattle.std.proofs.Common.{◌≡◌, true}
use Rattle.chain_direct.specs.DirectBody.{are_same}
use Rattle.chain_direct.proofs.direct_judging.are_same.Given as goal

abbrev pub invariant-loop-r : goal.invariant-loop-r
invariant-loop-r l = are_same l.kept l.registers l.r ≡ true
