use Rattle.std.proofs.Common.{◌≡◌, true}
use Rattle.chain_moves.specs.Tests.{are_kept}
use Rattle.chain_moves.proofs.kept.keeps.Given as goal

abbrev pub invariant-loop-r : goal.invariant-loop-r
invariant-loop-r l = are_kept l.kept l.registers l.r ≡ true
