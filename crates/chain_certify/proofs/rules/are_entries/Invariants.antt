use Rattle.std.proofs.Common.{◌≡◌, true}
use Rattle.chain_certify.specs.Rules.{are_entries}
use Rattle.chain_certify.proofs.rules.are_entries.Given as goal

abbrev pub invariant-loop-r : goal.invariant-loop-r
invariant-loop-r l = are_entries l.flow.values l.r ≡ true
