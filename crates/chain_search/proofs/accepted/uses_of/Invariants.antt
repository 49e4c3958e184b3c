use Rattle.std.proofs.Common.{◌≡◌, drop}
use Rattle.chain_search.specs.Tables.{uses_in}
use Rattle.chain_search.proofs.accepted.uses_of.Given as goal

-- what is left gives what all gives
abbrev pub invariant-loop-handler : goal.invariant-loop-handler
invariant-loop-handler l = uses_in l.accepted l.at ≡ uses_in (drop l.handler-index l.accepted) l.at
