use Rattle.std.proofs.Common.{◌≡◌, [], drop}
use Rattle.std.specs.List.{All}
use Rattle.chain_lint.specs.Bound.{IsUse}
use Rattle.chain_search.specs.Tables.{uses_from}
use Rattle.chain_search.proofs.bounding.bound_told.Given as goal

-- the pairs that are left, after these uses, give what all give
abbrev pub invariant-loop-i : goal.invariant-loop-i
invariant-loop-i l = (uses_from l.list.items (drop l.i l.pairs) (drop l.i l.answers) ≡ uses_from [] l.pairs l.answers) × All IsUse l.list.items
