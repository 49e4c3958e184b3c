use Rattle.std.proofs.Common.{◌≡◌, map, take}
use Rattle.chain_time.specs.Table.{pair_of}
use Rattle.chain_time.proofs.tables.pairs_in.Given as goal

-- the pairs of the triples so far
abbrev pub invariant-loop-triple : goal.invariant-loop-triple
invariant-loop-triple l = l.pairs ≡ map (λ q. pair_of q) (take l.triple-index l.triples)
