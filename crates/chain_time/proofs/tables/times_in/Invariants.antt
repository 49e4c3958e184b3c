use Rattle.std.proofs.Common.{◌≡◌, map, take}
use Rattle.chain_time.specs.Table.{timed}
use Rattle.chain_time.proofs.tables.times_in.Given as goal

-- the rows of the triples so far
abbrev pub invariant-loop-i : goal.invariant-loop-i
invariant-loop-i l = l.times ≡ map (λ q. timed l.code.present.rom l.table q) (take l.i l.triples)
