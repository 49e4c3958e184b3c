use Rattle.std.proofs.Common.{◌≡◌, ◌-◌, [], length}
use Rattle.chain_time.specs.Triples.{most_triples, triples_from}
use Rattle.chain_time.proofs.triple_reading.read_triples.Given as goal

-- there are so many triples, and reading on from here gives what reading from the start gives
abbrev pub invariant-loop : goal.invariant-loop
invariant-loop l = (length l.triples ≡ l.counter) × (triples_from (most_triples - l.counter) l.triples l.rest ≡ triples_from most_triples [] l.fn.word)
