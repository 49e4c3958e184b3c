use Rattle.std.proofs.Common.{◌≡◌, ◌-◌, []}
use Rattle.chain_lint.specs.Pairs.{most_pairs, pairs_from}
use Rattle.chain_lint.proofs.pair_reading.read_pairs.Given as goal

-- reading on from here gives what reading from the start gives
abbrev pub invariant-loop : goal.invariant-loop
invariant-loop l = pairs_from (most_pairs - l.counter) l.pairs l.rest ≡ pairs_from most_pairs [] l.fn.word
