use Rattle.std.proofs.Common.{◌≡◌, ◌+◌, ◌-◌}
use Rattle.chain_moves.specs.Bytes.{some_byte, is_dead_at}
use Rattle.chain_moves.proofs.dead.some_dead.Given as goal

abbrev pub invariant-loop-i : goal.invariant-loop-i
invariant-loop-i l = some_byte (is_dead_at l.dead) (l.k + l.i) (l.count - l.i) ≡ some_byte (is_dead_at l.dead) l.k l.count
