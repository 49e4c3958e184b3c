use Rattle.std.proofs.Common.{◌≡◌, ◌+◌, ◌-◌}
use Rattle.chain_moves.specs.Bytes.{some_byte, is_hidden}
use Rattle.chain_moves.proofs.dead.hides_each.Given as goal

abbrev pub invariant-loop-i : goal.invariant-loop-i
invariant-loop-i l = some_byte (is_hidden l.dead) (l.at + l.i) (l.count - l.i) ≡ some_byte (is_hidden l.dead) l.at l.count
