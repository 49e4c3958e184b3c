use Rattle.std.proofs.Common.{◌≡◌, ◌+◌, ◌-◌}
use Rattle.chain_moves.specs.Bytes.{marked}
use Rattle.chain_moves.proofs.dead.mark.Given as goal

abbrev pub invariant-loop-i : goal.invariant-loop-i
invariant-loop-i l = marked l.dead (l.k + l.i) (l.count - l.i) l.is_dead ≡ marked l.fn.dead l.k l.count l.is_dead
