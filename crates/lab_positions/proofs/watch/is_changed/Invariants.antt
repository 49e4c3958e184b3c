use Rattle.std.proofs.Common.{◌≡◌, ◌+◌, ◌-◌}
use Rattle.lab_positions.specs.Watching.{differ}
use Rattle.lab_positions.proofs.watch.is_changed.Given as goal

-- the bytes that are left tell of all
abbrev pub invariant-loop-k : goal.invariant-loop-k
invariant-loop-k l = differ l.before.present l.after.present (l.watch.at + l.k) (l.watch.len - l.k) ≡ differ l.before.present l.after.present l.watch.at l.watch.len
