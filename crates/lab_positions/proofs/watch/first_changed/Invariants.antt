use Rattle.std.proofs.Common.{◌≡◌, drop}
use Rattle.lab_positions.specs.Watching.{first_changed}
use Rattle.lab_positions.proofs.watch.first_changed.Given as goal

-- the watches that are left tell of all
abbrev pub invariant-loop-i : goal.invariant-loop-i
invariant-loop-i l = first_changed l.before.present l.after.present (drop l.i l.watches) ≡ first_changed l.before.present l.after.present l.watches
