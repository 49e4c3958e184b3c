use Rattle.std.proofs.Common.{◌≡◌, take}
use Rattle.lab_sweep.proofs.moving.others.Given as goal

-- the events so far
abbrev pub invariant-loop-k : goal.invariant-loop-k
invariant-loop-k l = l.all.items ≡ take l.k l.events.list
