use Rattle.std.proofs.Common.{◌≡◌, take}
use Rattle.lab_sweep.proofs.moving.in_order.Given as goal

-- the events so far
abbrev pub invariant-loop-k : goal.invariant-loop-k
invariant-loop-k l = l.events ≡ record { shape = l.fn.shape; list = take l.k l.list }
