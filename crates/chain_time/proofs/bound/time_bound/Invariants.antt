use Rattle.std.proofs.Common.{◌≡◌, ◌+◌, ◌*◌, ◌^◌, ◌≤◌, drop}
use Rattle.chain_time.specs.Counts.{time_of}
use Rattle.chain_time.proofs.bound.time_bound.Given as goal

-- the sum so far with what is left is the whole
abbrev pub invariant-loop-i : goal.invariant-loop-i
invariant-loop-i l = (l.sum + time_of (drop l.i l.list) l.level ≡ time_of l.list l.level) × (l.sum ≤ l.i * 2 ^ 33)
