use Rattle.std.proofs.Common.{◌≡◌, ◌+◌, ◌*◌, ◌^◌, ◌≤◌, drop}
use Rattle.chain_time.specs.Looping.{looping_time}
use Rattle.chain_time.proofs.looping.looping_bound.Given as goal

-- the sum so far with what is left is the whole
abbrev pub invariant-loop-i : goal.invariant-loop-i
invariant-loop-i l = (l.sum + looping_time l.low (drop l.i l.list) ≡ looping_time l.low l.list) × (l.sum ≤ l.i * 2 ^ 33)
