use Rattle.std.proofs.Common.{◌≡◌, ◌≤◌, min, drop}
use Rattle.chain_time.specs.Looping.{lowest}
use Rattle.chain_time.proofs.looping.lowest.Given as goal

-- the least so far with what is left is the least of all
abbrev pub invariant-loop-i : goal.invariant-loop-i
invariant-loop-i l = (min l.least (lowest (drop l.i l.list)) ≡ lowest l.list) × (l.least ≤ 255)
