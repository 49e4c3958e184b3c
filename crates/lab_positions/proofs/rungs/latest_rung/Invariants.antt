use Rattle.std.proofs.Common.{◌≡◌, ◌<◌, ◌≤◌, length, Some}
use Rattle.std.specs.Prelude.{IfSome, slice_get}
use Rattle.lab_positions.specs.Places.{PlaceState}
use Rattle.lab_positions.proofs.rungs.latest_rung.Given as goal

-- the best so far is one of them, and not behind
abbrev pub invariant-loop-i : goal.invariant-loop-i
invariant-loop-i g l = IfSome l.best (λ i. (i < length l.rungs.items) × ((p : PlaceState) → slice_get l.rungs.items i ≡ Some p → p.position.steps ≤ l.steps))
