use Rattle.std.proofs.Common.{◌≡◌, ℕ, ◌<◌, ◌≤◌, false}
use Rattle.chain_moves.specs.Slot.{base, is_covered}
use Rattle.chain_moves.proofs.taken.slot_taken.Given as goal

abbrev pub invariant-loop-at : goal.invariant-loop-at
invariant-loop-at l = (k : ℕ) → base ≤ k → k < l.at → is_covered l.image.segments k ≡ false
