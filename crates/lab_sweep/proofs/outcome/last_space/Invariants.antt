use Rattle.std.proofs.Common.{◌≡◌, ◌≤◌, ℕ, List, length, drop}
use Rattle.lab_sweep.specs.Outcome.{last_space}
use Rattle.lab_sweep.proofs.outcome.last_space.Given as goal

pub record Sought (line : List ℕ) (last at : ℕ) : Type 0 where
  pub is : last_space last at (drop at line) ≡ last_space 0 0 line
  pub inside : last ≤ length line

abbrev pub invariant-loop-at : goal.invariant-loop-at
invariant-loop-at l = Sought l.line l.last l.at
