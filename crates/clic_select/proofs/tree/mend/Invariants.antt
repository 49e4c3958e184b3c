use Rattle.std.proofs.Common.{◌≡◌, ℕ, ◌+◌, ◌-◌, ◌*◌, ◌<◌, ◌≤◌, ◌≢◌, length}
use Rattle.clic_select.specs.Tree.{node, IsWinner, binary_digits}
use Rattle.clic_select.proofs.tree.mend.Given as goal

-- all nodes but the one that comes next are winners
abbrev pub invariant-loop-k : goal.invariant-loop-k
invariant-loop-k g l = record {
  size : length l.nodes ≡ 2 * l.inputs;
  within : l.k < l.inputs;
  others : (j : ℕ) → 1 ≤ j → j < l.inputs → j ≢ l.k → IsWinner l.nodes j;
  leaves : (j : ℕ) → l.inputs ≤ j → node l.nodes j ≡ node l.fn.nodes j;
  counts : l.fn.steps ≤ l.steps;
  cost : l.steps + binary_digits l.k ≤ l.fn.steps + binary_digits (l.inputs - 1);
}

abbrev pub decreases-loop-k : goal.decreases-loop-k
decreases-loop-k g l = l.k
