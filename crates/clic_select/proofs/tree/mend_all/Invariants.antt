use Rattle.std.proofs.Common.{◌≡◌, ℕ, ◌+◌, ◌-◌, ◌*◌, ◌<◌, ◌≤◌, length}
use Rattle.clic_select.specs.Tree.{node, IsWinner}
use Rattle.clic_select.proofs.tree.mend_all.Given as goal

-- the nodes so far are winners
abbrev pub invariant-loop-done : goal.invariant-loop-done
invariant-loop-done g l = record {
  some : 1 ≤ l.done;
  size : length l.nodes ≡ 2 * l.inputs;
  mended : (j : ℕ) → l.inputs - l.done < j → j < l.inputs → IsWinner l.nodes j;
  leaves : (j : ℕ) → l.inputs ≤ j → node l.nodes j ≡ node l.fn.nodes j;
  counts : l.fn.steps ≤ l.steps;
  cost : l.steps + 1 ≤ l.fn.steps + l.done;
}
