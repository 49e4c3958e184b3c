use Rattle.std.proofs.Common.{◌≡◌, ℕ, ◌+◌, ◌*◌, ◌<◌, length}
use Rattle.clic_select.specs.Tree.{node, waiting}
use Rattle.clic_select.proofs.tree.fill_leaves.Given as goal

-- the leaves so far have their inputs
abbrev pub invariant-loop-i : goal.invariant-loop-i
invariant-loop-i l = record {
  size : length l.nodes ≡ 2 * l.inputs;
  leaves : (j : ℕ) → j < l.i → node l.nodes (l.inputs + j) ≡ waiting l.clic j;
}
