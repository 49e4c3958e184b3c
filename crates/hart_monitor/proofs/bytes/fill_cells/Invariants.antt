use Rattle.std.proofs.Common.{◌≡◌, ◌+◌, ◌-◌, ◌*◌, ◌++◌, length}
use Rattle.hart_monitor.specs.Bytes.{cells}
use Rattle.hart_monitor.proofs.bytes.fill_cells.Given as goal

-- the line with the bytes that are left is the line with all of them
abbrev pub invariant-loop-k : goal.invariant-loop-k
invariant-loop-k l = record {
  text : l.line ++ cells l.banks.present (l.count - l.k) (l.at + l.k) ≡ l.fn.line ++ cells l.banks.present l.count l.at;
  len : length l.line ≡ length l.fn.line + 2 * l.k;
}
