use Rattle.std.proofs.Common.{◌≡◌, ◌+◌, ◌-◌, ◌*◌, ◌≤◌, ◌++◌, length, take, drop}
use Rattle.hart_memory.specs.declared.address_map.TheConstants.{RAM_BASE}
use Rattle.hart_report.specs.Contents.{cells}
use Rattle.hart_report.proofs.contents.fill_cells.Given as goal

-- the line with the cells that are left is the line with all cells
abbrev pub invariant-loop-k : goal.invariant-loop-k
invariant-loop-k g l =
    let dead = g.X.DeadBytes.dead l.dead in
    record {
      from : l.start ≤ l.k;
      text : l.line ++ cells dead (RAM_BASE + l.k) (take (l.start + 16 - l.k) (drop l.k l.banks.present.ram)) ≡ l.fn.line ++ cells dead (RAM_BASE + l.start) (take 16 (drop l.start l.banks.present.ram));
      len : length l.line ≡ length l.fn.line + 2 * (l.k - l.start);
    }
