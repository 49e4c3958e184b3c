use Rattle.std.proofs.Common.{◌≡◌, ◌+◌, ◌-◌, ◌≤◌, take, drop}
use Rattle.hart_memory.specs.declared.address_map.TheConstants.{RAM_BASE}
use Rattle.hart_report.specs.Contents.{is_shown}
use Rattle.hart_report.proofs.contents.has_content.Given as goal

-- the bytes that are left decide
abbrev pub invariant-loop-k : goal.invariant-loop-k
invariant-loop-k g l =
    let dead = g.X.DeadBytes.dead l.dead in
    record {
      from : l.start ≤ l.k;
      shown : is_shown dead (RAM_BASE + l.k) (take (l.start + 16 - l.k) (drop l.k l.banks.present.ram)) ≡ is_shown dead (RAM_BASE + l.start) (take 16 (drop l.start l.banks.present.ram));
    }
