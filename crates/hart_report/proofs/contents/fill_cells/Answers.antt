use Rattle.std.proofs.Common.{◌+◌, sym, ◌∙◌, arith}
use Rattle.hart_memory.specs.declared.address_map.TheConstants.{RAM_BASE}
use Rattle.hart_report.proofs.Rows.{cells_step, cells_none}
use Rattle.hart_report.proofs.contents.fill_cells.Goals as goal

pub loop-k-preserved : goal.loop-k-preserved
loop-k-preserved g c =
    let dead = g.X.DeadBytes.dead c.args.dead.now in
    record {
      from = omega (arith, c.loop-k.invariant.from);
      text = rw (c.put_cell.ensures.bytes, c.is_dead.ensures) (cells_step dead c.loop-k.line c.args.banks.now.present.ram RAM_BASE c.loop-k.k (c.args.start + 16) c.ram_byte.result c.ram_byte.ensures c.loop-k-test.true) ∙ c.loop-k.invariant.text;
      len = omega (arith, c.put_cell.ensures.len, c.loop-k.invariant.len, c.loop-k.invariant.from);
    }

pub returns-clause-bytes : goal.returns-clause-bytes
returns-clause-bytes g c =
    sym (cells_none (g.X.DeadBytes.dead c.args.dead.now) c.loop-k.line c.args.banks.now.present.ram (RAM_BASE + c.loop-k.k) c.loop-k.k (c.args.start + 16) (omega (arith, c.loop-k-test.false))) ∙ c.loop-k.invariant.text
