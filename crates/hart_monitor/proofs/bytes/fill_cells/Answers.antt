use Rattle.std.proofs.Common.{◌∙◌, sym, arith}
use Rattle.hart_monitor.proofs.Rows.{cells_step, no_cells}
use Rattle.hart_monitor.proofs.bytes.fill_cells.Goals as goal

pub loop-k-preserved : goal.loop-k-preserved
loop-k-preserved c = record {
  text = rw c.put_cell.ensures.bytes (cells_step c.loop-k.line c.args.banks.now.present c.args.count c.args.at c.loop-k.k c.loop-k-test.true) ∙ c.loop-k.invariant.text;
  len = omega (arith, c.put_cell.ensures.len, c.loop-k.invariant.len);
}

pub returns-clause-bytes : goal.returns-clause-bytes
returns-clause-bytes c = sym (no_cells c.loop-k.line c.args.banks.now.present c.args.count c.args.at c.loop-k.k (omega (arith, c.loop-k-test.false))) ∙ c.loop-k.invariant.text
