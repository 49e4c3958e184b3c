use Rattle.std.proofs.Common.{◌+◌, sym, ◌∙◌, arith}
use Rattle.hart_memory.specs.declared.address_map.TheConstants.{RAM_BASE}
use Rattle.hart_report.proofs.Rows.{shown_byte, shown_dead, not_shown, is_shown_none}
use Rattle.hart_report.proofs.contents.has_content.Goals as goal

pub returns-then-ram_byte-ne0 : goal.returns-then-ram_byte-ne0
returns-then-ram_byte-ne0 g c =
    sym (shown_byte (g.X.DeadBytes.dead c.args.dead.now) c.args.banks.now.present.ram (RAM_BASE + c.loop-k.k) c.loop-k.k (c.args.start + 16) c.ram_byte.result c.ram_byte.ensures c.loop-k-test.true c.if-ram_byte-ne0.true)
    ∙ c.loop-k.invariant.shown

pub returns-then-is_dead : goal.returns-then-is_dead
returns-then-is_dead g c =
    sym (shown_dead (g.X.DeadBytes.dead c.args.dead.now) c.args.banks.now.present.ram (RAM_BASE + c.loop-k.k) c.loop-k.k (c.args.start + 16) c.ram_byte.result c.ram_byte.ensures c.loop-k-test.true (sym c.is_dead.ensures ∙ c.if-is_dead.true))
    ∙ c.loop-k.invariant.shown

pub loop-k-preserved : goal.loop-k-preserved
loop-k-preserved g c = record {
  from = omega (arith, c.loop-k.invariant.from);
  shown = sym (not_shown (g.X.DeadBytes.dead c.args.dead.now) c.args.banks.now.present.ram RAM_BASE c.loop-k.k (c.args.start + 16) c.ram_byte.result c.ram_byte.ensures c.loop-k-test.true (omega (arith, c.if-ram_byte-ne0.false)) (sym c.is_dead.ensures ∙ c.if-is_dead.false))
      ∙ c.loop-k.invariant.shown;
}

pub returns : goal.returns
returns g c =
    sym (is_shown_none (g.X.DeadBytes.dead c.args.dead.now) c.args.banks.now.present.ram (RAM_BASE + c.loop-k.k) c.loop-k.k (c.args.start + 16) (omega (arith, c.loop-k-test.false)))
    ∙ c.loop-k.invariant.shown
