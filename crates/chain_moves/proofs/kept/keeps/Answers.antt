use Rattle.std.proofs.Common.{sym, ◌∙◌}
use Rattle.chain_moves.proofs.Loops.{kept_none, kept_more, kept_stops}
use Rattle.chain_moves.proofs.kept.keeps.Goals as goal

pub loop-r-init : goal.loop-r-init
loop-r-init c = kept_none c.args.kept.now c.args.registers.now

pub returns-then-not-is_same : goal.returns-then-not-is_same
returns-then-not-is_same c = sym (kept_stops c.args.kept.now c.args.registers.now 32 c.loop-r.r c.loop-r-test.true (sym c.is_same.ensures ∙ c.if-not-is_same.true))

pub loop-r-preserved : goal.loop-r-preserved
loop-r-preserved c = kept_more c.args.kept.now c.args.registers.now c.loop-r.r (sym c.is_same.ensures ∙ c.if-not-is_same.false) c.loop-r.invariant
