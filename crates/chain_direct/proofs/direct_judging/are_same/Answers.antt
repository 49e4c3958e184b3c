use Rattle.std.proofs.Common.{sym, ◌∙◌}
use Rattle.chain_direct.proofs.SameRegisters.{same_none, same_more, same_stops}
use Rattle.chain_direct.proofs.direct_judging.are_same.Goals as goal

pub loop-r-init : goal.loop-r-init
loop-r-init c = same_none c.args.kept.now c.args.registers.now

pub returns-then-not-is_same : goal.returns-then-not-is_same
returns-then-not-is_same c = sym (same_stops c.args.kept.now c.args.registers.now 32 c.loop-r.r c.loop-r-test.true (sym c.is_same.ensures ∙ c.if-not-is_same.true))

pub loop-r-preserved : goal.loop-r-preserved
loop-r-preserved c = same_more c.args.kept.now c.args.registers.now c.loop-r.r (sym c.is_same.ensures ∙ c.if-not-is_same.false) c.loop-r.invariant
