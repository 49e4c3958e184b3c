use Rattle.std.proofs.Common.{sym, ◌∙◌}
use Rattle.chain_moves.proofs.Loops.{marked_more, marked_none}
use Rattle.chain_moves.proofs.dead.mark.Goals as goal

pub loop-i-preserved : goal.loop-i-preserved
loop-i-preserved c = sym (marked_more c.loop-i.dead c.args.k c.args.count c.loop-i.i c.args.is_dead c.loop-i-test.true) ∙ c.loop-i.invariant

pub returns : goal.returns
returns c = sym (marked_none c.loop-i.dead c.args.k c.args.count c.loop-i.i c.args.is_dead c.loop-i-test.false) ∙ c.loop-i.invariant
