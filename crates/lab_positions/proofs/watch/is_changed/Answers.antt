use Rattle.std.proofs.Common.{sym, ◌∙◌}
use Rattle.std.proofs.lemmas.Bool.{not-true, not-false}
use Rattle.lab_positions.proofs.Watches.{differ_here, differ_on}
use Rattle.lab_positions.proofs.watch.is_changed.Goals as goal

pub returns-then-is_other_at : goal.returns-then-is_other_at
returns-then-is_other_at c =
    sym (differ_here c.args.before.now.present c.args.after.now.present c.args.watch.at c.args.watch.len c.loop-k.k c.loop-k-test.true (not-true _ (sym c.is_other_at.ensures ∙ c.if-is_other_at.true)))
    ∙ c.loop-k.invariant

pub loop-k-preserved : goal.loop-k-preserved
loop-k-preserved c =
    sym (differ_on c.args.before.now.present c.args.after.now.present c.args.watch.at c.args.watch.len c.loop-k.k c.loop-k-test.true (not-false _ (sym c.is_other_at.ensures ∙ c.if-is_other_at.false)))
    ∙ c.loop-k.invariant
