use Rattle.std.proofs.Common.{ap, ◌∙◌, ◌++◌, ◌∷◌, []}
use Rattle.lab_sweep.proofs.InOrder.{take_one_more}
use Rattle.lab_sweep.proofs.moving.others.Goals as goal

pub loop-k-preserved : goal.loop-k-preserved
loop-k-preserved c = c.in_ok-push.ensures.items ∙ ap (λ l. l ++ c.get.result ∷ []) c.loop-k.invariant ∙ take_one_more c.loop-k.k c.args.events.now.list c.get.result c.get.ensures.event
