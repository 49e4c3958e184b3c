use Rattle.std.proofs.Common.{sym, ◌∙◌}
use Rattle.chain_core.specs.Progress.{progress_of}
use Rattle.chain_direct.proofs.RoundsTold.{serving_made}
use Rattle.chain_direct.proofs.direct_rounds.serve.Goals as goal

pub returns-in-Some-clause-made : goal.returns-in-Some-clause-made
returns-in-Some-clause-made g c =
    let p = progress_of c.args.board.now c.args.course.now in
    let o = g.W.Sink.told c.args.out.now in
    serving_made g.D.Device.means c.args.events.now.list c.args.trace p p o o o c.args.left c.args.watch.now c.args.kept.now _ _ (sym c.halted.ensures ∙ c.in-Some.is)
