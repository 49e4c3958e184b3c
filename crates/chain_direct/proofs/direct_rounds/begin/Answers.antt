use Rattle.std.proofs.Common.{sym, ◌∙◌}
use Rattle.chain_core.specs.Progress.{progress_of}
use Rattle.chain_direct.proofs.RoundsTold.{refused_told}
use Rattle.chain_direct.proofs.direct_rounds.begin.Goals as goal

pub returns-in-Some-clause-tells : goal.returns-in-Some-clause-tells
returns-in-Some-clause-tells g c =
    let p = progress_of c.args.board.now c.args.course.now in
    let o = g.W.Sink.told c.args.out.now in
    refused_told g.D.Device.means c.args.events.now.list c.args.trace p p o o o c.args.left c.args.top c.args.watch.now _ _ (sym c.test_begin.ensures ∙ c.in-Some.is)
