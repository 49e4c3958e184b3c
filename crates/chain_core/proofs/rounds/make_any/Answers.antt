use Rattle.std.proofs.Common.{sym, ap, ◌∙◌, subst}
use Rattle.chain_core.specs.Progress.{progress_of}
use Rattle.chain_moves.specs.Watched.{Watched}
use Rattle.chain_core.specs.Rounds.{Rounded, round_due, IsMade}
use Rattle.chain_moves.proofs.Opened.{body_turn}
use Rattle.chain_core.proofs.rounds.make_any.Goals as goal

pub returns-then-is_body_due-clause-made : goal.returns-then-is_body_due-clause-made
returns-then-is_body_due-clause-made g c =
    let m = g.D.Device.means in
    let es = c.args.events.now.list in
    let w = c.args.watch.now in
    let p = progress_of c.args.board.now c.args.course.now in
    let turn = body_turn c.args.d c.args.board.now w (sym c.is_body_due.ensures ∙ c.if-is_body_due.true) in
    let made = c.body.new in
    subst (λ (due : Rounded Watched). IsMade m es c.args.trace c.args.left due c.body.result p (progress_of made.board made.course) made.watch (g.W.Sink.told c.args.out.now) (g.W.Sink.told made.out))
    (sym (ap (round_due m es c.args.left p w) turn)) c.body.ensures.made
