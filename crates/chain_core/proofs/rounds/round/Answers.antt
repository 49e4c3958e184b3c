use Rattle.std.proofs.Common.{sym, ◌∙◌, subst}
use Rattle.chain_core.specs.Progress.{progress_of}
use Rattle.chain_moves.specs.Watched.{Watched}
use Rattle.chain_core.specs.Rounds.{Rounded, IsMade}
use Rattle.chain_moves.proofs.Opened.{body_turn}
use Rattle.chain_core.proofs.Told.{halted_made, body_runs}
use Rattle.chain_core.proofs.rounds.round.Goals as goal

pub returns-in-Some-clause-made : goal.returns-in-Some-clause-made
returns-in-Some-clause-made g c = halted_made g.D.Device.means c.args.events.now.list c.args.trace c.args.d c.args.left _ c.args.watch.now _ _ _ (sym c.halted.ensures ∙ c.in-Some.is) c.halt.ensures

pub returns-in-Some-known-clause-made : goal.returns-in-Some-known-clause-made
returns-in-Some-known-clause-made g c =
    let m = g.D.Device.means in
    let es = c.args.events.now.list in
    let w = c.args.watch.now in
    let p = progress_of c.args.board.now c.args.course.now in
    let turn = body_turn c.args.d c.args.board.now w (c.is_open_body.ensures.due c.if-is_open_body.true) in
    let made = c.carry_tested.new in
    subst (λ (due : Rounded Watched). IsMade m es c.args.trace c.args.left due c.carry_tested.result p (progress_of made.board made.course) made.watch (g.W.Sink.told c.args.out.now) (g.W.Sink.told made.out))
    (body_runs m es c.args.d c.args.left p w _ (sym c.halted.ensures ∙ c.in-None.is) turn) c.carry_tested.ensures.made
