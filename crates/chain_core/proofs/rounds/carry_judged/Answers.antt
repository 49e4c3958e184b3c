use Rattle.std.proofs.Common.{Ok, refl, sym, ap, ◌∙◌, subst}
use Rattle.board_outside.specs.declared.sink.SinkFault.{SinkFault}
use Rattle.chain_core.specs.Progress.{progress_of}
use Rattle.chain_moves.specs.Ready.{verdict_of}
use Rattle.chain_moves.specs.Watched.{Watched}
use Rattle.chain_core.specs.Rounds.{Rounded, round_verdict, IsMade}
use Rattle.chain_moves.specs.declared.verdict.Verdict.{Verdict}
use Rattle.chain_core.specs.declared.round.Round.TheVariants.{Failed}
use Rattle.chain_core.proofs.Told.{nothing_told, body_rounded}
use Rattle.chain_core.proofs.rounds.carry_judged.Goals as goal

pub returns-in-Ok-clause-made : goal.returns-in-Ok-clause-made
returns-in-Ok-clause-made g c =
    let m = g.D.Device.means in
    let es = c.args.events.now.list in
    let p = progress_of c.args.board.now c.args.course.now in
    let made = c.carry_out.new in
    subst (λ (due : Rounded Watched). IsMade m es c.args.trace c.args.left due c.carry_out.result p (progress_of made.board made.course) made.watch (g.W.Sink.told c.args.out.now) (g.W.Sink.told made.out))
    (body_rounded m es c.args.left p c.args.watch.now c.in-Ok.prepared.effect _ (sym (ap verdict_of c.in-Ok.is) ∙ c.requires.verdict)) c.carry_out.ensures.made

pub returns-in-Err-clause-made : goal.returns-in-Err-clause-made
returns-in-Err-clause-made g c =
    let m = g.D.Device.means in
    let es = c.args.events.now.list in
    let p = progress_of c.args.board.now c.args.course.now in
    let o = g.W.Sink.told c.args.out.now in
    subst (λ (v : Verdict). IsMade {E = SinkFault} m es c.args.trace c.args.left (round_verdict m es c.args.left p c.args.watch.now v) (Ok (Failed c.in-Err.kind 0)) p p c.args.watch.now o o)
    (sym (ap verdict_of c.in-Err.is) ∙ c.requires.verdict) (record { round = refl; tells = nothing_told m es c.args.trace p o })
