use Rattle.std.proofs.Common.{Ok, refl, sym, ap, ◌∙◌, subst}
use Rattle.board_outside.specs.declared.sink.SinkFault.{SinkFault}
use Rattle.chain_core.specs.Progress.{progress_of}
use Rattle.chain_moves.specs.Judge.{refused_or}
use Rattle.chain_moves.specs.Ready.{verdict_by}
use Rattle.chain_moves.specs.Watched.{Watched}
use Rattle.chain_core.specs.Rounds.{Rounded, round_verdict, IsMade}
use Rattle.chain_moves.specs.declared.verdict.Verdict.{Verdict}
use Rattle.chain_core.specs.declared.round.Round.TheVariants.{Failed}
use Rattle.chain_core.proofs.Told.{nothing_told, body_rounded}
use Rattle.chain_core.proofs.rounds.carry_tested.Goals as goal

pub returns-in-None-clause-made : goal.returns-in-None-clause-made
returns-in-None-clause-made g c =
    let m = g.D.Device.means in
    let es = c.args.events.now.list in
    let p = progress_of c.args.board.now c.args.course.now in
    let made = c.carry_out.new in
    subst (λ (due : Rounded Watched). IsMade m es c.args.trace c.args.left due c.carry_out.result p (progress_of made.board made.course) made.watch (g.W.Sink.told c.args.out.now) (g.W.Sink.told made.out))
    (body_rounded m es c.args.left p c.args.watch.now c.args.prepared.now.effect _ (sym (ap (λ o. refused_or o (verdict_by c.args.prepared.now.effect)) c.in-None.is) ∙ c.requires.verdict)) c.carry_out.ensures.made

pub returns-in-Some-clause-made : goal.returns-in-Some-clause-made
returns-in-Some-clause-made g c =
    let m = g.D.Device.means in
    let es = c.args.events.now.list in
    let p = progress_of c.args.board.now c.args.course.now in
    let o = g.W.Sink.told c.args.out.now in
    subst (λ (v : Verdict). IsMade {E = SinkFault} m es c.args.trace c.args.left (round_verdict m es c.args.left p c.args.watch.now v) (Ok (Failed c.in-Some.kind 0)) p p c.args.watch.now o o)
    (sym (ap (λ o. refused_or o (verdict_by c.args.prepared.now.effect)) c.in-Some.is) ∙ c.requires.verdict) (record { round = refl; tells = nothing_told m es c.args.trace p o })
