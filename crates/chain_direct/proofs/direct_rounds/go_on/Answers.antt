use Rattle.std.proofs.Common.{nat_le, refl, ap, subst}
use Rattle.std.specs.Prelude.{List, Bool}
use Rattle.chain_moves.specs.Cost.{body_cost}
use Rattle.chain_core.specs.Progress.{progress_of}
use Rattle.chain_core.specs.Rounds.{IsMade}
use Rattle.chain_moves.specs.Watched.{Watched}
use Rattle.chain_core.proofs.Told.{nothing_told, nothing_revived}
use Rattle.chain_direct.specs.DirectRounds.{round_direct_body}
use Rattle.chain_direct.proofs.direct_rounds.go_on.Goals as goal

pub returns-in-Refused-clause-made : goal.returns-in-Refused-clause-made
returns-in-Refused-clause-made g c = rw c.in-Refused.is (record { round = refl; tells = nothing_told g.D.Device.means c.args.events.now.list c.args.trace _ _ })

pub returns-in-Plain-clause-made : goal.returns-in-Plain-clause-made
returns-in-Plain-clause-made g c =
    let m = g.D.Device.means in
    let es = c.args.events.now.list in
    let p = progress_of c.args.board.now c.args.course.now in
    let made = c.carry_out.new in
    rw c.in-Plain.is
    (subst (λ (dead : List Bool). IsMade m es c.args.trace c.args.left (round_direct_body m es c.args.left p c.args.watch.now (nat_le body_cost c.args.left) dead) c.carry_out.result p (progress_of made.board made.course) made.watch (g.W.Sink.told c.args.out.now) (g.W.Sink.told made.out))
    (ap (λ (w : Watched). w.dead) (nothing_revived c.args.watch.now.chained)) c.carry_out.ensures.made)
