use Rattle.chain_core.specs.Chain.{StopsInSteps}
use Rattle.chain_core.proofs.Closed.{closed_end, closed_text, closed_stopped, closed_there}
use Rattle.chain_core.proofs.ChainEnds.{never_failed, services_from, goes_from, state_from, stops_by, kept_after, stopped_text}
use Rattle.chain_core.proofs.chaining.chain.Goals as goal

pub returns-clause-end : goal.returns-clause-end
returns-clause-end g c = closed_end g.D.Device.means _ _ _ _ _ _ _ _ _ _ c.advance-rounds.result c.advance-rounds.ensures.ended c.close.ensures

pub returns-clause-text : goal.returns-clause-text
returns-clause-text g c =
    let m = g.D.Device.means in
    closed_text m _ _ _ _ _ _ _ _ _ _ (never_failed g.met.D.Device.sound c.args.bound c.can_start.ensures) _ c.advance-rounds.result c.advance-rounds.ensures.ended c.advance-rounds.ensures.stopped (λ s. stopped_text _ s) c.close.ensures

pub returns-clause-stopped : goal.returns-clause-stopped
returns-clause-stopped g c =
    let m = g.D.Device.means in
    let es = c.args.events.now.list in
    let o = g.W.Sink.told c.args.out.now in
    let board = c.advance-rounds.new.board in
    λ failed.
    stops_by m es c.args.dispatcher c.args.trace c.args.bound c.args.board.now board o _
    (closed_stopped m _ _ _ _ _ _ _ _ _ _ (never_failed g.met.D.Device.sound c.args.bound c.can_start.ensures) (StopsInSteps m es c.args.dispatcher c.args.trace c.args.bound c.args.board.now board o) c.advance-rounds.result c.advance-rounds.ensures.ended c.advance-rounds.ensures.stopped c.close.ensures failed)

pub returns-clause-services : goal.returns-clause-services
returns-clause-services g c = services_from g.met.D.Device.sound c.args.bound c.can_start.ensures

pub returns-clause-goes : goal.returns-clause-goes
returns-clause-goes g c = goes_from g.met.D.Device.sound c.args.bound c.can_start.ensures

pub returns-clause-state : goal.returns-clause-state
returns-clause-state g c = state_from g.met.D.Device.sound c.args.bound c.can_start.ensures

pub returns-clause-kept : goal.returns-clause-kept
returns-clause-kept g c =
    let kept = kept_after g.D.Device.means c.args.events.now.list c.args.board.now c.advance-rounds.new.board in
    let step = c.kept_states_stay.ensures.step in
    closed_there g.D.Device.means _ _ _ _ _ _ _ _ _ c.advance-rounds.result c.advance-rounds.ensures.ended c.advance-rounds.ensures.stopped (kept _ step) (λ s. kept _ step s.board)
