use Rattle.std.proofs.Common.{◌≡◌, ◌+◌, sym, ap, ◌∙◌, arith}
use Rattle.hart_board.specs.State.{State}
use Rattle.hart_board.specs.Event.{with_events}
use Rattle.hart_board.specs.Step.{Turn}
use Rattle.hart_board.proofs.Runs.{goes, every_begins, every_run_begins, every_stands_on, every_run_goes_on}
use Rattle.hart_board.proofs.Shapes.{events_have, both_have, step_has}
use Rattle.hart_board.proofs.running.advance_quietly.Goals as goal

pub loop-steps-init : goal.loop-steps-init
loop-steps-init g c =
    let m = g.D.Device.means in
    let es = c.args.events.now.list in
    record {
      shape = c.requires ∙ sym (ap (λ (s : State). s.outside.clic.shape) c.take_due-ahead.ensures.board ∙ events_have m 0 es c.args.board.now);
      ahead = c.take_due-ahead.ensures.ahead;
      passed = c.take_due-ahead.ensures.passed;
      stand = every_begins m es c.args.board.now c.take_due-ahead.new.board c.take_due-ahead.ensures.board;
      run = every_run_begins m es c.args.bound c.args.board.now c.take_due-ahead.new.board c.take_due-ahead.ensures.board;
    }

pub loop-steps-preserved : goal.loop-steps-preserved
loop-steps-preserved g c =
    let m = g.D.Device.means in
    let es = c.args.events.now.list in
    let s = c.args.board.now in
    let k = c.loop-steps.steps in
    let b = c.loop-steps.board in
    let t = c.step-told.new.self in
    let told = c.step-told.result in
    let i = c.loop-steps.invariant in
    let new = c.take_events.new.board in
    let taken : new ≡ with_events m (k + 1) es t = c.take_events.ensures.board ∙ sym (i.passed (k + 1) t (omega arith)) in
    record {
      shape = i.shape ∙ sym (both_have m (k + 1) es b new (record { told = told; state = t }) c.step-told.ensures taken);
      ahead = c.take_events.ensures.ahead;
      passed = λ d u l. i.passed d u (omega (arith, l)) ∙ c.take_events.ensures.passed d u l;
      stand = every_stands_on m es k s b t new told c.step-told.ensures i.stand taken;
      run = every_run_goes_on m es k s b t new told c.step-told.ensures i.stand c.args.bound taken c.loop-steps-test.true (sym c.in_default.ensures) (goes told c.in_default-told.not-VectorFault) i.run;
    }

pub take_events-requires-clause-shape : goal.take_events-requires-clause-shape
take_events-requires-clause-shape g c =
    let m = g.D.Device.means in
    c.loop-steps.invariant.shape ∙ sym (ap (λ (t : Turn). t.state.outside.clic.shape) c.step-told.ensures ∙ step_has m c.loop-steps.board)
