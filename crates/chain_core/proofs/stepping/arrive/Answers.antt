use Rattle.std.proofs.Common.{sym, ap, ◌∙◌, arith}
use Rattle.hart_board.specs.State.{State}
use Rattle.hart_board.proofs.Shapes.{events_have}
use Rattle.chain_core.proofs.Told.{events_hart}
use Rattle.chain_core.proofs.stepping.arrive.Goals as goal

pub returns-then-is_body-clause-course : goal.returns-then-is_body-clause-course
returns-then-is_body-clause-course g c = record {
  shape = c.requires.course.shape ∙ sym (ap (λ (t : State). t.outside.clic.shape) c.take_events.ensures.board ∙ events_have g.D.Device.means _ _ c.args.board.now);
  ahead = c.take_events.ensures.ahead;
  passed = λ count s l. c.requires.course.passed count s (omega (arith, l)) ∙ c.take_events.ensures.passed count s l;
}

pub returns-then-is_body-clause-hart : goal.returns-then-is_body-clause-hart
returns-then-is_body-clause-hart g c =
    let m = g.D.Device.means in
    let h = events_hart m _ _ c.args.board.now in
    let e = c.take_events.ensures.board in
    (ap (λ (t : State). t.csrs) e ∙ h.csrs, ap (λ (t : State). t.pc) e ∙ h.pc, ap (λ (t : State). t.registers) e ∙ h.registers)
