use Rattle.std.proofs.Common.{sym, ap, ◌∙◌}
use Rattle.hart_report.proofs.Texts.{same_text}
use Rattle.hart_board.specs.Step.{Turn}
use Rattle.hart_board.proofs.Shapes.{step_has}
use Rattle.chain_core.proofs.Told.{one_told, gone_turn, next_turn}
use Rattle.chain_core.proofs.stepping.make_step.Goals as goal

pub settle-requires-clause-course : goal.settle-requires-clause-course
settle-requires-clause-course g c = record {
  shape = c.requires.course.shape ∙ sym (ap (λ (t : Turn). t.state.outside.clic.shape) c.step-told.ensures ∙ step_has g.D.Device.means c.args.board.now);
  ahead = c.requires.course.ahead;
  passed = c.requires.course.passed;
}

pub returns-clause-tells : goal.returns-clause-tells
returns-clause-tells g c =
    let m = g.D.Device.means in
    let es = c.args.events.now.list in
    one_told m es c.args.trace _ _ _ _ _ (c.settle.ensures.progress c.args.board.now ∙ gone_turn m es _ _ c.step-told.ensures) (same_text (next_turn m es c.args.trace _ _ c.step-told.ensures) c.settle.ensures.text)
