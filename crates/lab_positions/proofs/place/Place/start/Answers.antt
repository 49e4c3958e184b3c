use Rattle.std.proofs.Common.{sym, ap, ◌∙◌, arith}
use Rattle.hart_board.specs.State.{State}
use Rattle.hart_board.proofs.Shapes.{events_have}
use Rattle.lab_positions.proofs.place.Place.start.Goals as goal

pub returns-clause-time : goal.returns-clause-time
returns-clause-time g c = record {
  shape = c.requires.shape ∙ sym (ap (λ (s : State). s.outside.clic.shape) c.take_due-ahead.ensures.board ∙ events_have g.D.Device.means 0 c.args.events.now.list c.args.board);
  ahead = c.take_due-ahead.ensures.ahead;
  passed = c.take_due-ahead.ensures.passed;
  few = omega arith;
}
