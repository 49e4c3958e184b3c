use Rattle.std.proofs.Common.{sym, ap, subst, ◌∙◌, arith}
use Rattle.hart_board.specs.State.{State}
use Rattle.hart_board.proofs.Shapes.{events_have}
use Rattle.lab_positions.specs.Places.{PlaceState, IsOnTime}
use Rattle.lab_positions.proofs.place.Place.settle.Goals as goal

pub returns-then-self-clause-time : goal.returns-then-self-clause-time
returns-then-self-clause-time g c =
    let m = g.D.Device.means in
    let before = subst (λ (p : PlaceState). IsOnTime m c.args.events.now p) (sym c.self.view_is) c.requires.time in
    record {
      shape = before.shape ∙ sym (ap (λ (s : State). s.outside.clic.shape) c.take_events.ensures.board ∙ events_have m _ _ c.self.inside.board);
      ahead = c.take_events.ensures.ahead;
      passed = λ count s l. before.passed count s (omega (arith, l)) ∙ c.take_events.ensures.passed count s l;
      few = omega (arith, before.few);
    }
