use Rattle.std.proofs.Common.{◌+◌, ◌^◌, ◌<◌, sym, ap, subst, ◌∙◌}
use Rattle.hart_board.specs.Step.{Turn, step}
use Rattle.lab_positions.specs.Position.{next}
use Rattle.lab_positions.specs.Places.{PlaceState, IsOnTime}
use Rattle.lab_positions.proofs.Times.{next_made, missing_stays, time_stepped}
use Rattle.lab_positions.proofs.place.Place.step.Goals as goal

pub returns-in-VectorFault-clause-position : goal.returns-in-VectorFault-clause-position
returns-in-VectorFault-clause-position g c =
    let m = g.D.Device.means in
    let s = c.self.inside in
    missing_stays m c.args.timing c.args.events.now.list (record { steps = s.steps; fresh = s.fresh; stand = record { count = s.count; board = s.board } }) c.step-told.new.self c.step-told.result c.in-VectorFault.field-0 c.step-told.ensures c.in-VectorFault.is
    ∙ ap (λ (p : PlaceState). next m c.args.timing c.args.events.now.list p.position) c.self.view_is

pub returns-in-VectorFault-clause-time : goal.returns-in-VectorFault-clause-time
returns-in-VectorFault-clause-time g c =
    let m = g.D.Device.means in
    time_stepped m c.args.events.now _ c.step-told.new.self c.step-told.result c.step-told.ensures (subst (λ (p : PlaceState). IsOnTime m c.args.events.now p) (sym c.self.view_is) c.requires.time)

pub returns-in-VectorFault-clause-kept : goal.returns-in-VectorFault-clause-kept
returns-in-VectorFault-clause-kept g c =
    ap (λ (t : Turn). t.state.kept) c.step-told.ensures ∙ c.kept_states_stay.ensures.step c.self.inside.board ∙ ap (λ (p : PlaceState). p.position.stand.board.kept) c.self.view_is

pub settle-requires : goal.settle-requires
settle-requires g c =
    let m = g.D.Device.means in
    record {
      room = subst (λ (p : PlaceState). p.position.steps + 1 < 2 ^ 64) (sym c.self.view_is) c.requires.room;
      time = time_stepped m c.args.events.now _ c.step-told.new.self c.step-told.result c.step-told.ensures (subst (λ (p : PlaceState). IsOnTime m c.args.events.now p) (sym c.self.view_is) c.requires.time);
    }

pub returns : goal.returns
returns g c =
    let m = g.D.Device.means in
    let s = c.self.inside in
    record {
      told = ap (λ (t : Turn). t.told) c.step-told.ensures ∙ ap (λ (p : PlaceState). (step m p.position.stand.board).told) c.self.view_is;
      position =
          c.settle.ensures.position
          ∙ sym (next_made m c.args.timing c.args.events.now.list (record { steps = s.steps; fresh = s.fresh; stand = record { count = s.count; board = s.board } }) (record { told = c.step-told.result; state = c.step-told.new.self }) c.step-told.ensures c.in_default.not-VectorFault)
          ∙ ap (λ (p : PlaceState). next m c.args.timing c.args.events.now.list p.position) c.self.view_is;
      time = c.settle.ensures.time;
      kept = c.settle.ensures.kept ∙ ap (λ (t : Turn). t.state.kept) c.step-told.ensures ∙ c.kept_states_stay.ensures.step s.board ∙ ap (λ (p : PlaceState). p.position.stand.board.kept) c.self.view_is;
    }
