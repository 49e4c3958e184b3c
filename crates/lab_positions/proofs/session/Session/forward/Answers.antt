use Rattle.std.proofs.Common.{sym, ap, ◌∙◌}
use Rattle.lab_positions.specs.Forward.{forward}
use Rattle.lab_positions.specs.Places.{SessionState}
use Rattle.lab_positions.proofs.Forwards.{forward_runs}
use Rattle.lab_positions.proofs.session.Session.forward.Goals as goal

pub invariant_of-self : goal.invariant_of-self
invariant_of-self g c =
    let i = c.self.invariant in
    let base = c.self.inside.base.position in
    record {
      first = i.first;
      latest = c.go_forward.ensures.reached base i.latest;
      between = c.go_forward.ensures.rungs base i.latest i.between;
    }

pub returns-clause-stop : goal.returns-clause-stop
returns-clause-stop g c =
    let m = g.D.Device.means in
    let s = c.self.inside in
    c.go_forward.ensures.stop
    ∙ forward_runs m s.timing s.events.list s.sought c.args.most c.room-left.result s.place.position c.room-left.ensures.exact (sym c.in_default.ensures)
    ∙ ap (λ (v : SessionState). forward m v.timing v.events.list v.search c.args.most v.here) c.self.view_is
