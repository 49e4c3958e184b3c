use Rattle.std.proofs.Common.{◌≡◌, ◌-◌, ap, subst, ◌∙◌, arith}
use Rattle.lab_positions.specs.Position.{after}
use Rattle.lab_positions.specs.Places.{SessionState, IsReached, position_at}
use Rattle.lab_positions.proofs.Times.{further}
use Rattle.lab_positions.proofs.session.Session.place_at.Goals as goal

pub go-requires : goal.go-requires
go-requires g c =
    let s = c.self.inside in
    let r = c.in_ok-place.ensures.reached s.timing s.events s.base.position c.self.invariant.first c.self.invariant.between in
    record { room = omega (arith, c.in_ok-place.ensures.before, c.steps.ensures, c.ranges.steps.fits); time = r.time }

pub returns : goal.returns
returns g c =
    let m = g.D.Device.means in
    let s = c.self.inside in
    let p = c.in_ok-place.place in
    let q = c.go.new.place in
    let r = c.in_ok-place.ensures.reached s.timing s.events s.base.position c.self.invariant.first c.self.invariant.between in
    record {
      position = subst (λ (v : SessionState). q.position ≡ position_at m v.timing v.events.list v.base c.args.steps) c.self.view_is (further m s.timing s.events.list s.base.position p.position q.position c.args.steps r.from c.in_ok-place.ensures.before (c.go.ensures.position ∙ ap (λ n. after m s.timing s.events.list p.position (c.args.steps - n)) c.steps.ensures));
      reached = subst (λ (v : SessionState). IsReached m v.timing v.events v.base q) c.self.view_is (c.go.ensures.reached s.base.position r);
    }
