use Rattle.std.proofs.Common.{sym, subst, ◌∙◌}
use Rattle.lab_positions.specs.Places.{PlaceState, SessionState, IsOnTime, IsReached}
use Rattle.lab_positions.proofs.Times.{bare_same, reached_base, none_all}
use Rattle.lab_positions.proofs.session.Session.set_base.Goals as goal

pub invariant_of-self : goal.invariant_of-self
invariant_of-self g c =
    let m = g.D.Device.means in
    let s = c.self.inside in
    let p = c.args.place in
    let same = c.in_ok-base.ensures ∙ bare_same p c.requires.bare in
    let here = reached_base m s.timing s.events p (subst (λ (v : SessionState). IsOnTime m v.events p) (sym c.self.view_is) c.requires.time) c.requires.bare in
    record {
      first = subst (λ (b : PlaceState). IsReached m s.timing s.events b.position b) (sym same) here;
      latest = subst (λ (b : PlaceState). IsReached m s.timing s.events b.position p) (sym same) here;
      between = none_all (IsReached m s.timing s.events c.in_ok-base.base.position) c.no_rungs.result.items c.no_rungs.ensures;
    }
