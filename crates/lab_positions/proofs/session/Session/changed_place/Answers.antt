use Rattle.std.proofs.Common.{sym, ap, subst, ◌∙◌}
use Rattle.std.specs.Prelude.{IsTrue}
use Rattle.lab_positions.specs.Position.{Position}
use Rattle.lab_positions.specs.Changes.{is_change, changed, with_board}
use Rattle.lab_positions.specs.Places.{PlaceState, SessionState, IsOnTime}
use Rattle.lab_positions.proofs.Times.{bare_same, time_changed, changed_kept}
use Rattle.lab_positions.proofs.session.Session.changed_place.Goals as goal

pub change-requires : goal.change-requires
change-requires g c =
    let here = ap (λ (p : PlaceState). p.position) (c.in_ok-place.ensures ∙ bare_same c.self.inside.place c.self.invariant.latest.bare) ∙ ap (λ (v : SessionState). v.here) c.self.view_is in
    subst (λ (p : Position). IsTrue (is_change p.stand.board.outside.clic.shape.inputs c.args.change.now)) (sym here) c.requires

pub returns : goal.returns
returns g c =
    let m = g.D.Device.means in
    let p = c.in_ok-place.place in
    let q = c.change.new.self in
    let same = c.in_ok-place.ensures ∙ bare_same c.self.inside.place c.self.invariant.latest.bare in
    let here = ap (λ (p : PlaceState). p.position) same ∙ ap (λ (v : SessionState). v.here) c.self.view_is in
    let time = subst (λ (x : PlaceState). IsOnTime m c.self.inside.events x) (sym same) c.self.invariant.latest.time in
    record {
      position = ap (λ (x : PlaceState). x.position) c.change.ensures ∙ ap (λ (x : Position). with_board x (changed m x.stand.board c.args.change.now)) here;
      time = subst (λ (v : SessionState). IsOnTime m v.events q) c.self.view_is (time_changed m c.self.inside.events p q c.args.change.now c.change.ensures time);
      bare = ap (λ (x : PlaceState). x.position.stand.board.kept) c.change.ensures ∙ changed_kept m p.position.stand.board c.args.change.now ∙ ap (λ (x : PlaceState). x.position.stand.board.kept) c.in_ok-place.ensures;
    }
