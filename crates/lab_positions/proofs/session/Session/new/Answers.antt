use Rattle.std.proofs.Common.{[], ap, ap₂, ◌∙◌}
use Rattle.lab_positions.specs.Places.{PlaceState, IsReached}
use Rattle.lab_positions.specs.declared.until.Until.TheVariants.{Never}
use Rattle.lab_positions.proofs.Times.{bare_same, reached_base, reached_copy, none_all}
use Rattle.lab_positions.proofs.session.Session.new.Goals as goal

pub invariant_of-result : goal.invariant_of-result
invariant_of-result g c =
    let m = g.D.Device.means in
    let b = c.start-base.result in
    let first = reached_base m c.args.timing c.args.events b c.start-base.ensures.time (c.start-base.ensures.kept ∙ c.requires.bare) in
    record {
      first = first;
      latest = reached_copy m c.args.timing c.args.events b.position b c.in_ok-place.place c.in_ok-place.ensures first;
      between = none_all (IsReached m c.args.timing c.args.events b.position) c.no_rungs.result.items c.no_rungs.ensures;
    }

pub returns : goal.returns
returns g c =
    let b = c.start-base.result in
    let there = c.start-base.ensures.position in
    let now = ap (λ (p : PlaceState). p.position) (c.in_ok-place.ensures ∙ bare_same b (c.start-base.ensures.kept ∙ c.requires.bare)) ∙ there in
    rw c.new.ensures (ap₂ (λ x y. record { events = c.args.events; timing = c.args.timing; search = record { breaks = []; watches = []; until = Never }; base = x; here = y }) there now)
