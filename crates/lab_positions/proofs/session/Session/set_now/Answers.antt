use Rattle.std.proofs.Common.{sym, subst}
use Rattle.lab_positions.specs.Places.{SessionState, IsReached}
use Rattle.lab_positions.proofs.session.Session.set_now.Goals as goal

pub invariant_of-self : goal.invariant_of-self
invariant_of-self g c = record {
  first = c.self.invariant.first;
  latest = subst (λ (v : SessionState). IsReached g.D.Device.means v.timing v.events v.base c.args.place) (sym c.self.view_is) c.requires;
  between = c.self.invariant.between;
}
