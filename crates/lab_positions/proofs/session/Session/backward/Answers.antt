use Rattle.std.proofs.Common.{◌-◌, min, ap, ap₂, ◌∙◌}
use Rattle.std.specs.Prelude.{◌==◌}
use Rattle.lab_positions.specs.Forward.{stopped}
use Rattle.lab_positions.specs.Places.{SessionState}
use Rattle.lab_positions.proofs.Backwards.{back_later, back_stands}
use Rattle.lab_positions.proofs.session.Session.backward.Goals as goal

pub go_back-requires-clause-found : goal.go_back-requires-clause-found
go_back-requires-clause-found g c =
    let s = c.args.self.now in
    let way = c.least-way.result in
    back_later g.D.Device.means s.timing s.events.list s.search s.base (c.steps-now.result - way) way c.in_ok-found.found c.in_ok-found.ensures

pub returns-clause-stop : goal.returns-clause-stop
returns-clause-stop g c =
    let s = c.args.self.now in
    let way = c.least-way.result in
    ap₂ stopped c.in_ok-why.ensures.why (ap (λ (v : SessionState). v.here) c.in_ok-why.ensures.position)
    ∙ back_stands g.D.Device.means s.timing s.events.list s.search s.base (c.steps-now.result - way) way c.in_ok-found.found c.in_ok-found.ensures c.args.most s.here
    (way == c.steps-now.result - c.first.result)
    (c.least-way.ensures.exact ∙ ap₂ (λ a b. min c.args.most (a - b)) c.steps-now.ensures c.first.ensures)
    (ap (λ a. a - way) c.steps-now.ensures)
    (ap₂ (λ a b. way == a - b) c.steps-now.ensures c.first.ensures)
