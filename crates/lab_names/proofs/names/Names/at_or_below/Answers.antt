use Rattle.std.proofs.Common.{◌∙◌, ◌-◌, sym, ap, Some}
use Rattle.lab_names.specs.Table.{at_or_below}
use Rattle.lab_names.proofs.Entries.{nearest_found, none_found}
use Rattle.lab_names.proofs.names.Names.at_or_below.Goals as goal

pub returns-in-Some : goal.returns-in-Some
returns-in-Some c =
    ap (λ name. Some (name, c.args.address - c.in-Some.at.now)) c.deref.ensures.value
    ∙ sym (nearest_found c.args.address c.self.inside.table.entries c.next_back.new.self (c.in-Some.at.now, c.in-Some.name.now) (sym (c.range.ensures.between tt) ∙ c.in-Some.ensures.steps))
    ∙ ap (at_or_below c.args.address) c.self.view_is

pub returns-in-None : goal.returns-in-None
returns-in-None c =
    sym (none_found c.args.address c.self.inside.table.entries (sym (c.range.ensures.between tt) ∙ c.in-None.ensures.steps.0))
    ∙ ap (at_or_below c.args.address) c.self.view_is
