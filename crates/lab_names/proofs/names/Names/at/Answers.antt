use Rattle.std.proofs.Common.{◌∙◌, ap, option_map, Some}
use Rattle.lab_names.specs.Table.{name_at}
use Rattle.lab_names.proofs.Entries.{look_up}
use Rattle.lab_names.proofs.names.Names.at.Goals as goal

pub returns-in-Some : goal.returns-in-Some
returns-in-Some c = ap Some c.deref.ensures.value ∙ ap (option_map (λ v. v.items)) c.in-Some.ensures.value ∙ look_up c.self.inside.table.entries c.args.address ∙ ap (name_at c.args.address) c.self.view_is

pub returns-in-None : goal.returns-in-None
returns-in-None c = ap (option_map (λ v. v.items)) c.in-None.ensures.value ∙ look_up c.self.inside.table.entries c.args.address ∙ ap (name_at c.args.address) c.self.view_is
