use Rattle.std.proofs.Common.{ap, ◌∙◌}
use Rattle.rv_assembler.specs.Symbols.{address_of}
use Rattle.rv_assembler.proofs.Entries.{looked}
use Rattle.rv_assembler.proofs.symbols.Symbols.address_of.Goals as goal

pub returns : goal.returns
returns c = c.copied.ensures ∙ c.get.ensures.value ∙ looked c.self.inside.table.entries c.args.name.now ∙ ap (λ ss. address_of ss c.args.name.now) c.self.view_is
