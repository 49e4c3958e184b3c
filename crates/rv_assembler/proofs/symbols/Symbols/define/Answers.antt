use Rattle.std.proofs.Common.{List, [], ◌∷◌, ◌++◌, map, ap, ◌∙◌}
use Rattle.std.specs.Prelude.{string_bytes}
use Rattle.rv_assembler.specs.Symbols.{Symbol, symbol_of, address_of}
use Rattle.rv_assembler.proofs.Entries.{inserted}
use Rattle.rv_assembler.proofs.symbols.Symbols.define.Goals as goal

pub returns-clause-ok : goal.returns-clause-ok
returns-clause-ok c =
    ap (λ es. map symbol_of es) c.in_ok-insert.ensures.entries
    ∙ inserted c.self.inside.table.entries c.args.name c.args.address (ap (λ ss. address_of ss (string_bytes c.args.name)) c.self.view_is ∙ c.requires)
    ∙ ap (λ (ss : List Symbol). ss ++ record { name = string_bytes c.args.name; address = c.args.address } ∷ []) c.self.view_is
