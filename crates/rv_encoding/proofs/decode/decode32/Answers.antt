use Rattle.std.proofs.Common.{◌∙◌, sym}
use Rattle.rv_encoding.proofs.Apart.{spelled_only, spelled_spells, none_spelled, if_some}
use Rattle.rv_encoding.proofs.FieldsFit.{spelled_fits}
use Rattle.rv_encoding.proofs.decode.decode32.Goals as goal

pub returns-clause-found : goal.returns-clause-found
returns-clause-found c i found = spelled_spells c.args.w i (sym c.row_of.ensures ∙ found)

pub returns-clause-only : goal.returns-clause-only
returns-clause-only c i here = c.row_of.ensures ∙ spelled_only c.args.w i here

pub returns-clause-none : goal.returns-clause-none
returns-clause-none c =
    none_spelled _ _ (λ i found. spelled_spells c.args.w i (sym c.row_of.ensures ∙ found)) (λ i here. c.row_of.ensures ∙ spelled_only c.args.w i here)

pub returns-clause-fits : goal.returns-clause-fits
returns-clause-fits c = if_some _ _ (λ i found. spelled_fits c.args.w i (spelled_spells c.args.w i (sym c.row_of.ensures ∙ found)))
