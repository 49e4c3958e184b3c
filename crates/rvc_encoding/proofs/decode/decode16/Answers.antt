use Rattle.std.proofs.Common.{◌≡◌, ◌∙◌, sym, true}
use Rattle.rvc_encoding.specs.Rows.{Spells16}
use Rattle.rvc_encoding.specs.Fits.{fits_row}
use Rattle.rvc_encoding.proofs.Apart.{spelled_only, spelled_spells, none_spelled, if_some}
use Rattle.rvc_encoding.proofs.Again.{fits-spells}
use Rattle.rvc_encoding.proofs.decode.decode16.Goals as goal

pub returns-clause-found : goal.returns-clause-found
returns-clause-found c = λ i e. spelled_spells c.args.h i (sym c.row_of.ensures ∙ e)

pub returns-clause-only : goal.returns-clause-only
returns-clause-only c = λ i here. c.row_of.ensures ∙ spelled_only c.args.h i here

pub returns-clause-none : goal.returns-clause-none
returns-clause-none c =
    none_spelled c.row_of.result (Spells16 c.args.h) (λ i e. spelled_spells c.args.h i (sym c.row_of.ensures ∙ e)) (λ i here. c.row_of.ensures ∙ spelled_only c.args.h i here)

pub returns-clause-fits : goal.returns-clause-fits
returns-clause-fits c = if_some c.row_of.result (λ i. fits_row i ≡ true) (λ i e. fits-spells c.args.h i c.ranges.h.fits (spelled_spells c.args.h i (sym c.row_of.ensures ∙ e)))
