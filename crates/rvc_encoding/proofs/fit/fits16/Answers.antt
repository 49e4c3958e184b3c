use Rattle.std.proofs.Common.{◌∙◌, sym}
use Rattle.rvc_encoding.specs.Halves.{half_of}
use Rattle.rvc_encoding.proofs.Again.{fits-spells}
use Rattle.rvc_encoding.proofs.Round.{half_of-spells}
use Rattle.rvc_encoding.proofs.fit.fits16.Goals as goal

pub returns-clause-spelled : goal.returns-clause-spelled
returns-clause-spelled c =
    (λ t. let spells = half_of-spells c.args.c.now (sym c.is_fit.ensures ∙ t) in (half_of c.args.c.now, spells.0, spells.1), λ some. c.is_fit.ensures ∙ fits-spells some.0 c.args.c.now some.1 some.2)
