use Rattle.std.proofs.Common.{sym, ◌∙◌}
use Rattle.rv_encoding.proofs.FieldsFit.{spelled_fits}
use Rattle.rv_encoding.proofs.Spelled.{word_spells}
use Rattle.rv_encoding.specs.Words.{word_of}
use Rattle.rv_encoding.proofs.spellable.fits.Goals as goal

pub returns-clause-spelled : goal.returns-clause-spelled
returns-clause-spelled c = (
  λ fit. let word = word_spells c.args.i.now (sym c.hold_their_values.ensures ∙ fit) in (word_of c.args.i.now, word.0, word.1),
  λ some. c.hold_their_values.ensures ∙ spelled_fits some.0 c.args.i.now some.2,
)
