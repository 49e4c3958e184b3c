use Rattle.std.proofs.Common.{sym, subst, ◌∙◌}
use Rattle.rv_encoding.proofs.IgnoredBits.{word_canonical, canonical_word}
use Rattle.rv_encoding.proofs.Spelled.{word_spells}
use Rattle.rv_encoding.specs.Rows.{Spells, IsCanonical}
use Rattle.rv_encoding.proofs.encode.encode32.Goals as goal

pub returns-clause-spells : goal.returns-clause-spells
returns-clause-spells c = subst (λ w. Spells w c.args.i.now) (sym c.encoded.ensures) (word_spells c.args.i.now c.requires).1

pub returns-clause-canonical : goal.returns-clause-canonical
returns-clause-canonical c = subst IsCanonical (sym c.encoded.ensures) (word_canonical c.args.i.now c.requires)

pub returns-clause-only : goal.returns-clause-only
returns-clause-only c w small spells canonical = canonical_word w c.args.i.now small spells canonical ∙ sym c.encoded.ensures
