use Rattle.std.proofs.Common.{◌∙◌, sym}
use Rattle.rvc_encoding.proofs.Again.{half-spells}
use Rattle.rvc_encoding.proofs.Round.{half_of-spells}
use Rattle.rvc_encoding.proofs.encode.encode16.Goals as goal

pub overflow_cast-result : goal.overflow_cast-result
overflow_cast-result c = rw c.encoded.ensures (record { fits = (half_of-spells c.args.c.now c.requires).0 })

pub returns-clause-spells : goal.returns-clause-spells
returns-clause-spells c = rw c.encoded.ensures (half_of-spells c.args.c.now c.requires).1

pub returns-clause-only : goal.returns-clause-only
returns-clause-only c = λ h small here. sym (half-spells h c.args.c.now small here) ∙ sym c.encoded.ensures
