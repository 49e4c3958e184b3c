use Rattle.std.proofs.Common.{◌∙◌, ap}
use Rattle.rv_encoding.specs.Fits.{can_be_spelled}
use Rattle.rvc_encoding.proofs.Round.{expansion-can_be_spelled}
use Rattle.rvc_encoding.proofs.expansion.expand.Goals as goal

pub returns-clause-fits : goal.returns-clause-fits
returns-clause-fits c = ap can_be_spelled c.expanded.ensures ∙ expansion-can_be_spelled c.args.c.now c.requires
