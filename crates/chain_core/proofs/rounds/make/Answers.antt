use Rattle.std.proofs.Common.{ap, ◌∙◌}
use Rattle.chain_moves.specs.Ready.{turn_of}
use Rattle.chain_moves.specs.declared.turn.Turn.TheVariants.{Enter, Fuse}
use Rattle.chain_core.proofs.rounds.make.Goals as goal

pub enter-requires-clause-fits : goal.enter-requires-clause-fits
enter-requires-clause-fits g c = λ frame e. c.requires.enters frame (ap turn_of c.in-Enter.is ∙ ap Enter e)

pub fuse-requires-clause-fits : goal.fuse-requires-clause-fits
fuse-requires-clause-fits g c = λ frame e. c.requires.fuses frame (ap turn_of c.in-Fuse.is ∙ ap Fuse e)
