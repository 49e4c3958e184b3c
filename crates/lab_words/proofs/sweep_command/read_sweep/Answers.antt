use Rattle.std.proofs.Common.{refl}
use Rattle.tool_frame.proofs.Commands.{plain_by}
use Rattle.lab_words.specs.Sweep.{sweep_app}
use Rattle.lab_words.proofs.sweep_command.read_sweep.Goals as goal

pub matches_taken-requires : goal.matches_taken-requires
matches_taken-requires c = plain_by _ sweep_app c.in_ok-command.ensures refl refl refl refl refl
