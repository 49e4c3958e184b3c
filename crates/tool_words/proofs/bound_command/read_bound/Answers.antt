use Rattle.std.proofs.Common.{refl}
use Rattle.tool_frame.proofs.Commands.{plain_by}
use Rattle.tool_words.specs.Bound.{bound_app}
use Rattle.tool_words.proofs.bound_command.read_bound.Goals as goal

pub matches_taken-requires : goal.matches_taken-requires
matches_taken-requires c = plain_by _ bound_app c.in_ok-command.ensures refl refl refl refl refl
