use Rattle.std.proofs.Common.{refl}
use Rattle.tool_frame.proofs.Commands.{plain_by}
use Rattle.lab_words.specs.Names.{names_app}
use Rattle.lab_words.proofs.names_command.read_names.Goals as goal

pub matches_taken-requires : goal.matches_taken-requires
matches_taken-requires c = plain_by _ names_app c.in_ok-command.ensures refl refl refl refl refl
