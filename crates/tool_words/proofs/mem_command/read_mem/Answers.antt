use Rattle.std.proofs.Common.{refl}
use Rattle.tool_frame.proofs.Commands.{plain_by}
use Rattle.tool_words.specs.Mem.{mem_app}
use Rattle.tool_words.proofs.mem_command.read_mem.Goals as goal

pub matches_taken-requires : goal.matches_taken-requires
matches_taken-requires c = plain_by _ mem_app c.in_ok-command.ensures refl refl refl refl refl
