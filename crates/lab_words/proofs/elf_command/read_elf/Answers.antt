use Rattle.std.proofs.Common.{refl}
use Rattle.tool_frame.proofs.Commands.{plain_by}
use Rattle.lab_words.specs.Elf.{elf_app}
use Rattle.lab_words.proofs.elf_command.read_elf.Goals as goal

pub matches_taken-requires : goal.matches_taken-requires
matches_taken-requires c = plain_by _ elf_app c.in_ok-command.ensures refl refl refl refl refl
