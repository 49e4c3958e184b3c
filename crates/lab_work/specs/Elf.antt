-- What the command `elf` does with its file.
use Rattle.std.specs.Prelude.{codes}
use Rattle.tool_frame.specs.Plan.{Plan, Makes, reads}
use Rattle.tool_work.specs.Files.{image_due}
use Rattle.lab_words.specs.Elf.{ElfWords}
use Rattle.lab_work.specs.Files.{elf_limit, elf_read}

abbrev pub elf_plan : ElfWords → Plan (Unit {0})
elf_plan words = reads (codes "elf") elf_limit elf_read words.file_name (λ image. Makes (image_due image) tt)
