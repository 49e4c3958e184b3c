-- What the command `names` does with its file.
use Rattle.std.specs.Prelude.{List, codes}
use Rattle.lab_names.specs.Name.{NameView, names_text}
use Rattle.tool_frame.specs.Due.{Due, at_once}
use Rattle.tool_frame.specs.Plan.{Plan, Makes, reads}
use Rattle.tool_frame.specs.declared.status.Status.TheVariants.{Done}
use Rattle.lab_words.specs.Names.{NamesWords}
use Rattle.lab_work.specs.Files.{elf_limit, symbols_read}

-- the lines of names
abbrev pub names_due : List NameView → Due
names_due names = at_once (names_text names) Done

abbrev pub names_plan : NamesWords → Plan (Unit {0})
names_plan words = reads (codes "elf") elf_limit (symbols_read words.code_alone) words.file_name (λ names. Makes (names_due names) tt)
