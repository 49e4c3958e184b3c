-- The word of the command `elf`.
use Rattle.std.specs.Prelude.{List, [], codes, unwrap_or}
use Rattle.clap.specs.Words.{App, Row, Text, first_of, new_app, with_rule}
use Rattle.tool_frame.specs.Options.{text_rule}
use Rattle.lab_words.specs.declared.elf_order.ElfOrder.{ElfOrder}

-- a file
abbrev pub elf_app : App
elf_app = with_rule (new_app (codes "elf")) (text_rule (codes "FILE"))

pub record ElfWords : Type 0 where
  pub file_name : Text

unfoldable pub elf_in : List Row → ElfWords
elf_in rows = record { file_name = unwrap_or (first_of (codes "FILE") rows) [] }

abbrev pub view_elf : ElfOrder → ElfWords
view_elf e = record { file_name = e.file.now }
