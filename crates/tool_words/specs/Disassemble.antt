-- The word of the command `disasm`.
use Rattle.std.specs.Prelude.{List, [], codes, unwrap_or}
use Rattle.clap.specs.Words.{App, Row, Text, first_of, new_app, with_rule}
use Rattle.tool_frame.specs.Options.{text_rule}
use Rattle.tool_words.specs.declared.disassemble_order.DisassembleOrder.{DisassembleOrder}

-- a file
abbrev pub disassemble_app : App
disassemble_app = with_rule (new_app (codes "disasm")) (text_rule (codes "IMAGE"))

pub record DisassembleWords : Type 0 where
  pub image_name : Text

unfoldable pub disassemble_in : List Row → DisassembleWords
disassemble_in rows = record { image_name = unwrap_or (first_of (codes "IMAGE") rows) [] }

abbrev pub view_disassemble : DisassembleOrder → DisassembleWords
view_disassemble d = record { image_name = d.image.now }
