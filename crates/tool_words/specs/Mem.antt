-- The word of the command `mem`.
use Rattle.std.specs.Prelude.{List, [], codes, unwrap_or}
use Rattle.clap.specs.Words.{App, Row, Text, first_of, new_app, with_rule}
use Rattle.tool_frame.specs.Options.{text_rule}
use Rattle.tool_words.specs.declared.mem_order.MemOrder.{MemOrder}

-- a file
abbrev pub mem_app : App
mem_app = with_rule (new_app (codes "mem")) (text_rule (codes "IMAGE"))

pub record MemWords : Type 0 where
  pub image_name : Text

unfoldable pub mem_in : List Row → MemWords
mem_in rows = record { image_name = unwrap_or (first_of (codes "IMAGE") rows) [] }

abbrev pub view_mem : MemOrder → MemWords
view_mem m = record { image_name = m.image.now }
