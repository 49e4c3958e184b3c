-- The words of the command `asm`.
use Rattle.std.specs.Prelude.{List, [], Bool, codes, unwrap_or}
use Rattle.clap.specs.Words.{App, Row, Text, first_of, one_of, new_app, with_rule}
use Rattle.tool_frame.specs.Options.{text_rule, flag_rule, is_flag_on}
use Rattle.tool_words.specs.declared.assemble_order.AssembleOrder.{AssembleOrder}

-- a file, and a flag
abbrev pub assemble_app : App
assemble_app = with_rule (with_rule (new_app (codes "asm")) (text_rule (codes "SOURCE"))) (flag_rule (codes "symbols"))

-- the file, and whether its labels are wanted in place of its image
pub record AssembleWords : Type 0 where
  pub source_name : Text
  pub wants_symbols : Bool

unfoldable pub assemble_in : List Row → AssembleWords
assemble_in rows = record {
  source_name = unwrap_or (first_of (codes "SOURCE") rows) [];
  wants_symbols = is_flag_on (one_of (codes "symbols") rows);
}

abbrev pub view_assemble : AssembleOrder → AssembleWords
view_assemble a = record { source_name = a.source.now; wants_symbols = a.symbols }
