-- The words of the command `names`.
use Rattle.std.specs.Prelude.{List, [], Bool, codes, unwrap_or}
use Rattle.clap.specs.Words.{App, Row, Text, first_of, one_of, new_app, with_rule}
use Rattle.tool_frame.specs.Options.{text_rule, flag_rule, is_flag_on}
use Rattle.lab_words.specs.declared.names_order.NamesOrder.{NamesOrder}

-- a file, and a flag
abbrev pub names_app : App
names_app = with_rule (with_rule (new_app (codes "names")) (text_rule (codes "FILE"))) (flag_rule (codes "code"))

-- the file, and whether names of code alone are wanted
pub record NamesWords : Type 0 where
  pub file_name : Text
  pub code_alone : Bool

unfoldable pub names_in : List Row → NamesWords
names_in rows = record {
  file_name = unwrap_or (first_of (codes "FILE") rows) [];
  code_alone = is_flag_on (one_of (codes "code") rows);
}

abbrev pub view_names : NamesOrder → NamesWords
view_names n = record { file_name = n.file.now; code_alone = n.code }
