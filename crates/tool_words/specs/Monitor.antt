-- The words of the command `monitor`.
use Rattle.std.specs.Prelude.{List, [], codes, unwrap_or}
use Rattle.clap.specs.Words.{App, Row, Text, first_of, new_app, with_rule}
use Rattle.tool_frame.specs.Options.{text_rule}
use Rattle.tool_words.specs.declared.monitor_order.MonitorOrder.{MonitorOrder}

-- two files
abbrev pub monitor_app : App
monitor_app = with_rule (with_rule (new_app (codes "monitor")) (text_rule (codes "IMAGE"))) (text_rule (codes "SCRIPT"))

pub record MonitorWords : Type 0 where
  pub image_name : Text
  pub script_name : Text

unfoldable pub monitor_in : List Row → MonitorWords
monitor_in rows = record { image_name = unwrap_or (first_of (codes "IMAGE") rows) []; script_name = unwrap_or (first_of (codes "SCRIPT") rows) [] }

abbrev pub view_monitor : MonitorOrder → MonitorWords
view_monitor m = record { image_name = m.image.now; script_name = m.script.now }
