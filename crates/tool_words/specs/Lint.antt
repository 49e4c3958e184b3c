-- The words of the command `lint`.
use Rattle.std.specs.Prelude.{ℕ, List, [], codes, unwrap_or}
use Rattle.clap.specs.Words.{App, Row, Text, first_of, one_of, new_app, with_rule}
use Rattle.tool_frame.specs.Options.{text_rule, number_rule, number_in}
use Rattle.tool_words.specs.declared.lint_order.LintOrder.{LintOrder}

-- a file, a number from 0 to 65,535, and two from 536,870,912 to 536,936,448
abbrev pub lint_app : App
lint_app = with_rule (with_rule (with_rule (with_rule (new_app (codes "lint")) (text_rule (codes "IMAGE"))) (number_rule (codes "HANDLER") 0 65_535)) (number_rule (codes "LOW") 536_870_912 536_936_448)) (number_rule (codes "HIGH") 536_870_912 536_936_448)

-- the image, the handler's number, and the numbers of the stack region
pub record LintWords : Type 0 where
  pub image_name : Text
  pub handler_is : ℕ
  pub low_is : ℕ
  pub high_is : ℕ

unfoldable pub lint_in : List Row → LintWords
lint_in rows = record {
  image_name = unwrap_or (first_of (codes "IMAGE") rows) [];
  handler_is = unwrap_or (number_in (one_of (codes "HANDLER") rows)) 0;
  low_is = unwrap_or (number_in (one_of (codes "LOW") rows)) 0;
  high_is = unwrap_or (number_in (one_of (codes "HIGH") rows)) 0;
}

abbrev pub view_lint : LintOrder → LintWords
view_lint l = record { image_name = l.image.now; handler_is = l.handler; low_is = l.low; high_is = l.high }
