-- The words of the command `bound`.
use Rattle.std.specs.Prelude.{ℕ, List, [], Option, codes, unwrap_or, option_map}
use Rattle.clap.specs.Words.{App, Row, Text, first_of, one_of, new_app, with_rule}
use Rattle.chain_lint.specs.Pairs.{pairs_of}
use Rattle.chain_lint.specs.declared.pair.Pair.{Pair}
use Rattle.tool_frame.specs.Options.{text_rule, number_rule, number_in}
use Rattle.tool_words.specs.declared.bound_order.BoundOrder.{BoundOrder}

-- a file, two numbers from 536,870,912 to 536,936,448, one from 0 to 65,472, and a text
abbrev pub bound_app : App
bound_app = with_rule (with_rule (with_rule (with_rule (with_rule (new_app (codes "bound")) (text_rule (codes "IMAGE"))) (number_rule (codes "LOW") 536_870_912 536_936_448)) (number_rule (codes "HIGH") 536_870_912 536_936_448)) (number_rule (codes "MTVT") 0 65_472)) (text_rule (codes "PAIRS"))

-- the image, the numbers of the stack region, the table's number, and the inputs with their levels
pub record BoundWords : Type 0 where
  pub image_name : Text
  pub low_is : ℕ
  pub high_is : ℕ
  pub table_is : ℕ
  pub pairs_are : List Pair

-- what clap finds in the words, which are refused where the last one spells no pairs
unfoldable pub bound_in : List Row → Option BoundWords
bound_in rows = option_map (λ ps. record {
  image_name = unwrap_or (first_of (codes "IMAGE") rows) [];
  low_is = unwrap_or (number_in (one_of (codes "LOW") rows)) 0;
  high_is = unwrap_or (number_in (one_of (codes "HIGH") rows)) 0;
  table_is = unwrap_or (number_in (one_of (codes "MTVT") rows)) 0;
  pairs_are = ps;
}) (pairs_of (unwrap_or (first_of (codes "PAIRS") rows) []))

abbrev pub view_bound : BoundOrder → BoundWords
view_bound b = record { image_name = b.image.now; low_is = b.low; high_is = b.high; table_is = b.table; pairs_are = b.pairs }
