-- The word of the command `gen`.
use Rattle.std.specs.Prelude.{ℕ, ◌%◌, ◌^◌, List, codes, unwrap_or}
use Rattle.clap.specs.Words.{App, Row, one_of, new_app, with_rule}
use Rattle.tool_frame.specs.Options.{number_rule, number_in}
use Rattle.tool_words.specs.declared.gen_order.GenOrder.{GenOrder}

-- a number from 0 to 10,000
abbrev pub gen_app : App
gen_app = with_rule (new_app (codes "gen")) (number_rule (codes "N") 0 10_000)

pub record GenWords : Type 0 where
  pub number_is : ℕ

-- clap takes no number past 10,000, so that what is left of a division by 2 ^ 16 is the number itself
unfoldable pub gen_in : List Row → GenWords
gen_in rows = record { number_is = unwrap_or (number_in (one_of (codes "N") rows)) 0 % 2 ^ 16 }

abbrev pub view_gen : GenOrder → GenWords
view_gen g = record { number_is = g.number }
