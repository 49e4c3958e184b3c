-- The words of the command `run`.
use Rattle.std.specs.Prelude.{ℕ, List, [], Bool, codes, unwrap_or}
use Rattle.clap.specs.Words.{App, Row, Text, first_of, one_of, new_app, with_rule}
use Rattle.tool_frame.specs.Options.{text_rule, number_rule, flag_rule, number_in, is_flag_on}
use Rattle.tool_words.specs.declared.run_order.RunOrder.{RunOrder}

-- two files, a number from 0 to 1,000,000,000, and a flag
abbrev pub run_app : App
run_app = with_rule (with_rule (with_rule (with_rule (new_app (codes "run")) (text_rule (codes "IMAGE"))) (text_rule (codes "SCENARIO"))) (number_rule (codes "BOUND") 0 1_000_000_000)) (flag_rule (codes "trace"))

-- the files, the bound, and whether a trace is wanted
pub record RunWords : Type 0 where
  pub image_name : Text
  pub scenario_name : Text
  pub bound_is : ℕ
  pub traces : Bool

-- what clap finds in the words. Each is there where clap takes them
unfoldable pub run_in : List Row → RunWords
run_in rows = record {
  image_name = unwrap_or (first_of (codes "IMAGE") rows) [];
  scenario_name = unwrap_or (first_of (codes "SCENARIO") rows) [];
  bound_is = unwrap_or (number_in (one_of (codes "BOUND") rows)) 0;
  traces = is_flag_on (one_of (codes "trace") rows);
}

-- the same, without where the names lie
abbrev pub view_run : RunOrder → RunWords
view_run r = record { image_name = r.image.now; scenario_name = r.scenario.now; bound_is = r.bound; traces = r.trace }
