-- The words of the command `trace`.
use Rattle.std.specs.Prelude.{ℕ, List, [], Bool, true, false, Option, Some, None, codes, unwrap_or, option_map}
use Rattle.clap.specs.Words.{App, Row, Text, first_of, one_of, new_app, with_rule}
use Rattle.tool_frame.specs.Options.{text_rule, number_rule, option_rule, flag_rule, number_in, is_flag_on}
use Rattle.tool_words.specs.Chain.{dispatcher_of}
use Rattle.lab_words.specs.declared.chaining.Chaining.{Chaining}
use Rattle.lab_words.specs.declared.trace_order.TraceOrder.{TraceOrder}

-- two files, a number from 0 to 1,000,000,000, an option, a flag, and an option
abbrev pub trace_app : App
trace_app = with_rule (with_rule (with_rule (with_rule (with_rule (with_rule (new_app (codes "trace")) (text_rule (codes "IMAGE"))) (text_rule (codes "SCENARIO"))) (number_rule (codes "BOUND") 0 1_000_000_000)) (option_rule (codes "dispatcher"))) (flag_rule (codes "direct"))) (option_rule (codes "names"))

-- the files, the bound, the dispatcher where there is one, and the file of names
pub record TraceWords : Type 0 where
  pub image_name : Text
  pub scenario_name : Text
  pub bound_is : ℕ
  pub chains_by : Option Chaining
  pub names_name : Option Text

-- the dispatcher of a name, with direct services or without; where there is no name, none, and then no direct services
abbrev pub chaining_of : Option Text → Bool → Option (Option Chaining)
chaining_of (Some name) directs = option_map (λ d. Some (record { dispatcher = d; direct = directs })) (dispatcher_of name)
chaining_of None false = Some None
chaining_of None true = None

-- what clap finds in the words, which are refused where there is no dispatcher of that name, and where direct services have none
unfoldable pub trace_in : List Row → Option TraceWords
trace_in rows = option_map (λ c. record {
  image_name = unwrap_or (first_of (codes "IMAGE") rows) [];
  scenario_name = unwrap_or (first_of (codes "SCENARIO") rows) [];
  bound_is = unwrap_or (number_in (one_of (codes "BOUND") rows)) 0;
  chains_by = c;
  names_name = first_of (codes "names") rows;
}) (chaining_of (first_of (codes "dispatcher") rows) (is_flag_on (one_of (codes "direct") rows)))

-- the same, without where the names lie
abbrev pub view_trace : TraceOrder → TraceWords
view_trace t = record { image_name = t.image.now; scenario_name = t.scenario.now; bound_is = t.bound; chains_by = t.chaining; names_name = option_map (λ s. s.now) t.names }
