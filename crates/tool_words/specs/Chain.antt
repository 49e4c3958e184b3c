-- The words of the command `chain`.
use Rattle.std.specs.Prelude.{ℕ, List, [], Bool, Option, Some, None, codes, unwrap_or, option_map, if◌then◌else◌}
use Rattle.std.specs.Str.{bytes_eq}
use Rattle.clap.specs.Words.{App, Row, Text, first_of, one_of, new_app, with_rule}
use Rattle.chain_moves.specs.declared.dispatcher.Dispatcher.{Dispatcher}
use Rattle.chain_moves.specs.declared.dispatcher.Dispatcher.TheVariants.{Looping, Returning}
use Rattle.tool_frame.specs.Options.{text_rule, number_rule, flag_rule, number_in, is_flag_on}
use Rattle.tool_words.specs.declared.chain_order.ChainOrder.{ChainOrder}

-- two files, a dispatcher's name, a number from 0 to 1,000,000,000, and two flags
abbrev pub chain_app : App
chain_app = with_rule (with_rule (with_rule (with_rule (with_rule (with_rule (new_app (codes "chain")) (text_rule (codes "IMAGE"))) (text_rule (codes "SCENARIO"))) (text_rule (codes "DISPATCHER"))) (number_rule (codes "BOUND") 0 1_000_000_000)) (flag_rule (codes "trace"))) (flag_rule (codes "direct"))

-- the files, the dispatcher, the bound, whether a trace is wanted, and whether hardware-vectored inputs are served directly
pub record ChainWords : Type 0 where
  pub image_name : Text
  pub scenario_name : Text
  pub dispatcher_is : Dispatcher
  pub bound_is : ℕ
  pub traces : Bool
  pub directs : Bool

-- the dispatcher of that name
abbrev pub dispatcher_of : Text → Option Dispatcher
dispatcher_of name = if bytes_eq name (codes "looping") then Some Looping else (if bytes_eq name (codes "returning") then Some Returning else None)

-- what clap finds in the words, which are refused where there is no dispatcher of that name
unfoldable pub chain_in : List Row → Option ChainWords
chain_in rows = option_map (λ d. record {
  image_name = unwrap_or (first_of (codes "IMAGE") rows) [];
  scenario_name = unwrap_or (first_of (codes "SCENARIO") rows) [];
  dispatcher_is = d;
  bound_is = unwrap_or (number_in (one_of (codes "BOUND") rows)) 0;
  traces = is_flag_on (one_of (codes "trace") rows);
  directs = is_flag_on (one_of (codes "direct") rows);
}) (dispatcher_of (unwrap_or (first_of (codes "DISPATCHER") rows) []))

-- the same, without where the names lie
abbrev pub view_chain : ChainOrder → ChainWords
view_chain c = record { image_name = c.image.now; scenario_name = c.scenario.now; dispatcher_is = c.dispatcher; bound_is = c.bound; traces = c.trace; directs = c.direct }
