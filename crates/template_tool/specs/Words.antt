-- The words of the program.
use Rattle.std.specs.Prelude.{ℕ, List, [], Option, Some, None, codes, unwrap_or, option_and_then, if◌then◌else◌}
use Rattle.clap.specs.Words.{App, Row, Text, first_of, one_of, new_app, with_rule}
use Rattle.chain_moves.specs.declared.dispatcher.Dispatcher.{Dispatcher}
use Rattle.chain_moves.specs.declared.dispatcher.Dispatcher.TheVariants.{Looping, Returning}
use Rattle.tool_frame.specs.Options.{text_rule, number_rule, number_in, starts_with, taken}
use Rattle.template_tool.specs.declared.order.Order.{Order}

-- behind the first word, two files and a number from 0 to 1,000,000,000
abbrev pub template_app : App
template_app = with_rule (with_rule (with_rule (new_app (codes "template")) (text_rule (codes "IMAGE"))) (text_rule (codes "SCENARIO"))) (number_rule (codes "BOUND") 0 1_000_000_000)

-- the dispatcher of a chain (a run has none), the files, and the bound
pub record TemplateWords : Type 0 where
  pub under : Option Dispatcher
  pub image_name : Text
  pub scenario_name : Text
  pub bound_is : ℕ

-- the first word is `run`, or a dispatcher's name
abbrev pub way_in : List Text → Option (Option Dispatcher)
way_in words =
    if starts_with (codes "run") words then Some None
    else (if starts_with (codes "looping") words then Some (Some Looping)
    else (if starts_with (codes "returning") words then Some (Some Returning)
    else None))

-- what clap finds in the words. Each is there where clap takes them
unfoldable pub order_in : Option Dispatcher → List Row → TemplateWords
order_in under rows = record {
  under = under;
  image_name = unwrap_or (first_of (codes "IMAGE") rows) [];
  scenario_name = unwrap_or (first_of (codes "SCENARIO") rows) [];
  bound_is = unwrap_or (number_in (one_of (codes "BOUND") rows)) 0;
}

-- what the words ask for: the first names a way to run, and clap takes them
unfoldable pub order_of : List Text → Option TemplateWords
order_of words = option_and_then (λ under. taken template_app (order_in under) words) (way_in words)

-- an order, without where its names lie
abbrev pub view : Order → TemplateWords
view o = record { under = o.under; image_name = o.image.now; scenario_name = o.scenario.now; bound_is = o.bound }
