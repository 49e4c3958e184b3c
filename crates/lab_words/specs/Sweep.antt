-- The words of the command `sweep`.
use Rattle.std.specs.Prelude.{ℕ, ◌%◌, ◌^◌, List, [], Bool, Option, Some, None, codes, unwrap_or, nat_lt, if◌then◌else◌}
use Rattle.clap.specs.Words.{App, Row, Text, first_of, one_of, new_app, with_rule}
use Rattle.chain_moves.specs.declared.dispatcher.Dispatcher.{Dispatcher}
use Rattle.tool_frame.specs.Options.{text_rule, number_rule, option_rule, flag_rule, number_in, is_flag_on}
use Rattle.tool_words.specs.Chain.{dispatcher_of}
use Rattle.lab_words.specs.Parts.{part_or_all}
use Rattle.lab_words.specs.declared.chaining.Chaining.{Chaining}
use Rattle.lab_words.specs.declared.part.Part.{Part}
use Rattle.lab_words.specs.declared.sweep_order.SweepOrder.{SweepOrder}

-- two files, a dispatcher's name, a number from 0 to 1,000,000,000, one from 1 to 65,536, two from 0 to 1,000,000,000, an option, and a flag
abbrev pub sweep_app : App
sweep_app = with_rule (with_rule (with_rule (with_rule (with_rule (with_rule (with_rule (with_rule (with_rule (new_app (codes "sweep")) (text_rule (codes "IMAGE"))) (text_rule (codes "SCENARIO"))) (text_rule (codes "DISPATCHER"))) (number_rule (codes "BOUND") 0 1_000_000_000)) (number_rule (codes "EVENT") 1 65_536)) (number_rule (codes "FROM") 0 1_000_000_000)) (number_rule (codes "TO") 0 1_000_000_000)) (option_rule (codes "part"))) (flag_rule (codes "direct"))

-- the files, how the board is run and the bound, which event is moved and over which counts, and the part of these that is taken
pub record SweepWords : Type 0 where
  pub image_name : Text
  pub scenario_name : Text
  pub chains_by : Chaining
  pub bound_is : ℕ
  pub event_is : ℕ
  pub from_is : ℕ
  pub to_is : ℕ
  pub part_is : Part

-- the number of an argument. clap takes none past 1,000,000,000, so that what is left of a division by 2 ^ 32 is the number itself
abbrev pub number_at : Text → List Row → ℕ
number_at name rows = unwrap_or (number_in (one_of name rows)) 0 % 2 ^ 32

-- a sweep under a dispatcher and of a part, where there are both
abbrev pub sweep_with : List Row → Option Dispatcher → Option Part → Option SweepWords
sweep_with rows (Some d) (Some p) = Some (record {
  image_name = unwrap_or (first_of (codes "IMAGE") rows) [];
  scenario_name = unwrap_or (first_of (codes "SCENARIO") rows) [];
  chains_by = record { dispatcher = d; direct = is_flag_on (one_of (codes "direct") rows) };
  bound_is = unwrap_or (number_in (one_of (codes "BOUND") rows)) 0;
  event_is = number_at (codes "EVENT") rows;
  from_is = number_at (codes "FROM") rows;
  to_is = number_at (codes "TO") rows;
  part_is = p;
})
sweep_with rows _ _ = None

-- what clap finds in the words, which are refused where there is no dispatcher of that name, no part is spelled, or FROM is above TO
unfoldable pub sweep_in : List Row → Option SweepWords
sweep_in rows =
    if nat_lt (number_at (codes "TO") rows) (number_at (codes "FROM") rows) then None
    else sweep_with rows (dispatcher_of (unwrap_or (first_of (codes "DISPATCHER") rows) [])) (part_or_all (first_of (codes "part") rows))

abbrev pub view_sweep : SweepOrder → SweepWords
view_sweep s = record { image_name = s.image.now; scenario_name = s.scenario.now; chains_by = s.chaining; bound_is = s.bound; event_is = s.event; from_is = s.from; to_is = s.to; part_is = s.part }
