-- Where the chains of a sweep ended.
use Rattle.std.specs.Prelude.{◌≡◌, true, Option, Some, None}
use Rattle.board_outside.specs.Shelf.{ShelfView}
use Rattle.hart_memory.specs.Image.{ImageView}
use Rattle.hart_board.specs.Event.{EventList}
use Rattle.tool_work.specs.Chain.{taken_at}
use Rattle.tool_work.specs.Files.{PassesFiles}
use Rattle.lab_words.specs.Sweep.{SweepWords}
use Rattle.lab_words.specs.Order.{Order, Sweeps}
use Rattle.lab_work.specs.Sweep.{Made, has_event, sweep_made}

-- the words are those of a sweep, its files were given and passed, the scenario has the event, the slot was free, and what came of the chains is such
pub record SweptTo (Ended : Made → Type 0) (order : Option Order) (shelf shelf' : ShelfView) : Type 0 where
  pub sweep : SweepWords
  pub is_sweep : order ≡ Some (Sweeps sweep)
  pub image : ImageView
  pub events : EventList
  pub files : PassesFiles sweep.image_name sweep.scenario_name shelf shelf' image events
  pub has_event : has_event sweep.event_is events ≡ true
  pub free : taken_at image ≡ None
  pub made : Ended (sweep_made sweep image events)
