-- Where a run ended.
use Rattle.std.specs.Prelude.{◌≡◌, Option, Some}
use Rattle.board_outside.specs.Shelf.{ShelfView}
use Rattle.hart_memory.specs.Image.{ImageView}
use Rattle.hart_board.specs.Event.{EventList}
use Rattle.hart_board.specs.declared.run_end.RunEnd.{RunEnd}
use Rattle.tool_work.specs.Files.{PassesFiles}
use Rattle.tool_words.specs.Run.{RunWords}
use Rattle.tool_work.specs.Run.{run_made}
use Rattle.tool_words.specs.Order.{Order, Runs}

-- the words are those of a run, its files were given and passed, and it ended so
pub record RanTo (ended : RunEnd → Type 0) (order : Option Order) (shelf shelf' : ShelfView) : Type 0 where
  pub run : RunWords
  pub is_run : order ≡ Some (Runs run)
  pub image : ImageView
  pub events : EventList
  pub files : PassesFiles run.image_name run.scenario_name shelf shelf' image events
  pub end : ended (run_made image events run.bound_is).end
