-- What is said of a chain that the command `chain` has made.
use Rattle.std.specs.Prelude.{◌≡◌, None}
use Rattle.board_outside.specs.Shelf.{ShelfView}
use Rattle.hart_memory.specs.Image.{ImageView}
use Rattle.hart_board.specs.Event.{EventList}
use Rattle.tool_frame.specs.Code.{OfCommand, origin_of}
use Rattle.tool_frame.specs.declared.status.Status.{Status}
use Rattle.tool_words.specs.Chain.{ChainWords}
use Rattle.tool_work.specs.Files.{PassesFiles}
use Rattle.tool_work.specs.Chain.{taken_at, IsChainServed, DoAgree}
use Rattle.tool_work.specs.Checked.{IsCheckedBy}

-- its files were given and passed, the slot was free, the board did what the servicing machine does, under either dispatcher the same is done, and what the static checker says of the image holds of it
pub record ServedTo (chain : ChainWords) (shelf shelf' : ShelfView) : Type 0 where
  pub image : ImageView
  pub events : EventList
  pub files : PassesFiles chain.image_name chain.scenario_name shelf shelf' image events
  pub free : taken_at image ≡ None
  pub served : IsChainServed chain image events
  pub agree : DoAgree chain.directs image events
  pub checked : IsCheckedBy chain.directs chain.dispatcher_is image events

-- a chain that was made is one
abbrev pub IsServedTo : ChainWords → Status → ShelfView → ShelfView → Type 0
IsServedTo chain status shelf shelf' = origin_of status ≡ OfCommand → ServedTo chain shelf shelf'
