-- Where a chain ended.
use Rattle.std.specs.Prelude.{◌≡◌, Option, Some, None}
use Rattle.board_outside.specs.Shelf.{ShelfView}
use Rattle.hart_memory.specs.Image.{ImageView}
use Rattle.hart_board.specs.Event.{EventList}
use Rattle.chain_core.specs.declared.chain_end.ChainEnd.{ChainEnd}
use Rattle.tool_words.specs.Chain.{ChainWords}
use Rattle.tool_work.specs.Chain.{taken_at, chain_made}
use Rattle.tool_words.specs.Order.{Order, Chains}
use Rattle.tool_work.specs.Files.{PassesFiles}

-- the words are those of a chain, its files were given and passed, the slot was free, and it ended so
pub record ChainedTo (ended : ChainEnd → Type 0) (order : Option Order) (shelf shelf' : ShelfView) : Type 0 where
  pub chain : ChainWords
  pub is_chain : order ≡ Some (Chains chain)
  pub image : ImageView
  pub events : EventList
  pub files : PassesFiles chain.image_name chain.scenario_name shelf shelf' image events
  pub free : taken_at image ≡ None
  pub end : ended (chain_made chain image events)
