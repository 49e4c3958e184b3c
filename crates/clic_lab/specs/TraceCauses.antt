-- How the run or the chain of a trace ended.
use Rattle.std.specs.Prelude.{◌≡◌, ℕ, List, Option, Some, None}
use Rattle.board_outside.specs.Shelf.{ShelfView}
use Rattle.hart_memory.specs.Image.{ImageView}
use Rattle.hart_board.specs.Event.{EventList}
use Rattle.hart_board.specs.declared.run_end.RunEnd.TheVariants.{Halted, BudgetSpent as run_spent, VectorFault}
use Rattle.chain_moves.specs.declared.broken.Broken.{Broken as BrokenBy}
use Rattle.chain_core.specs.declared.chain_end.ChainEnd.TheVariants.{Done, BudgetSpent as chain_spent, Broken}
use Rattle.tool_work.specs.Chain.{chain_made}
use Rattle.tool_work.specs.Files.{PassesFiles}
use Rattle.tool_work.specs.Run.{run_made}
use Rattle.lab_names.specs.Name.{NameView}
use Rattle.lab_words.specs.Order.{Order, Traces}
use Rattle.lab_words.specs.Trace.{TraceWords}
use Rattle.lab_words.specs.declared.chaining.Chaining.{Chaining}
use Rattle.lab_work.specs.Files.{PassesNames}
use Rattle.lab_work.specs.Trace.{chain_words, taken_for}

-- the run halted, or the chain is done
abbrev pub IsOver : TraceWords → Option Chaining → ImageView → EventList → Type 0
IsOver t None image events = (code : ℕ) × (steps : ℕ) × ((run_made image events t.bound_is).end ≡ Halted code steps)
IsOver t (Some c) image events = (steps : ℕ) × (bodies : ℕ) × (services : ℕ) × (chain_made (chain_words t c) image events ≡ Done steps bodies services)

-- the bound was reached
abbrev pub IsAtBound : TraceWords → Option Chaining → ImageView → EventList → Type 0
IsAtBound t None image events = (run_made image events t.bound_is).end ≡ run_spent
IsAtBound t (Some c) image events = chain_made (chain_words t c) image events ≡ chain_spent

-- the convention of the chain is broken
abbrev pub IsBrokenOff : TraceWords → Option Chaining → ImageView → EventList → Type 0
IsBrokenOff t None image events = ⊥
IsBrokenOff t (Some c) image events = (kind : BrokenBy) × (bodies : ℕ) × (chain_made (chain_words t c) image events ≡ Broken kind bodies)

-- the table's word for an input isn't in memory
abbrev pub HasNoVector : TraceWords → Option Chaining → ImageView → EventList → Type 0
HasNoVector t None image events = (id : ℕ) × (steps : ℕ) × ((run_made image events t.bound_is).end ≡ VectorFault id steps)
HasNoVector t (Some c) image events = ⊥

-- the words are those of a trace, its files were given and passed, the names last, under a dispatcher the slot was free, and it ended so
pub record TracedTo (Ended : TraceWords → Option Chaining → ImageView → EventList → Type 0) (order : Option Order) (shelf shelf' : ShelfView) : Type 0 where
  pub trace : TraceWords
  pub is_trace : order ≡ Some (Traces trace)
  pub image : ImageView
  pub events : EventList
  pub names : List NameView
  pub between : ShelfView
  pub files : PassesFiles trace.image_name trace.scenario_name shelf between image events
  pub named : PassesNames trace.names_name between shelf' names
  pub free : taken_for trace.chains_by image ≡ None
  pub end : Ended trace trace.chains_by image events
