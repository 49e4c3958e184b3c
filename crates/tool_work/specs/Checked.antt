-- What the static checker's answers on an image mean for its chains: those of `lint`, a yes, and of `bound`, a bound.
use Rattle.std.specs.Prelude.{◌≡◌, ◌⊎◌, ℕ, ◌+◌, ◌≤◌, ◌<◌, Bool, true, false, List, [], ◌∷◌, Some, slice_get}
use Rattle.hart_words.specs.Registers.{register}
use Rattle.hart_exec.specs.Effect.{even}
use Rattle.hart_memory.specs.Bytes.{number_at}
use Rattle.hart_memory.specs.Image.{ImageView}
use Rattle.hart_board.specs.Event.{EventList}
use Rattle.chain_moves.specs.Servicing.{Live, Servicing}
use Rattle.chain_moves.specs.Enter.{pointer}
use Rattle.chain_moves.specs.Machine.{When, Breaks}
use Rattle.chain_moves.specs.Moves.{move}
use Rattle.chain_moves.specs.declared.broken.Broken.{Broken as BrokenBy}
use Rattle.chain_moves.specs.declared.dispatcher.Dispatcher.{Dispatcher}
use Rattle.chain_core.specs.Chain.{chain_end}
use Rattle.chain_core.specs.declared.chain_end.ChainEnd.TheVariants.{Broken as broken}
use Rattle.chain_lint.specs.Code.{image_rom}
use Rattle.chain_lint.specs.Tables.{word_place}
use Rattle.chain_lint.specs.Soundness.{IsAfter, AcceptsTo, IsSafe, IsOther, Begins, handler_of, outermost}
use Rattle.chain_lint.specs.declared.pair.Pair.{Pair}
use Rattle.chain_lint.specs.declared.table_bound.TableBound.TheVariants.{Bound as bounded}
use Rattle.tool_words.specs.Bound.{BoundWords}
use Rattle.tool_work.specs.Shipped.{shipped_meanings}
use Rattle.tool_work.specs.Region.{region_of}
use Rattle.tool_work.specs.Bound.{bound_made, table_of}
use Rattle.tool_work.specs.Chain.{chain_board}

-- the image's chain stands so after its first n moves
abbrev pub StandsAfter : Dispatcher → ImageView → EventList → ℕ → Servicing → Type 0
StandsAfter d image events n t = IsAfter shipped_meanings events.list (chain_board d image events) n t

-- ---- `lint`

-- where each service that is the innermost one within n moves has a handler that `lint` accepts with these LOW and HIGH, and its frame lies between them with the bytes below it that the handler uses, no service breaks the convention in one of four kinds then
abbrev pub YesHolds : Dispatcher → ImageView → EventList → Type 0
YesHolds d image events = (low high n : ℕ) (t : Servicing)
    → AcceptsTo shipped_meanings events.list (image_rom image) (region_of low high) (chain_board d image events) n
    → StandsAfter d image events n t → IsSafe shipped_meanings events.list (image_rom image) (region_of low high) t

-- ---- `bound`

-- a service has the level of a pair, and the handler that the image's table has for that pair's input
pub record IsOfTable (words : BoundWords) (image : ImageView) (v : Live) : Type 0 where
  pub place : ℕ
  pub pair : Pair
  pub named : slice_get words.pairs_are place ≡ Some pair
  pub level : v.mark.level ≡ pair.level
  pub handler : handler_of v ≡ even (number_at (image_rom image) (word_place (table_of words.table_is) pair) 4)

-- so has each that begins within the first n moves, and from the foreground there is room for the bound in the region
pub record KeepsToTable (words : BoundWords) (bytes : ℕ) (d : Dispatcher) (image : ImageView) (events : EventList) (n : ℕ) : Type 0 where
  pub listed : (j : ℕ) (s t : Servicing) (v : Live) → j < n → Begins shipped_meanings events.list (chain_board d image events) j s t v → IsOfTable words image v
  pub room : (j : ℕ) (s t : Servicing) (v : Live) → j < n → Begins shipped_meanings events.list (chain_board d image events) j s t v → s.live ≡ []
      → ((region_of words.low_is words.high_is).low + bytes ≤ pointer s) × (pointer s ≤ (region_of words.low_is words.high_is).high)

-- while a service is live, no move breaks the convention in one of four kinds, and the stack pointer is never lower than that of the latest Enter from the foreground less the bound
pub record IsWithin (bytes : ℕ) (events : EventList) (t : Servicing) : Type 0 where
  pub kinds : (v : Live) (vs : List Live) (when : When) (kind : BrokenBy) (n : ℕ) → t.live ≡ v ∷ vs → move shipped_meanings events.list t ≡ Breaks when kind n → IsOther kind
  pub pointer : (v : Live) (vs : List Live) → t.live ≡ v ∷ vs → outermost t.live ≤ register t.registers 2 + bytes

-- where `bound` gives so many bytes, and the services keep to the table
abbrev pub BoundHolds : Dispatcher → ImageView → EventList → Type 0
BoundHolds d image events = (words : BoundWords) (bytes n : ℕ) (t : Servicing) → bound_made words image ≡ bounded bytes
    → KeepsToTable words bytes d image events n → StandsAfter d image events n t → IsWithin bytes events t

-- ---- a chain that is broken

-- it is broken by the move that is due after so many others
pub record IsBrokenAt (d : Dispatcher) (image : ImageView) (events : EventList) (kind : BrokenBy) (bodies n : ℕ) : Type 0 where
  pub state : Servicing
  pub when : When
  pub stands : StandsAfter d image events n state
  pub breaks : move shipped_meanings events.list state ≡ Breaks when kind bodies

-- so that where it kept to the table until then, it is broken in the foreground, or in another kind
abbrev pub BreaksElsewhere : Dispatcher → ImageView → EventList → Type 0
BreaksElsewhere d image events = (bound : ℕ) (kind : BrokenBy) (bodies : ℕ) → (chain_end shipped_meanings events.list d bound (chain_board d image events)).end ≡ broken kind bodies
    → (n : ℕ) × (at : IsBrokenAt d image events kind bodies n) × ((words : BoundWords) (bytes : ℕ) → bound_made words image ≡ bounded bytes → KeepsToTable words bytes d image events n → (at.state.live ≡ []) ⊎ IsOther kind)

-- ---- all of it, of an image's chain without direct services

pub record IsChecked (d : Dispatcher) (image : ImageView) (events : EventList) : Type 0 where
  pub yes : YesHolds d image events
  pub bound : BoundHolds d image events
  pub end : BreaksElsewhere d image events

-- with direct services the checker says nothing
abbrev pub IsCheckedBy : Bool → Dispatcher → ImageView → EventList → Type 0
IsCheckedBy false d image events = IsChecked d image events
IsCheckedBy true d image events = Unit {0}
