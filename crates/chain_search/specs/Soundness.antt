-- What a table of accepted handlers means for runs of the servicing machine.
use Rattle.std.specs.Prelude.{◌≡◌, ℕ, ◌+◌, ◌≤◌, ◌<◌, List, [], ◌∷◌, Some, slice_get}
use Rattle.device_model.specs.Meanings.{Meanings}
use Rattle.hart_words.specs.Registers.{register}
use Rattle.hart_board.specs.State.{State}
use Rattle.hart_board.specs.declared.event.Event.{Event}
use Rattle.chain_moves.specs.Servicing.{Live, Servicing}
use Rattle.chain_moves.specs.Enter.{pointer}
use Rattle.chain_moves.specs.Machine.{When, Breaks}
use Rattle.chain_moves.specs.Moves.{move}
use Rattle.chain_moves.specs.declared.broken.Broken.{Broken}
use Rattle.chain_flow.specs.declared.region.Region.{Region}
use Rattle.chain_lint.specs.Soundness.{Premises, IsAfter, Begins, handler_of, IsOther, outermost}
use Rattle.chain_lint.specs.Tables.{word_place}
use Rattle.chain_lint.specs.declared.pair.Pair.{Pair}
use Rattle.chain_search.specs.Tables.{named_at, AreTold, bound_told}
use Rattle.chain_search.specs.declared.pair_answer.PairAnswer.{PairAnswer}

-- a service has the level of a pair, and the handler that the table has for that pair's input
pub record IsOfTable (code : List ℕ) (table : ℕ) (pairs : List Pair) (v : Live) : Type 0 where
  pub place : ℕ
  pub pair : Pair
  pub named : slice_get pairs place ≡ Some pair
  pub level : v.mark.level ≡ pair.level
  pub handler : handler_of v ≡ named_at code (word_place table pair)

-- so has each that begins within the first n moves, and from the foreground there is room for so many bytes in the region
pub record KeepsToTable (m : Meanings) (es : List Event) (code : List ℕ) (region : Region) (table : ℕ) (pairs : List Pair) (bytes : ℕ) (b : State) (n : ℕ) : Type 0 where
  pub listed : (j : ℕ) (s t : Servicing) (v : Live) → j < n → Begins m es b j s t v → IsOfTable code table pairs v
  pub room : (j : ℕ) (s t : Servicing) (v : Live) → j < n → Begins m es b j s t v → s.live ≡ [] → (region.low + bytes ≤ pointer s) × (pointer s ≤ region.high)

-- while a service is live, no move breaks the convention in one of the four kinds, and the stack pointer is never lower than that of the latest Enter from the foreground less those bytes
pub record IsWithin (m : Meanings) (es : List Event) (bytes : ℕ) (t : Servicing) : Type 0 where
  pub kinds : (v : Live) (vs : List Live) (when : When) (kind : Broken) (bodies : ℕ) → t.live ≡ v ∷ vs → move m es t ≡ Breaks when kind bodies → IsOther kind
  pub pointer : (v : Live) (vs : List Live) → t.live ≡ v ∷ vs → outermost t.live ≤ register t.registers 2 + bytes

-- where each handler in a table is accepted, and the services keep to it
abbrev pub TableIsSound : Meanings → Type 0
TableIsSound m =
    (es : List Event) (code : List ℕ) (region : Region) (table : ℕ) (pairs : List Pair) (answers : List PairAnswer) (bytes : ℕ) (b : State) (n : ℕ) (t : Servicing)
    → AreTold code region table pairs answers → bound_told pairs answers ≡ Some bytes → Premises m es code region b → KeepsToTable m es code region table pairs bytes b n → IsAfter m es b n t → IsWithin m es bytes t
