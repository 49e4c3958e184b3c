-- The times of the handlers in a table.
use Rattle.std.specs.Prelude.{◌≡◌, ◌≤◌, ℕ, false, List, [], map, Result, Ok, Err}
use Rattle.hart_exec.specs.Effect.{even}
use Rattle.hart_memory.specs.Bytes.{number_at}
use Rattle.chain_flow.specs.declared.region.Region.{Region}
use Rattle.chain_lint.specs.Tables.{word_place, is_bad_word, table_bound}
use Rattle.chain_lint.specs.declared.pair.Pair.{Pair}
use Rattle.chain_lint.specs.declared.table_bound.TableBound.{TableBound}
use Rattle.chain_lint.specs.declared.table_bound.TableBound.TheVariants.{Bound, BadTable as BadWord, Refused as RefusedBound}
use Rattle.chain_time.specs.Path.{path}
use Rattle.chain_time.specs.Counts.{Timed}
use Rattle.chain_time.specs.declared.triple.Triple.{Triple}
use Rattle.chain_time.specs.declared.table_fault.TableFault.{TableFault}
use Rattle.chain_time.specs.declared.table_fault.TableFault.TheVariants.{BadTable, Refused}

-- the input with its level alone
abbrev pub pair_of : Triple → Pair
pair_of q = record { input = q.input; level = q.level }

-- the handler that the table names
abbrev pub handler_in : List ℕ → ℕ → Triple → ℕ
handler_in code table q = even (number_at code (word_place table (pair_of q)) 4)

-- its input with the longest way through it
abbrev pub timed : List ℕ → ℕ → Triple → Timed
timed code table q = record { input = q.input; level = q.level; handler = handler_in code table q; path = path code (handler_in code table q); count = q.count }

-- by how much stack they use together: where that is refused, so are the times
abbrev pub times_by : List ℕ → ℕ → List Triple → TableBound → Result (List Timed) TableFault
times_by code table qs (Bound bytes) = Ok (map (λ q. timed code table q) qs)
times_by code table qs (BadWord at) = Err (BadTable at)
times_by code table qs (RefusedBound why at) = Err (Refused why at)

-- the inputs of these triples with the longest ways through the handlers that the table names; or the first word or handler that is refused
unfoldable pub table_times : List ℕ → Region → ℕ → List Triple → Result (List Timed) TableFault
table_times code region table qs = times_by code table qs (table_bound code region table (map (λ q. pair_of q) qs) [])

-- the level is one that a service can have
pub record IsTriple (q : Triple) : Type 0 where
  pub level : 1 ≤ q.level

-- the word is in ROM outside the slot
abbrev pub HasGoodWord : ℕ → Triple → Type 0
HasGoodWord table q = is_bad_word (word_place table (pair_of q)) ≡ false
