-- The lines that tell times.
use Rattle.std.specs.Prelude.{ℕ, List, [], ◌∷◌, ◌++◌, Option, Some, None, codes}
use Rattle.hart_words.specs.Decimal.{decimal}
use Rattle.hart_words.specs.Hexadecimal.{hex8}
use Rattle.lab_names.specs.Name.{NameView}
use Rattle.lab_names.specs.Table.{name_at}
use Rattle.chain_lint.specs.Texts.{table_line}
use Rattle.chain_lint.specs.declared.table_bound.TableBound.TheVariants.{BadTable as BadWord, Refused as RefusedBound}
use Rattle.chain_time.specs.Counts.{Timed, response, latency, burst}
use Rattle.chain_time.specs.Looping.{looping_burst}
use Rattle.chain_time.specs.declared.table_fault.TableFault.{TableFault}
use Rattle.chain_time.specs.declared.table_fault.TableFault.TheVariants.{BadTable, Refused}

-- the longest way through a handler, how long its input waits, and how long until its service has ended
unfoldable pub figures : Timed → ℕ → ℕ → List ℕ
figures r waits ends = codes " path " ++ decimal r.path ++ codes " latency " ++ decimal waits ++ codes " response " ++ decimal ends ++ codes "\n"

-- what a handler is called: the name of its address, or the address itself where that has none
abbrev pub called_by : ℕ → Option (List ℕ) → List ℕ
called_by handler None = hex8 handler
called_by handler (Some name) = name

abbrev pub called : List NameView → ℕ → List ℕ
called names handler = called_by handler (name_at handler names)

-- an input of a table
unfoldable pub time_line : List NameView → List Timed → Timed → List ℕ
time_line names rs r = codes "time " ++ decimal r.input ++ codes " " ++ called names r.handler ++ figures r (latency rs r) (response rs r)

-- how long the foreground stands still
unfoldable pub burst_line : List Timed → List ℕ
burst_line rs = codes "burst " ++ decimal (burst rs) ++ codes "\n"

-- and how long under the looping dispatcher
unfoldable pub looping_line : List Timed → List ℕ
looping_line rs = codes "looping burst " ++ decimal (looping_burst rs) ++ codes "\n"

-- the lines of these inputs of a table
abbrev pub time_lines : List NameView → List Timed → List Timed → List ℕ
time_lines names rs [] = []
time_lines names rs (r ∷ more) = time_line names rs r ++ time_lines names rs more

-- those of all inputs, and the two of the burst
abbrev pub times_text : List NameView → List Timed → List ℕ
times_text names rs = time_lines names rs rs ++ burst_line rs ++ looping_line rs

-- the line of a table that is refused is the one that refuses its bound
abbrev pub fault_line : TableFault → List ℕ
fault_line (BadTable at) = table_line (BadWord at)
fault_line (Refused why at) = table_line (RefusedBound why at)
