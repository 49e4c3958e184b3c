-- The lines of a sweep.
use Rattle.std.specs.Prelude.{ℕ, List, ◌++◌, codes}
use Rattle.std.specs.List.{flat_map}
use Rattle.hart_words.specs.Decimal.{decimal}
use Rattle.lab_sweep.specs.Sweep.{Row}

-- how many counts gave an outcome, and the first
unfoldable pub tally_text : ℕ → ℕ → List ℕ
tally_text counts first = decimal counts ++ codes " " ++ decimal first ++ codes " "

-- `4 10 end halt 00000000 3:127:1`: behind them stands the outcome
unfoldable pub row_line : Row → List ℕ
row_line r = tally_text r.counts r.first ++ r.outcome ++ codes "\n"

-- a line for each outcome
abbrev pub rows_text : List Row → List ℕ
rows_text rows = flat_map row_line rows
