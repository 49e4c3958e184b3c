-- An entry of the table of outcomes.
use Rattle.std.specs.Prelude.{ℕ, Option, Some, None}
use Rattle.board_outside.specs.Counts.{counted}
use Rattle.std.specs.declared.vec.Vec.{Vec}
use Rattle.lab_sweep.specs.Sweep.{Row}
use Rattle.lab_sweep.specs.declared.tally.Tally.{Tally}

abbrev pub row_of : {A : Type 0} → Vec ℕ A × Tally → Row
row_of e = record { outcome = e.0.items; counts = e.1.counts; first = e.1.first }

-- what an outcome had so far, with one count more
abbrev pub raised : ℕ → Option Tally → Tally
raised count None = record { counts = 1; first = count }
raised count (Some t) = record { counts = counted t.counts; first = t.first }
