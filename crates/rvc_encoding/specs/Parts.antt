-- The parts of the table that the decoder's functions read.
use Rattle.std.specs.Prelude.{ℕ, Option, filter, bit_and, ◌==◌}
use Rattle.rvc_encoding.specs.Rows.{row_of, all_rows, first_of}
use Rattle.rvc_encoding.specs.declared.compressed.Cins.{Cins}

-- the instruction that the half-word spells by the rows with this quadrant and function
unfoldable pub part : ℕ → ℕ → Option Cins
part group h = first_of (filter (λ n. bit_and (row_of n).match 0xE003 == group) all_rows) h
