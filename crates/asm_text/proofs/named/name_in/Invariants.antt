use Rattle.std.proofs.Common.{◌≡◌, drop}
use Rattle.asm_text.specs.Names.{name_in}
use Rattle.asm_text.specs.Tables.{rows_of}
use Rattle.asm_text.proofs.named.name_in.Given as goal

abbrev pub invariant-loop-row : goal.invariant-loop-row
invariant-loop-row l = name_in (rows_of (drop l.row-index l.table)) l.number ≡ name_in (rows_of l.table) l.number
