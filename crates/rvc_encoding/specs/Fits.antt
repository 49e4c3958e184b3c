-- Which compressed instructions some half-word spells.
use Rattle.std.specs.Prelude.{Bool, ◌&&◌}
use Rattle.rvc_encoding.specs.declared.compressed.Cins.{Cins}
use Rattle.rvc_encoding.specs.Fields.{names, spells_value}
use Rattle.rvc_encoding.specs.Rows.{row_of, allowed}

-- the fields of its row can hold what it has, and the row allows that
abbrev pub fits_row : Cins → Bool
fits_row c = names (row_of c.row).first c.a && names (row_of c.row).second c.b && spells_value (row_of c.row).immediate c.imm && allowed c
