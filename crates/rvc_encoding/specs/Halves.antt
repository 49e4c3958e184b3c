-- The half-word of each compressed instruction, and the lengths of instructions.
use Rattle.std.specs.Prelude.{ℕ, ◌+◌, if◌then◌else◌}
use Rattle.hart_words.specs.Length.{is_long}
use Rattle.rvc_encoding.specs.declared.compressed.Cins.{Cins}
use Rattle.rvc_encoding.specs.Fields.{register_bits, immediate_bits}
use Rattle.rvc_encoding.specs.Rows.{row_of}

-- the match of its row, with its fields in their places
unfoldable pub half_of : Cins → ℕ
half_of c = (row_of c.row).match + (register_bits (row_of c.row).first c.a + register_bits (row_of c.row).second c.b + immediate_bits (row_of c.row).immediate c.imm)

-- how many bytes the instruction has that begins with a half-word
abbrev pub length_of : ℕ → ℕ
length_of h = if is_long h then 4 else 2
