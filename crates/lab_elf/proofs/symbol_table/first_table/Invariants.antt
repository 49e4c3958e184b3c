use Rattle.std.proofs.Common.{◌≡◌, ◌+◌, ◌*◌, ◌-◌}
use Rattle.lab_elf.specs.Header.{section_count, section_offset}
use Rattle.lab_elf.specs.Headers.{sections, sections_from}
use Rattle.lab_elf.specs.Symbols.{first_of_kind, table_kind}
use Rattle.lab_elf.proofs.symbol_table.first_table.Given as goal

-- the first is that of the sections that are left
abbrev pub invariant-loop-k : goal.invariant-loop-k
invariant-loop-k l = first_of_kind table_kind (sections_from (section_count l.bytes - l.k) (section_offset l.bytes + 40 * l.k) l.bytes) ≡ first_of_kind table_kind (sections l.bytes)
