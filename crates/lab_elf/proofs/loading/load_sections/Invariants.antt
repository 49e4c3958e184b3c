use Rattle.std.proofs.Common.{◌≡◌, ◌+◌, ◌*◌, ◌-◌, [], filter}
use Rattle.lab_elf.specs.Header.{section_count, section_offset}
use Rattle.lab_elf.specs.Headers.{sections, sections_from}
use Rattle.lab_elf.specs.Loading.{is_loaded, with_sections}
use Rattle.lab_elf.proofs.loading.load_sections.Given as goal

-- going on with the sections that are left gives what all give
abbrev pub invariant-loop-k : goal.invariant-loop-k
invariant-loop-k l = with_sections l.bytes (filter is_loaded (sections_from (section_count l.bytes - l.k) (section_offset l.bytes + 40 * l.k) l.bytes)) l.taken.items ≡ with_sections l.bytes (filter is_loaded (sections l.bytes)) []
