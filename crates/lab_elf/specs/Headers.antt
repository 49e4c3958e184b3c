-- The headers of sections and of segments.
use Rattle.std.specs.Prelude.{ℕ, zero, suc, ◌+◌, Bool, ◌==◌, bit_and, List, [], ◌∷◌}
use Rattle.lab_elf.specs.Header.{word_at, section_offset, section_count, program_offset, program_count}
use Rattle.lab_elf.specs.declared.section.Section.{Section}
use Rattle.lab_elf.specs.declared.program.Program.{Program}

-- ---- sections

-- the section whose header stands at a place
unfoldable pub section_at : ℕ → List ℕ → Section
section_at place bytes = record {
  place = place;
  kind = word_at (place + 4) bytes;
  flags = word_at (place + 8) bytes;
  address = word_at (place + 12) bytes;
  offset = word_at (place + 16) bytes;
  size = word_at (place + 20) bytes;
  link = word_at (place + 24) bytes;
  entry_size = word_at (place + 36) bytes;
}

-- so many sections, whose headers stand one after the other from a place on
abbrev pub sections_from : ℕ → ℕ → List ℕ → List Section
sections_from zero place bytes = []
sections_from (suc n) place bytes = section_at place bytes ∷ sections_from n (place + 40) bytes

-- the file's sections
abbrev pub sections : List ℕ → List Section
sections bytes = sections_from (section_count bytes) (section_offset bytes) bytes

-- ---- flags of a section

-- it stands in memory while the program runs
abbrev pub alloc : ℕ
alloc = 2

-- it has instructions
abbrev pub executable : ℕ
executable = 4

-- the section has all of these flags
abbrev pub has_flags : ℕ → Section → Bool
has_flags wanted s = bit_and s.flags wanted == wanted

-- ---- segments

-- the segment whose program header stands at a place
unfoldable pub program_at : ℕ → List ℕ → Program
program_at place bytes = record {
  kind = word_at place bytes;
  offset = word_at (place + 4) bytes;
  virtual_address = word_at (place + 8) bytes;
  physical_address = word_at (place + 12) bytes;
  file_size = word_at (place + 16) bytes;
  memory_size = word_at (place + 20) bytes;
}

abbrev pub programs_from : ℕ → ℕ → List ℕ → List Program
programs_from zero place bytes = []
programs_from (suc n) place bytes = program_at place bytes ∷ programs_from n (place + 32) bytes

-- the file's segments
abbrev pub programs : List ℕ → List Program
programs bytes = programs_from (program_count bytes) (program_offset bytes) bytes
