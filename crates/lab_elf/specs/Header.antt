-- The numbers of an ELF file, and its header.
use Rattle.std.specs.Prelude.{ℕ, ◌+◌, ◌*◌, ◌≤◌, ◌≡◌, ◌⊎◌, Bool, not, ◌&&◌, ◌==◌, nat_lt, List, [], ◌∷◌, drop, length, slice_index, Result}
use Rattle.byteorder.specs.Endian.{little_number}
use Rattle.hart_words.specs.InTurn.{◌>>=◌}
use Rattle.lab_elf.specs.Fault.{Fault, Test, test, first_of}
use Rattle.lab_elf.specs.declared.elf_why.ElfWhy.TheVariants.{Truncated, BadMagic, BadClass, BadOrder, NotLinked, NotRiscV, BadHeader, NoSections}

-- ---- numbers, the lowest byte first

-- the number in the two bytes at a place
unfoldable pub half_at : ℕ → List ℕ → ℕ
half_at place bytes = little_number 2 (drop place bytes)

-- the number in the four bytes at a place
unfoldable pub word_at : ℕ → List ℕ → ℕ
word_at place bytes = little_number 4 (drop place bytes)

-- a part of so many bytes from an offset on ends within the file
abbrev pub is_inside : ℕ → ℕ → List ℕ → Bool
is_inside offset size bytes = not (nat_lt (length bytes) (offset + size))

-- ---- the header's fields

-- where execution begins
abbrev pub entry : List ℕ → ℕ
entry bytes = word_at 24 bytes

-- where the program headers stand, how long one is, and how many there are
abbrev pub program_offset : List ℕ → ℕ
program_offset bytes = word_at 28 bytes

abbrev pub program_size : List ℕ → ℕ
program_size bytes = half_at 42 bytes

abbrev pub program_count : List ℕ → ℕ
program_count bytes = half_at 44 bytes

-- where the section headers stand, how long one is, and how many there are
abbrev pub section_offset : List ℕ → ℕ
section_offset bytes = word_at 32 bytes

abbrev pub section_size : List ℕ → ℕ
section_size bytes = half_at 46 bytes

abbrev pub section_count : List ℕ → ℕ
section_count bytes = half_at 48 bytes

-- ---- what may be wrong with it, in this order

-- 7F and ELF, as a number
abbrev pub magic : ℕ
magic = 0x464C457F

-- an executable of RISC-V with 32 bits
abbrev pub kind_tests : List ℕ → List Test
kind_tests bytes =
    test (nat_lt (length bytes) 4) Truncated 0
    ∷ test (not (word_at 0 bytes == magic)) BadMagic 0
    ∷ test (nat_lt (length bytes) 52) Truncated 4
    ∷ test (not (slice_index bytes 4 == 1)) BadClass 4
    ∷ test (not (slice_index bytes 5 == 1)) BadOrder 5
    ∷ test (not (half_at 16 bytes == 2)) NotLinked 16
    ∷ test (not (half_at 18 bytes == 243)) NotRiscV 18
    ∷ []

-- the headers of segments, where there are any, and then those of sections are whole
abbrev pub table_tests : List ℕ → List Test
table_tests bytes =
    test (not (program_count bytes == 0) && not (program_size bytes == 32)) BadHeader 42
    ∷ test (not (program_count bytes == 0) && not (is_inside (program_offset bytes) (32 * program_count bytes) bytes)) Truncated 28
    ∷ test (section_count bytes == 0) NoSections 48
    ∷ test (not (section_size bytes == 40)) BadHeader 46
    ∷ test (not (is_inside (section_offset bytes) (40 * section_count bytes) bytes)) Truncated 32
    ∷ []

-- nothing is wrong with the header, or this is
unfoldable pub header_of : List ℕ → Result (Unit {0}) Fault
header_of bytes = first_of (kind_tests bytes) >>= λ done. first_of (table_tests bytes)

-- what a good header leaves to know: all that it speaks of is in the file
pub record IsWhole (bytes : List ℕ) : Type 0 where
  pub header : 52 ≤ length bytes
  pub programs : (program_count bytes ≡ 0) ⊎ (program_offset bytes + 32 * program_count bytes ≤ length bytes)
  pub sections : section_offset bytes + 40 * section_count bytes ≤ length bytes
