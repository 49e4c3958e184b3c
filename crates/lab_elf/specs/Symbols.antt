-- The names that an ELF file's symbol table gives.
use Rattle.std.specs.Prelude.{ℕ, zero, suc, ◌+◌, ◌≤◌, ◌/◌, ◌%◌, Bool, false, not, ◌&&◌, ◌||◌, ◌==◌, nat_lt, nat_le, List, [], ◌∷◌, ◌++◌, length, take, drop, slice_index, position, Option, Some, None, if◌then◌else◌, Result, Ok}
use Rattle.std.specs.List.{list_all, slice_get}
use Rattle.hart_words.specs.InTurn.{◌>>=◌}
use Rattle.lab_names.specs.Name.{NameView, is_name_byte}
use Rattle.lab_elf.specs.Fault.{Fault, Test, test, first_of, at_place}
use Rattle.lab_elf.specs.Header.{half_at, word_at, is_inside, header_of}
use Rattle.lab_elf.specs.Headers.{sections, alloc, executable, has_flags}
use Rattle.lab_elf.specs.declared.elf_why.ElfWhy.TheVariants.{Truncated, BadHeader, TooMany, NoSymbols, BadLink, BadName}
use Rattle.lab_elf.specs.declared.section.Section.{Section}
use Rattle.lab_elf.specs.declared.symbol.Symbol.{Symbol}
use Rattle.lab_elf.specs.declared.symbol_table.Tables.{Tables}

-- ---- the table

-- the first section of a kind
abbrev pub first_of_kind : ℕ → List Section → Option Section
first_of_kind kind [] = None
first_of_kind kind (s ∷ ss) = if s.kind == kind then Some s else first_of_kind kind ss

-- the symbol table has kind 2, and its strings kind 3
abbrev pub table_kind : ℕ
table_kind = 2

abbrev pub strings_kind : ℕ
strings_kind = 3

-- its entries have 16 bytes, and all are in the file
abbrev pub table_tests : Section → List ℕ → List Test
table_tests t bytes =
    test (not (t.entry_size == 16) || not (t.size % 16 == 0)) BadHeader t.place
    ∷ test (not (is_inside t.offset t.size bytes)) Truncated t.place
    ∷ []

-- the strings are a section of strings, and all are in the file
abbrev pub strings_in : Section → Option Section → List ℕ → Result Section Fault
strings_in t None bytes = at_place t.place BadLink
strings_in t (Some s) bytes =
    if not (s.kind == strings_kind) then at_place t.place BadLink
    else (if not (is_inside s.offset s.size bytes) then at_place s.place Truncated else Ok s)

abbrev pub with_strings : Section → List ℕ → Result Tables Fault
with_strings t bytes = do
  whole ← first_of (table_tests t bytes)
  s ← strings_in t (slice_get (sections bytes) t.link) bytes
  Ok (record { table = t; strings = s })

abbrev pub tables_by : Option Section → List ℕ → Result Tables Fault
tables_by None bytes = at_place 48 NoSymbols
tables_by (Some t) bytes = with_strings t bytes

-- both are in the file
pub record AreInFile (t : Tables) (bytes : List ℕ) : Type 0 where
  pub table : t.table.offset + t.table.size ≤ length bytes
  pub strings : t.strings.offset + t.strings.size ≤ length bytes

-- the file's first symbol table, with its strings
unfoldable pub tables_of : List ℕ → Result Tables Fault
tables_of bytes = tables_by (first_of_kind table_kind (sections bytes)) bytes

-- ---- a symbol

-- the symbol that stands at a place
unfoldable pub symbol_at : ℕ → List ℕ → Symbol
symbol_at place bytes = record {
  place = place;
  name = word_at place bytes;
  value = word_at (place + 4) bytes;
  kind = slice_index bytes (place + 12) % 16;
  section = half_at (place + 14) bytes;
}

-- a section with these flags
abbrev pub has_flags_there : ℕ → Option Section → Bool
has_flags_there wanted None = false
has_flags_there wanted (Some s) = has_flags wanted s

-- it has a name, is of no kind, an object or a function, and stands in a section with these flags
abbrev pub is_listed : ℕ → List ℕ → Symbol → Bool
is_listed wanted bytes s = nat_lt s.kind 3 && (not (s.name == 0) && has_flags_there wanted (slice_get (sections bytes) s.section))

-- all strings
abbrev pub strings_of : Section → List ℕ → List ℕ
strings_of s bytes = take s.size (drop s.offset bytes)

-- what stands from a name on among the strings, at most a byte more than a name has
abbrev pub name_bytes : ℕ → List ℕ → List ℕ
name_bytes name strings = take 1025 (drop name strings)

-- no name, a mark of the assembler's ($), or a label of its own (.L)
abbrev pub is_hidden : List ℕ → Bool
is_hidden text = (nat_lt 0 (length text) && (slice_index text 0 == 0 || slice_index text 0 == 36)) || (slice_index text 0 == 46 && slice_index text 1 == 76)

-- the text up to its first byte 0, where all before it may stand in a name
abbrev pub name_by : Option ℕ → List ℕ → Option (List ℕ)
name_by None text = None
name_by (Some end) text = if list_all is_name_byte (take end text) then Some (take end text) else None

unfoldable pub name_in : List ℕ → Option (List ℕ)
name_in text = name_by (position (λ byte. byte == 0) text) text

-- so many names are written at most
abbrev pub most_symbols : ℕ
most_symbols = 65_536

abbrev pub with_name : Symbol → Option (List ℕ) → List NameView → Result (List NameView) Fault
with_name s None before = at_place s.place BadName
with_name s (Some name) before =
    if nat_le most_symbols (length before) then at_place s.place TooMany
    else Ok (before ++ record { address = s.value; name = name } ∷ [])

abbrev pub with_text : Symbol → List ℕ → List NameView → Result (List NameView) Fault
with_text s text before = if is_hidden text then Ok before else with_name s (name_in text) before

-- the names after a symbol
unfoldable pub with_symbol : ℕ → List ℕ → List ℕ → Symbol → List NameView → Result (List NameView) Fault
with_symbol wanted strings bytes s before = if is_listed wanted bytes s then with_text s (name_bytes s.name strings) before else Ok before

-- ---- all symbols

-- so many symbols from a place on
abbrev pub symbols_from : ℕ → ℕ → List ℕ → List Symbol
symbols_from zero place bytes = []
symbols_from (suc n) place bytes = symbol_at place bytes ∷ symbols_from n (place + 16) bytes

unfoldable pub with_symbols : ℕ → List ℕ → List ℕ → List Symbol → List NameView → Result (List NameView) Fault
with_symbols wanted strings bytes [] before = Ok before
with_symbols wanted strings bytes (s ∷ ss) before = with_symbol wanted strings bytes s before >>= λ next. with_symbols wanted strings bytes ss next

-- the flags of the sections whose symbols are wanted
abbrev pub wanted_flags : Bool → ℕ
wanted_flags is_code_only = if is_code_only then alloc + executable else alloc

-- the names of a file's symbols, in the order of its table, or the first thing that is wrong
unfoldable pub symbols_of : Bool → List ℕ → Result (List NameView) Fault
symbols_of is_code_only bytes = do
  header ← header_of bytes
  t ← tables_of bytes
  with_symbols (wanted_flags is_code_only) (strings_of t.strings bytes) bytes (symbols_from (t.table.size / 16) t.table.offset bytes) []
