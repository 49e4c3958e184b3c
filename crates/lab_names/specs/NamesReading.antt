-- What reading names line by line gives: a table, or the first thing that is wrong, with its line.
use Rattle.std.specs.Prelude.{◌≡◌, ℕ, ◌+◌, List, [], ◌∷◌, ◌++◌, length, take, drop, nat_le, ◌==◌, ◌&&◌, slice_index, Bool, Option, Some, None, if◌then◌else◌, Result, Ok, Err}
use Rattle.hart_words.specs.Lines.{lines_of}
use Rattle.hart_words.specs.InTurn.{◌>>=◌}
use Rattle.asm_text.specs.Numbers.{digits_after}
use Rattle.lab_names.specs.Name.{NameView, is_name}
use Rattle.lab_names.specs.Table.{table_of}
use Rattle.lab_names.specs.NamesFile.{most_names}
use Rattle.lab_names.specs.declared.names_why.NamesWhy.{NamesWhy}
use Rattle.lab_names.specs.declared.names_why.NamesWhy.TheVariants.{BadLine, TooMany}
use Rattle.lab_names.specs.declared.names_error.NamesError.{NamesError}
use Rattle.lab_names.specs.declared.names_error.NamesError.TheVariants.{Memory, Refused}

-- what is wrong, and in which line
pub record Fault : Type 0 where
  pub line : ℕ
  pub why : NamesWhy

-- ---- a line

-- a name at the address that was read
abbrev pub with_address : Option ℕ → List ℕ → Option NameView
with_address None name = None
with_address (Some at) name = Some (record { address = at; name = name })

-- a space follows the digits, and a name the space
abbrev pub has_parts : List ℕ → Bool
has_parts line = slice_index line 8 == 32 && is_name (drop 9 line)

-- the name of a line
unfoldable pub name_in : List ℕ → Option NameView
name_in line = if has_parts line then with_address (digits_after 16 0 (take 8 line)) (drop 9 line) else None

-- the line is empty
abbrev pub is_passed : List ℕ → Bool
is_passed line = length line == 0

-- ---- all lines

abbrev pub in_line : ℕ → NamesWhy → Result (List NameView) Fault
in_line n why = Err (record { line = n; why = why })

-- the names with one more, which stands in line n
abbrev pub with_one : NameView → ℕ → List NameView → Result (List NameView) Fault
with_one name n before = if nat_le most_names (length before) then in_line n TooMany else Ok (before ++ name ∷ [])

abbrev pub with_found : Option NameView → ℕ → List NameView → Result (List NameView) Fault
with_found None n before = in_line n BadLine
with_found (Some name) n before = with_one name n before

-- the names after line n
unfoldable pub with_line : List ℕ → ℕ → List NameView → Result (List NameView) Fault
with_line line n before = if is_passed line then Ok before else with_found (name_in line) n before

-- the names after these lines, the first of which is line n
unfoldable pub with_lines : List (List ℕ) → ℕ → List NameView → Result (List NameView) Fault
with_lines [] n before = Ok before
with_lines (line ∷ lines) n before = with_line line n before >>= λ ns. with_lines lines (n + 1) ns

-- the names of a file, in its order
unfoldable pub listed : List ℕ → Result (List NameView) Fault
listed bytes = with_lines (lines_of bytes) 1 []

-- the table of a file's names
unfoldable pub names_of : List ℕ → Result (List NameView) Fault
names_of bytes = listed bytes >>= λ ns. Ok (table_of ns)

-- ---- what a function answers

-- it refused what reading refuses, or memory was wanting
abbrev pub Fails : {A : Type 0} → NamesError → Result A Fault → Type 0
Fails Memory read = Unit {0}
Fails (Refused line why) read = read ≡ Err (record { line = line; why = why })

-- it answered what reading gives, unless memory was wanting
abbrev pub Gives : {X : Type 0} → (X → List NameView) → Result X NamesError → Result (List NameView) Fault → Type 0
Gives view (Ok x) read = read ≡ Ok (view x)
Gives view (Err e) read = Fails e read

-- it made the names what reading gives; after an Err they are as they were
abbrev pub Becomes : List NameView → List NameView → Result (Unit {0}) NamesError → Result (List NameView) Fault → Type 0
Becomes old new (Ok done) read = read ≡ Ok new
Becomes old new (Err e) read = (new ≡ old) × Fails e read
