-- A file of names: lines, each of which is empty or spells a name.
use Rattle.std.specs.Prelude.{◌≡◌, ℕ, ◌≤◌, ◌⊎◌, List, [], ◌∷◌, ◌++◌, length, Some, true}
use Rattle.hart_words.specs.Lines.{lines_of}
use Rattle.asm_text.specs.Numbers.{digits_after}
use Rattle.lab_names.specs.Name.{NameView, is_name}
use Rattle.lab_names.specs.Table.{table_of}

-- eight hexadecimal digits of either case, a space, and a name
pub record Spells (line : List ℕ) (n : NameView) : Type 0 where
  pub digits : List ℕ
  pub eight : length digits ≡ 8
  pub address : digits_after 16 0 digits ≡ Some n.address
  pub name : is_name n.name ≡ true
  pub line_is : line ≡ digits ++ 32 ∷ n.name

-- an empty line is passed over
abbrev pub IsPassed : List ℕ → Type 0
IsPassed line = line ≡ []

-- the lines tell these names, one after the other
abbrev pub Tell : List (List ℕ) → List NameView → Type 0
Tell [] ns = ns ≡ []
Tell (line ∷ lines) ns = (IsPassed line × Tell lines ns) ⊎ ((n : NameView) × (rest : List NameView) × (ns ≡ n ∷ rest) × Spells line n × Tell lines rest)

-- so many names a file has at most
abbrev pub most_names : ℕ
most_names = 65_536

-- the bytes are a file of these names
pub record IsNamesFile (bytes : List ℕ) (ns : List NameView) : Type 0 where
  pub lines : Tell (lines_of bytes) ns
  pub few : length ns ≤ most_names

-- the table of a file's names
pub record IsTableOfFile (bytes : List ℕ) (table : List NameView) : Type 0 where
  pub names : List NameView
  pub file : IsNamesFile bytes names
  pub table_is : table ≡ table_of names
