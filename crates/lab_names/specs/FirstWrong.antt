-- The first line of a file of names in which something is wrong.
use Rattle.std.specs.Prelude.{◌≡◌, ℕ, ◌+◌, ◌≤◌, List, ◌∷◌, ◌++◌, length}
use Rattle.hart_words.specs.Lines.{lines_of}
use Rattle.lab_names.specs.Name.{NameView}
use Rattle.lab_names.specs.NamesFile.{IsPassed, Spells, Tell, most_names}
use Rattle.lab_names.specs.declared.names_why.NamesWhy.{NamesWhy}
use Rattle.lab_names.specs.declared.names_why.NamesWhy.TheVariants.{BadLine, TooMany}
use Rattle.lab_names.specs.declared.names_error.NamesError.{NamesError}
use Rattle.lab_names.specs.declared.names_error.NamesError.TheVariants.{Memory, Refused}

-- this is wrong with the line, after these names
abbrev pub IsWrong : List ℕ → List NameView → NamesWhy → Type 0
IsWrong line before BadLine = (IsPassed line → ⊥) × ((n : NameView) → Spells line n → ⊥)
IsWrong line before TooMany = (n : NameView) × Spells line n × (most_names ≤ length before)

-- the lines before it tell names, and this is wrong with it
pub record IsFirstWrong (bytes : List ℕ) (number : ℕ) (why : NamesWhy) : Type 0 where
  pub front : List (List ℕ)
  pub line : List ℕ
  pub behind : List (List ℕ)
  pub lines : lines_of bytes ≡ front ++ line ∷ behind
  pub number_is : number ≡ length front + 1
  pub before : List NameView
  pub told : Tell front before
  pub few : length before ≤ most_names
  pub wrong : IsWrong line before why

-- it refused the first line in which something is wrong, or memory was wanting
abbrev pub RefusesFirst : List ℕ → NamesError → Type 0
RefusesFirst bytes Memory = Unit {0}
RefusesFirst bytes (Refused number why) = IsFirstWrong bytes number why
