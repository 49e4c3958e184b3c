-- The lines that any command may write.
use Rattle.std.specs.Prelude.{ℕ, List, ◌++◌, codes}
use Rattle.hart_words.specs.Decimal.{decimal}

-- a line that ends with a name
unfoldable pub named_line : List ℕ → List ℕ → List ℕ
named_line start name = start ++ name ++ codes "\n"

-- a file that isn't there
abbrev pub absent_line : List ℕ → List ℕ
absent_line name = named_line (codes "absent ") name

-- a file that couldn't be read
abbrev pub failed_line : List ℕ → List ℕ
failed_line name = named_line (codes "shelf failed ") name

-- a file that is longer than its limit: its role
unfoldable pub too_large_line : List ℕ → List ℕ
too_large_line role = codes "refused " ++ role ++ codes " TooLarge\n"

-- a file that is refused: its role, the reason, and the place or the line
unfoldable pub refused_line : List ℕ → List ℕ → ℕ → List ℕ
refused_line role why number = codes "refused " ++ role ++ codes " " ++ why ++ codes " " ++ decimal number ++ codes "\n"
