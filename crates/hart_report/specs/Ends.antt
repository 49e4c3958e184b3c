-- How a report begins: how it ended, and after how many steps.
use Rattle.std.specs.Prelude.{ℕ, List, ◌++◌, codes}
use Rattle.hart_words.specs.Decimal.{decimal}
use Rattle.hart_words.specs.Hexadecimal.{hex8}

-- the board has halted, with this code
unfoldable pub halt_end : ℕ → List ℕ
halt_end code = codes "end halt " ++ hex8 code ++ codes "\n"

-- the bound was reached
unfoldable pub budget_end : List ℕ
budget_end = codes "end budget\n"

-- the table's word for this input isn't in memory
unfoldable pub vector_end : ℕ → List ℕ
vector_end id = codes "end vector " ++ decimal id ++ codes "\n"

unfoldable pub steps_line : ℕ → List ℕ
steps_line n = codes "steps " ++ decimal n ++ codes "\n"
