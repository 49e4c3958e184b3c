-- The tables of the code, as names with their numbers.
use Rattle.std.specs.Prelude.{ℕ, List, map}
use Rattle.asm_text.specs.Names.{Names}
use Rattle.asm_text.specs.declared.named.Named.{Named}

abbrev pub row_of : Named → List ℕ × ℕ
row_of named = (named.name.now, named.number)

abbrev pub rows_of : List Named → Names
rows_of table = map row_of table
