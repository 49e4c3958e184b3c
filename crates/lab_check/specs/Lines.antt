-- The lines that tell what is known of the handlers in a table.
use Rattle.std.specs.Prelude.{ℕ, zero, suc, Bool, true, false, List, [], ◌∷◌, ◌++◌, Option, Some, None, codes}
use Rattle.hart_words.specs.Decimal.{decimal}
use Rattle.hart_words.specs.Hexadecimal.{hex8}
use Rattle.chain_flow.specs.declared.lint_why.LintWhy.{LintWhy}
use Rattle.chain_lint.specs.Tables.{word_place, is_bad_word}
use Rattle.chain_lint.specs.Texts.{why_name, no_line, yes_line, bound_line}
use Rattle.chain_lint.specs.declared.pair.Pair.{Pair}
use Rattle.chain_search.specs.Tables.{named_at, bound_told}
use Rattle.chain_search.specs.declared.pair_answer.PairAnswer.{PairAnswer}
use Rattle.chain_search.specs.declared.pair_answer.PairAnswer.TheVariants.{BadTable, Accepted, Refused}
use Rattle.lab_names.specs.Name.{NameView}
use Rattle.lab_names.specs.Table.{name_at, at_or_below}

-- ---- the handler

abbrev pub unless_bad : Bool → ℕ → Option ℕ
unless_bad true at = None
unless_bad false at = Some at

-- the handler that the table's word at a place names, where that word is good
abbrev pub handler_at : List ℕ → ℕ → Option ℕ
handler_at code place = unless_bad (is_bad_word place) (named_at code place)

-- a name, or the digits of its address
abbrev pub name_or : ℕ → Option (List ℕ) → List ℕ
name_or at None = hex8 at
name_or at (Some name) = name

-- `handler_16`, or `00000246`, or `-` where there is none
abbrev pub handler_text : List NameView → Option ℕ → List ℕ
handler_text names None = codes "-"
handler_text names (Some at) = name_or at (name_at at names)

-- ---- the place that is refused

-- how far behind the name, where it is
abbrev pub offset_text : ℕ → List ℕ
offset_text zero = []
offset_text (suc n) = codes "+" ++ decimal (suc n)

abbrev pub place_by : Option (List ℕ × ℕ) → List ℕ
place_by None = []
place_by (Some (name, offset)) = codes " " ++ (name ++ offset_text offset)

-- ` handler_16+8`: the name at or below an address, where there is one
abbrev pub place_text : List NameView → ℕ → List ℕ
place_text names at = place_by (at_or_below at names)

-- ---- a line

-- `16 127 `: an input and its level
unfoldable pub pair_start : Pair → List ℕ
pair_start p = decimal p.input ++ codes " " ++ decimal p.level ++ codes " "

-- `no RegionAccess 0000024A`
unfoldable pub no_start : List ℕ → ℕ → List ℕ
no_start why at = codes "no " ++ why ++ codes " " ++ hex8 at

abbrev pub refused_text : List NameView → LintWhy → ℕ → List ℕ
refused_text names why at = no_start (why_name why) at ++ (place_text names at ++ codes "\n")

-- what is told of a handler
abbrev pub answer_text : List NameView → PairAnswer → List ℕ
answer_text names (Accepted uses) = yes_line uses
answer_text names (BadTable at) = no_line (codes "BadTable") at
answer_text names (Refused why at) = refused_text names why at

-- `16 127 handler_16 yes 64`
unfoldable pub answer_line : List NameView → Option ℕ → Pair → PairAnswer → List ℕ
answer_line names handler p a = pair_start p ++ (handler_text names handler ++ (codes " " ++ answer_text names a))

-- a line for each pair that has an answer
unfoldable pub answer_lines : List NameView → List ℕ → ℕ → List Pair → List PairAnswer → List ℕ
answer_lines names code table [] bs = []
answer_lines names code table (p ∷ ps) [] = []
answer_lines names code table (p ∷ ps) (a ∷ bs) = answer_line names (handler_at code (word_place table p)) p a ++ answer_lines names code table ps bs

-- ---- all of it

abbrev pub bound_text : Option ℕ → List ℕ
bound_text None = []
bound_text (Some bytes) = bound_line bytes

-- the lines, and where each handler is accepted the bytes that they use together
unfoldable pub table_text : List NameView → List ℕ → ℕ → List Pair → List PairAnswer → List ℕ
table_text names code table ps bs = answer_lines names code table ps bs ++ bound_text (bound_told ps bs)
