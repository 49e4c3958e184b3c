-- The lines that tell a verdict and a bound.
use Rattle.std.specs.Prelude.{ℕ, List, ◌++◌, codes}
use Rattle.hart_words.specs.Decimal.{decimal}
use Rattle.hart_words.specs.Hexadecimal.{hex8}
use Rattle.chain_flow.specs.declared.lint_why.LintWhy.{LintWhy}
use Rattle.chain_flow.specs.declared.lint_why.LintWhy.TheVariants.{TooLong, CodeOutside, NotSpelled, System, Backwards, UnknownTarget, UnknownAddress, StackAccess, RegionAccess, StackPointer, RegisterChanged}
use Rattle.chain_flow.specs.declared.verdict.Verdict.{Verdict}
use Rattle.chain_flow.specs.declared.verdict.Verdict.TheVariants.{Yes, No}
use Rattle.chain_lint.specs.declared.table_bound.TableBound.{TableBound}
use Rattle.chain_lint.specs.declared.table_bound.TableBound.TheVariants.{Bound, BadTable, Refused}

-- a rule, by name
abbrev pub why_name : LintWhy → List ℕ
why_name TooLong = codes "TooLong"
why_name CodeOutside = codes "CodeOutside"
why_name NotSpelled = codes "NotSpelled"
why_name System = codes "System"
why_name Backwards = codes "Backwards"
why_name UnknownTarget = codes "UnknownTarget"
why_name UnknownAddress = codes "UnknownAddress"
why_name StackAccess = codes "StackAccess"
why_name RegionAccess = codes "RegionAccess"
why_name StackPointer = codes "StackPointer"
why_name RegisterChanged = codes "RegisterChanged"

-- what is refused: the reason, and the address
unfoldable pub no_line : List ℕ → ℕ → List ℕ
no_line why at = codes "no " ++ why ++ codes " " ++ hex8 at ++ codes "\n"

-- a handler that is accepted: the bytes that it uses
unfoldable pub yes_line : ℕ → List ℕ
yes_line uses = codes "yes " ++ decimal uses ++ codes "\n"

-- the bytes that all handlers use together
unfoldable pub bound_line : ℕ → List ℕ
bound_line bytes = codes "bound " ++ decimal bytes ++ codes "\n"

abbrev pub verdict_line : Verdict → List ℕ
verdict_line (Yes uses) = yes_line uses
verdict_line (No why at) = no_line (why_name why) at

abbrev pub table_line : TableBound → List ℕ
table_line (Bound bytes) = bound_line bytes
table_line (BadTable at) = no_line (codes "BadTable") at
table_line (Refused why at) = no_line (why_name why) at
