use Rattle.std.proofs.Common.{◌≡◌, drop, map}
use Rattle.asm_text.specs.Words.{word_at}
use Rattle.asm_forms.specs.Statements.{chosen}
use Rattle.asm_forms.specs.Seen.{form_rows}
use Rattle.asm_forms.specs.declared.asm_why.AsmWhy.TheVariants.{UnknownMnemonic}
use Rattle.asm_forms.proofs.statements.chosen.Given as goal

abbrev pub invariant-loop-form : goal.invariant-loop-form
invariant-loop-form l = chosen (form_rows (drop l.form-index l.table)) l.why l.name (map (word_at l.line) (drop l.at l.tokens)) ≡ chosen (form_rows l.table) UnknownMnemonic l.name (map (word_at l.line) (drop l.at l.tokens))
