-- What a line says.
use Rattle.std.specs.Prelude.{◌≡◌, ℕ, true, cond, List, [], ◌∷◌, drop, Option, Some, None}
use Rattle.std.specs.declared.result.Result.{Result}
use Rattle.std.specs.declared.result.Result.TheVariants.{Ok, Err}
use Rattle.asm_text.specs.Names.{is_same_text}
use Rattle.asm_text.specs.Words.{Word, NameWord, NumberWord, MarkWord}
use Rattle.asm_text.specs.Lexing.{lexed, words_of}
use Rattle.asm_text.specs.declared.lex_fault.LexFault.{LexFault}
use Rattle.asm_text.specs.declared.token_kind.TokenKind.TheVariants.{Colon}
use Rattle.asm_fields.specs.Operands.{Operands, no_operands}
use Rattle.asm_fields.specs.Fields.{label_in, is_marked, read_items}
use Rattle.asm_forms.specs.Forms.{Row, forms}
use Rattle.asm_forms.specs.Operations.{made, operation_fits, first_value}
use Rattle.asm_forms.specs.declared.kind.Kind.{Kind}
use Rattle.asm_forms.specs.declared.asm_why.AsmWhy.{AsmWhy}
use Rattle.asm_forms.specs.declared.asm_why.AsmWhy.TheVariants.{Lex, UnknownMnemonic, BadOperands}

-- a form's kind with the operands of the line
pub record Task : Type 0 where
  pub kind : Kind
  pub operands : Operands

-- each number that is known before the labels are fits its field
abbrev pub Fits : Task → Type 0
Fits k = operation_fits (made k.kind k.operands (first_value k.operands.number)) ≡ true

abbrev pub task_by : Kind → Option Operands → Option Task
task_by kind None = None
task_by kind (Some o) = cond (operation_fits (made kind o (first_value o.number))) (Some (record { kind = kind; operands = o })) None

-- a line of this form, where the words are its operands and their numbers fit
unfoldable pub read_form : Row → List Word → Option Task
read_form row ws = task_by row.kind (read_items row.items ws no_operands)

abbrev pub task_or : Option Task → Result Task AsmWhy → Result Task AsmWhy
task_or None rest = rest
task_or (Some k) rest = Ok k

-- the first row of the name that the words fit; the refusal is BadOperands where there is a row of the name
abbrev pub chosen : List Row → AsmWhy → List ℕ → List Word → Result Task AsmWhy
chosen [] why t ws = Err why
chosen (row ∷ rows) why t ws = cond (is_same_text row.name t) (task_or (read_form row ws) (chosen rows BadOperands t ws)) (chosen rows why t ws)

unfoldable pub task_named : List ℕ → List Word → Result Task AsmWhy
task_named t ws = chosen forms UnknownMnemonic t ws

abbrev pub some_task : Result Task AsmWhy → Result (Option Task) AsmWhy
some_task (Ok k) = Ok (Some k)
some_task (Err e) = Err e

-- what stands behind the label
abbrev pub statement_of : List Word → Result (Option Task) AsmWhy
statement_of [] = Ok None
statement_of (NameWord t ∷ ws) = some_task (task_named t ws)
statement_of (NumberWord z ∷ ws) = Err UnknownMnemonic
statement_of (MarkWord k ∷ ws) = Err UnknownMnemonic

-- a name without a dot, and a colon
abbrev pub label_of : List Word → Option (List ℕ)
label_of [] = None
label_of (w ∷ []) = None
label_of (w ∷ v ∷ ws) = cond (is_marked Colon v) (label_in w) None

abbrev pub after_label : Option (List ℕ) → List Word → List Word
after_label None ws = ws
after_label (Some t) ws = drop 2 ws

-- the label that a line defines, and what else it asks for, or why that is refused
pub record Reading : Type 0 where
  pub label : Option (List ℕ)
  pub statement : Result (Option Task) AsmWhy

abbrev pub reading_of : List Word → Reading
reading_of ws = record { label = label_of ws; statement = statement_of (after_label (label_of ws) ws) }

abbrev pub reading_by : Option LexFault → List Word → Result Reading AsmWhy
reading_by None ws = Ok (reading_of ws)
reading_by (Some f) ws = Err (Lex f)

unfoldable pub reading : List ℕ → Result Reading AsmWhy
reading line = reading_by (lexed line).fault (words_of (lexed line).lexemes)
