-- What the static checker answered.
use Rattle.std.specs.Prelude.{◌≡◌, ◌⊎◌, ℕ, Option, Some}
use Rattle.board_outside.specs.Shelf.{ShelfView}
use Rattle.hart_memory.specs.Image.{ImageView}
use Rattle.chain_flow.specs.declared.lint_why.LintWhy.{LintWhy}
use Rattle.chain_flow.specs.declared.verdict.Verdict.{Verdict}
use Rattle.chain_flow.specs.declared.verdict.Verdict.TheVariants.{Yes, No}
use Rattle.chain_lint.specs.declared.table_bound.TableBound.{TableBound}
use Rattle.chain_lint.specs.declared.table_bound.TableBound.TheVariants.{Bound, BadTable, Refused}
use Rattle.tool_frame.specs.Answers.{Passes}
use Rattle.tool_work.specs.Files.{image_limit, image_stage}
use Rattle.tool_words.specs.Lint.{LintWords}
use Rattle.tool_work.specs.Lint.{lint_made}
use Rattle.tool_words.specs.Bound.{BoundWords}
use Rattle.tool_work.specs.Bound.{bound_made}
use Rattle.tool_words.specs.Order.{Order, Lints, Bounds}

-- the words ask for a verdict, the image was given and passed, and the verdict is such
pub record LintedTo (Answered : Verdict → Type 0) (order : Option Order) (shelf shelf' : ShelfView) : Type 0 where
  pub words : LintWords
  pub is_lint : order ≡ Some (Lints words)
  pub image : ImageView
  pub passed : Passes words.image_name image_limit image_stage shelf shelf' image
  pub answer : Answered (lint_made words image)

-- the words ask for a bound, the image was given and passed, and the answer is such
pub record BoundTo (Answered : TableBound → Type 0) (order : Option Order) (shelf shelf' : ShelfView) : Type 0 where
  pub words : BoundWords
  pub is_bound : order ≡ Some (Bounds words)
  pub image : ImageView
  pub passed : Passes words.image_name image_limit image_stage shelf shelf' image
  pub answer : Answered (bound_made words image)

-- the handler is accepted
abbrev pub IsYes : Verdict → Type 0
IsYes v = (uses : ℕ) × (v ≡ Yes uses)

-- it isn't
abbrev pub IsNo : Verdict → Type 0
IsNo v = (why : LintWhy) × (at : ℕ) × (v ≡ No why at)

-- there is a bound
abbrev pub IsBounded : TableBound → Type 0
IsBounded b = (bytes : ℕ) × (b ≡ Bound bytes)

-- a word of the table is refused, or a handler
abbrev pub IsRefused : TableBound → Type 0
IsRefused b = ((at : ℕ) × (b ≡ BadTable at)) ⊎ ((why : LintWhy) × (at : ℕ) × (b ≡ Refused why at))
