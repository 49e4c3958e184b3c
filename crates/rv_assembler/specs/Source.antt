-- A source: its two passes, and the program, or the first refusal with its line.
use Rattle.std.specs.Prelude.{ℕ, ◌+◌, ◌-◌, ◌%◌, ◌^◌, nat_lt, cond, List, [], ◌∷◌, ◌++◌, length, take, drop, Option, Some, None}
use Rattle.std.specs.declared.result.Result.{Result}
use Rattle.std.specs.declared.result.Result.TheVariants.{Ok, Err}
use Rattle.hart_words.specs.InTurn.{◌>>=◌}
use Rattle.hart_memory.specs.Image.{SegmentView, ImageView}
use Rattle.asm_fields.specs.Operands.{Number, Given, Absolute, Near, NearLabel}
use Rattle.asm_forms.specs.Operations.{made, operation_fits, extent_of, bytes_of}
use Rattle.asm_forms.specs.Statements.{Task, Reading, reading}
use Rattle.rv_assembler.specs.Symbols.{Symbol, address_of, with_label}
use Rattle.rv_assembler.specs.Laying.{Laid, nothing_laid, laid, shut}
use Rattle.rv_assembler.specs.Lines.{lines_of}
use Rattle.asm_forms.specs.declared.operation.Operation.{Operation}
use Rattle.asm_forms.specs.declared.operation.Operation.TheVariants.{Entry as EntryOperation}
use Rattle.rv_assembler.specs.declared.stretch.Stretch.{Stretch}
use Rattle.asm_forms.specs.declared.extent.Extent.{Extent}
use Rattle.asm_forms.specs.declared.extent.Extent.TheVariants.{Org as OrgExtent, Entry as EntryExtent, Takes}
use Rattle.asm_forms.specs.declared.asm_why.AsmWhy.{AsmWhy}
use Rattle.asm_forms.specs.declared.asm_why.AsmWhy.TheVariants.{UnknownLabel, OutOfReach, NoEntry, TooLarge}
use Rattle.rv_assembler.specs.declared.assembling.TheConstants.{MAX_SOURCE}

pub record Refusal : Type 0 where
  pub line : ℕ
  pub why : AsmWhy

abbrev pub refuse : {A : Type 0} → ℕ → AsmWhy → Result A Refusal
refuse n why = Err (record { line = n; why = why })

abbrev pub at_line : {A : Type 0} → ℕ → Result A AsmWhy → Result A Refusal
at_line n (Ok x) = Ok x
at_line n (Err e) = refuse n e

-- a pass over lines, of which the first has the number n
unfoldable pub pass : {S : Type 0} → (S → List ℕ → Result S AsmWhy) → List (List ℕ) → ℕ → S → Result S Refusal
pass step [] n s = Ok s
pass step (l ∷ ls) n s = at_line n (step s l) >>= pass step ls (n + 1)

-- ---- the first pass: labels and places

pub record Passed : Type 0 where
  pub laying : Laid
  pub symbols : List Symbol

abbrev pub nothing_passed : Passed
nothing_passed = record { laying = nothing_laid; symbols = [] }

abbrev pub laid_by : Option Task → Laid → Result Laid AsmWhy
laid_by None l = Ok l
laid_by (Some k) l = laid (extent_of k.kind k.operands.amount) l

abbrev pub with_laying : List Symbol → Laid → Passed
with_laying ss l = record { laying = l; symbols = ss }

-- the tests of a line, in this order
abbrev pub first_read : Passed → Reading → Result Passed AsmWhy
first_read s r = do
  symbols ← with_label r.label s.laying.place s.symbols
  task ← r.statement
  laying ← laid_by task s.laying
  Ok (with_laying symbols laying)

unfoldable pub first_line : Passed → List ℕ → Result Passed AsmWhy
first_line s line = reading line >>= first_read s

-- ---- the second pass: bytes

-- the place of the next line, the entry, and the bytes of all lines before it
pub record Built : Type 0 where
  pub place : ℕ
  pub entry : ℕ
  pub bytes : List ℕ

abbrev pub nothing_built : Built
nothing_built = record { place = 0; entry = 0; bytes = [] }

-- from a place to a target, modulo 2 ^ 32
abbrev pub distance : ℕ → ℕ → ℕ
distance place target = (target + 2 ^ 32 - place) % 2 ^ 32

abbrev pub known : Option ℕ → Result ℕ AsmWhy
known None = Err UnknownLabel
known (Some a) = Ok a

abbrev pub known_near : ℕ → Option ℕ → Result ℕ AsmWhy
known_near place None = Err UnknownLabel
known_near place (Some a) = Ok (distance place a)

-- the number of a line, which is at this place
unfoldable pub resolved : List Symbol → ℕ → Number → Result ℕ AsmWhy
resolved symbols place (Given n) = Ok n
resolved symbols place (Absolute t) = known (address_of symbols t)
resolved symbols place (Near a) = Ok (distance place a)
resolved symbols place (NearLabel t) = known_near place (address_of symbols t)

-- before the labels are known each other number fits: what doesn't fit is a distance
abbrev pub reached : Operation → Result Operation AsmWhy
reached o = cond (operation_fits o) (Ok o) (Err OutOfReach)

-- the place behind a line; the first pass lets none beyond 2 ^ 32
abbrev pub moved : Extent → ℕ → ℕ
moved (OrgExtent p) place = p
moved EntryExtent place = place
moved (Takes n) place = (place + n) % 2 ^ 32

abbrev pub entry_by : Operation → ℕ → ℕ
entry_by (EntryOperation e) entry = e
entry_by _ entry = entry

abbrev pub with_operation : Task → Built → Operation → Built
with_operation k b o = record { place = moved (extent_of k.kind k.operands.amount) b.place; entry = entry_by o b.entry; bytes = b.bytes ++ bytes_of o }

abbrev pub second_task : List Symbol → Built → Task → Result Built AsmWhy
second_task symbols b k = do
  number ← resolved symbols b.place k.operands.number
  operation ← reached (made k.kind k.operands number)
  Ok (with_operation k b operation)

abbrev pub second_by : List Symbol → Built → Option Task → Result Built AsmWhy
second_by symbols b None = Ok b
second_by symbols b (Some k) = second_task symbols b k

abbrev pub task_in : Result (Option Task) AsmWhy → Option Task
task_in (Ok k) = k
task_in (Err e) = None

-- what a line asks for; the first pass lets no line pass that isn't read
abbrev pub task_of : Result Reading AsmWhy → Option Task
task_of (Ok r) = task_in r.statement
task_of (Err e) = None

unfoldable pub second_line : List Symbol → Built → List ℕ → Result Built AsmWhy
second_line symbols b line = second_by symbols b (task_of (reading line))

-- ---- the program

pub record Program : Type 0 where
  pub image : ImageView
  pub symbols : List Symbol

-- the bytes of all lines, cut into segments
abbrev pub cut_segments : List Stretch → List ℕ → List SegmentView
cut_segments [] bytes = []
cut_segments (s ∷ ss) bytes = record { address = s.base; content = take s.size bytes } ∷ cut_segments ss (drop s.size bytes)

abbrev pub image_of : Laid → Built → ImageView
image_of l b = record { start = b.entry; segments = cut_segments (shut l.growing l.closed) b.bytes }

abbrev pub ended : Passed → Built → Result Program Refusal
ended s b = cond s.laying.entered (Ok (record { image = image_of s.laying b; symbols = s.symbols })) (refuse 0 NoEntry)

abbrev pub of_lines : List (List ℕ) → Result Program Refusal
of_lines ls = do
  s ← pass first_line ls 1 nothing_passed
  b ← pass (second_line s.symbols) ls 1 nothing_built
  ended s b

-- the program of a source, or the first refusal
unfoldable pub assembled : List ℕ → Result Program Refusal
assembled source = cond (nat_lt MAX_SOURCE (length source)) (refuse 0 TooLarge) (of_lines (lines_of source))
