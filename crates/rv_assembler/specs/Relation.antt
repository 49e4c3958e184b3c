-- What it is for a program to be that of a source, said line by line.
use Rattle.std.specs.Prelude.{◌≡◌, ◌≢◌, ℕ, ◌+◌, ◌-◌, ◌<◌, ◌≤◌, Bool, true, false, nat_lt, List, [], ◌∷◌, ◌++◌, length, map, slice_get, slice_index, option_to_list, AllPairs, Option, Some, None}
use Rattle.std.specs.declared.result.Result.{Result}
use Rattle.std.specs.declared.result.Result.TheVariants.{Ok, Err}
use Rattle.hart_memory.specs.Image.{SegmentView, AreSound}
use Rattle.asm_forms.specs.Operations.{made, operation_fits, extent_of, bytes_of}
use Rattle.asm_forms.specs.Statements.{Task, Reading, reading}
use Rattle.rv_assembler.specs.Symbols.{Symbol, address_of}
use Rattle.rv_assembler.specs.Lines.{lines_of}
use Rattle.rv_assembler.specs.Source.{resolved, task_of, Program}
use Rattle.rv_assembler.specs.declared.stretch.Stretch.{Stretch}
use Rattle.rv_assembler.specs.declared.assembling.TheConstants.{MAX_SOURCE}
use Rattle.asm_forms.specs.declared.asm_why.AsmWhy.{AsmWhy}
use Rattle.asm_forms.specs.declared.kind.Kind.{Kind}
use Rattle.asm_forms.specs.declared.kind.Kind.TheVariants.{Entry}
use Rattle.asm_forms.specs.declared.operation.Operation.{Operation}
use Rattle.asm_forms.specs.declared.operation.Operation.TheVariants.{Entry as EntryOperation}
use Rattle.asm_forms.specs.declared.extent.Extent.{Extent}
use Rattle.asm_forms.specs.declared.extent.Extent.TheVariants.{Org as OrgExtent, Entry as EntryExtent, Takes}

-- a segment has the byte v at the address a
pub record HasByte (segments : List SegmentView) (a v : ℕ) : Type 0 where
  pub number : ℕ
  pub segment : SegmentView
  pub is : slice_get segments number ≡ Some segment
  pub from : segment.address ≤ a
  pub inside : a < segment.address + length segment.content
  pub byte : slice_index segment.content (a - segment.address) ≡ v

-- the bytes stand one after another from a place on
abbrev pub HasBytes : List SegmentView → ℕ → List ℕ → Type 0
HasBytes segments place bytes = (k : ℕ) → k < length bytes → HasByte segments (place + k) (slice_index bytes k)

-- the label is a symbol, and its address is this place
abbrev pub IsLabelled : List Symbol → ℕ → Option (List ℕ) → Type 0
IsLabelled symbols place None = Unit {0}
IsLabelled symbols place (Some t) = address_of symbols t ≡ Some place

-- an `.entry` names the image's entry
abbrev pub IsEntry : ℕ → Operation → Type 0
IsEntry start (EntryOperation e) = start ≡ e
IsEntry start _ = Unit {0}

-- the bytes that spell the instruction stand at its place, where its number is that of the labels' addresses
abbrev pub IsDone : Program → ℕ → Option Task → Type 0
IsDone p place None = Unit {0}
IsDone p place (Some k) =
    (number : ℕ) × (resolved p.symbols place k.operands.number ≡ Ok number) × (operation_fits (made k.kind k.operands number) ≡ true) × HasBytes p.image.segments place (bytes_of (made k.kind k.operands number)) × IsEntry p.image.start (made k.kind k.operands number)

-- a line at its place
pub record IsLine (p : Program) (place : ℕ) (line : List ℕ) : Type 0 where
  pub read : Reading
  pub task : Option Task
  pub reads : reading line ≡ Ok read
  pub asks : read.statement ≡ Ok task
  pub label : IsLabelled p.symbols place read.label
  pub done : IsDone p place task

-- what a line does to the place, from the line alone
abbrev pub extent_by : Option Task → Extent
extent_by None = EntryExtent
extent_by (Some k) = extent_of k.kind k.operands.amount

-- the place behind a line: an `.org` sets it, and any other line adds its length
abbrev pub behind : Extent → ℕ → ℕ
behind (OrgExtent p) place = p
behind EntryExtent place = place
behind (Takes n) place = place + n

-- each line stands at its place, the first of them at this one
abbrev pub AreLines : Program → ℕ → List (List ℕ) → Type 0
AreLines p place [] = Unit {0}
AreLines p place (l ∷ ls) = (here : IsLine p place l) × AreLines p (behind (extent_by here.task) place) ls

abbrev pub label_in : Result Reading AsmWhy → List (List ℕ)
label_in (Ok r) = option_to_list r.label
label_in (Err e) = []

-- the labels of lines, in their order
abbrev pub labels_in : List (List ℕ) → List (List ℕ)
labels_in [] = []
labels_in (l ∷ ls) = label_in (reading l) ++ labels_in ls

-- how often a line names the entry
abbrev pub entry_kind : Kind → ℕ
entry_kind Entry = 1
entry_kind _ = 0

abbrev pub entry_in : Option Task → ℕ
entry_in None = 0
entry_in (Some k) = entry_kind k.kind

-- how many of the lines are an `.entry`
abbrev pub entries : List (List ℕ) → ℕ
entries [] = 0
entries (l ∷ ls) = entry_in (task_of (reading l)) + entries ls

abbrev pub extents : List (List ℕ) → List Extent
extents ls = map (λ l. extent_by (task_of (reading l))) ls

-- what lies between the `.org` lines, where so many bytes from the base on lie before these lines
abbrev pub stretches : ℕ → ℕ → List Extent → List Stretch
stretches base size [] = record { base = base; size = size } ∷ []
stretches base size (OrgExtent p ∷ es) = record { base = base; size = size } ∷ stretches p 0 es
stretches base size (EntryExtent ∷ es) = stretches base size es
stretches base size (Takes n ∷ es) = stretches base (size + n) es

abbrev pub filled_by : Bool → Stretch → List Stretch → List Stretch
filled_by true s ss = s ∷ ss
filled_by false s ss = ss

-- those that have a byte
abbrev pub filled : List Stretch → List Stretch
filled [] = []
filled (s ∷ ss) = filled_by (nat_lt 0 s.size) s (filled ss)

-- a segment without its bytes
abbrev pub stretch_of : SegmentView → Stretch
stretch_of s = record { base = s.address; size = length s.content }

-- the program is that of the source: each line stands at its place, the first of them at 0; the symbols are the lines'
-- labels in their order, and none is there twice; one line names the entry; the segments are what lies between the
-- `.org` lines and has a byte, in their order, each in one memory and none over another, and not more than an image has
pub record IsSource (source : List ℕ) (p : Program) : Type 0 where
  pub short : length source ≤ MAX_SOURCE
  pub lines : AreLines p 0 (lines_of source)
  pub names : map (λ s. s.name) p.symbols ≡ labels_in (lines_of source)
  pub once : AllPairs (λ t u. t ≢ u) (labels_in (lines_of source))
  pub entry : entries (lines_of source) ≡ 1
  pub segments : map stretch_of p.image.segments ≡ filled (stretches 0 0 (extents (lines_of source)))
  pub sound : AreSound p.image.segments
