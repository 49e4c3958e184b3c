-- The cause of each status.
use Rattle.std.specs.Prelude.{◌≡◌, ℕ, ◌⊎◌, true, false, List, None, Ok, IfSome}
use Rattle.board_outside.specs.Counts.{Rose}
use Rattle.board_outside.specs.Shelf.{ShelfView, file_at, KeepsCounts}
use Rattle.board_outside.specs.Sink.{SinkView, Writes}
use Rattle.tool_frame.specs.Lines.{absent_line, failed_line}
use Rattle.tool_frame.specs.Due.{Outcome}
use Rattle.tool_frame.specs.Plan.{Plan, Makes, Refuses, Asks, due_of}
use Rattle.tool_frame.specs.Answers.{Fetches, IsGiven, Reaches}
use Rattle.tool_frame.specs.declared.status.Status.{Status}
use Rattle.tool_frame.specs.declared.status.Status.TheVariants.{SinkFailed}

-- no count has risen
pub record NoneRose (shelf shelf' : ShelfView) (sink sink' : SinkView) : Type 0 where
  pub shelf_counts : KeepsCounts shelf shelf'
  pub sink_faults : sink'.faults ≡ sink.faults

-- it happens at a file of the plan, and all files before it were passed
abbrev pub AtFile : {B : Type 0} → (List ℕ → ℕ → (List ℕ → Plan B) → ShelfView → ShelfView → Type 0) → Plan B → ShelfView → ShelfView → Type 0
AtFile Happens (Makes due left) shelf shelf' = ⊥
AtFile Happens (Refuses line) shelf shelf' = ⊥
AtFile Happens (Asks name limit next) shelf shelf' =
    Happens name limit next shelf shelf' ⊎ IsGiven name limit shelf (λ bytes between. AtFile Happens (next bytes) between shelf')

-- absences have risen, where the shelf tells its files it doesn't hold this one, and its name was written
pub record IsAbsentFile {B : Type 0} (sink sink' : SinkView) (name : List ℕ) (limit : ℕ) (next : List ℕ → Plan B) (shelf shelf' : ShelfView) : Type 0 where
  pub rose : Rose shelf.absences shelf'.absences
  pub file : IfSome shelf.files (λ files. file_at files name ≡ None)
  pub text : Writes true sink sink' (absent_line name)

-- faults have risen, and the file's name was written
pub record IsFailedFile {B : Type 0} (sink sink' : SinkView) (name : List ℕ) (limit : ℕ) (next : List ℕ → Plan B) (shelf shelf' : ShelfView) : Type 0 where
  pub rose : Rose shelf.faults shelf'.faults
  pub text : Writes true sink sink' (failed_line name)

-- the file was given, its bytes are refused, and the line of the refusal was written
pub record IsRefusedFile {B : Type 0} (sink sink' : SinkView) (name : List ℕ) (limit : ℕ) (next : List ℕ → Plan B) (shelf shelf' : ShelfView) : Type 0 where
  pub bytes : List ℕ
  pub line : List ℕ
  pub fetch : Fetches name limit shelf shelf' (Ok bytes)
  pub refused : next bytes ≡ Refuses line
  pub text : Writes true sink sink' line

-- a file of the plan has this name
abbrev pub Names : {B : Type 0} → Plan B → List ℕ → Type 0
Names (Makes due left) name = ⊥
Names (Refuses line) name = ⊥
Names (Asks asked limit next) name = (name ≡ asked) ⊎ ((bytes : List ℕ) × Names (next bytes) name)

-- the line of a file that couldn't be read was begun
pub record BeginsFailedLine {B : Type 0} (plan : Plan B) (sink sink' : SinkView) : Type 0 where
  pub name : List ℕ
  pub of_plan : Names plan name
  pub front : Writes false sink sink' (failed_line name)

-- a text was reached, and a front of it was written; by the files that are told, it is one of the text due or of the line of a file that couldn't be read
pub record StopsShort {B : Type 0} (plan : Plan B) (status : Status) (shelf shelf' : ShelfView) (sink sink' : SinkView) : Type 0 where
  pub status_is : status ≡ SinkFailed
  pub outcome : Outcome B
  pub reached : Reaches plan shelf shelf' outcome
  pub front : Writes false sink sink' outcome.due.text
  pub by_files : IfSome shelf.files (λ files. Writes false sink sink' (due_of plan files).text ⊎ BeginsFailedLine plan sink sink')
