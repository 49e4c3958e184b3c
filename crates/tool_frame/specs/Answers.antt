-- What is done of a plan.
use Rattle.std.specs.Prelude.{◌≡◌, ℕ, ◌<◌, ◌≤◌, ◌⊎◌, Bool, true, false, List, [], take, length, Option, Some, Result, Ok, Err, IfSome, IsSome, IsTrue, unwrap_or}
use Rattle.std.specs.Io.KnownBytes.{Appends}
use Rattle.board_outside.specs.Counts.{last_count}
use Rattle.board_outside.specs.Shelf.{File, ShelfView, file_at, Gives, CountsFetch, KeepsCounts, StaysSteady}
use Rattle.board_outside.specs.Sink.{SinkView, Writes}
use Rattle.board_outside.specs.declared.shelf.ShelfFault.{ShelfFault}
use Rattle.tool_frame.specs.Due.{Due, Outcome, worked, stopped, usage_due, refused_due, fault_due}
use Rattle.tool_frame.specs.Plan.{Plan, Makes, Refuses, Asks, due_of}
use Rattle.tool_frame.specs.declared.status.Status.{Status}
use Rattle.tool_frame.specs.declared.status.Status.TheVariants.{SinkFailed, Memory}

-- ---- what is written, and the status

-- all was written as it was due, or the sink failed on the way
abbrev pub Ends : Status → SinkView → SinkView → Due → Type 0
Ends status sink sink' due =
    ((status ≡ due.status) × Writes true sink sink' due.text)
    ⊎ ((status ≡ SinkFailed) × Writes false sink sink' due.text)

-- what was written where memory was wanting: nothing, or a front of a text that is written in parts
abbrev pub WritesPart : Bool → SinkView → SinkView → List ℕ → Type 0
WritesPart false sink sink' text = Writes true sink sink' []
WritesPart true sink sink' text = (n : ℕ) × Writes true sink sink' (take n text)

-- memory was wanting
abbrev pub Wants : Status → SinkView → SinkView → Due → Type 0
Wants status sink sink' due = (status ≡ Memory) × WritesPart due.in_parts sink sink' due.text

-- it ended so, or memory was wanting
abbrev pub EndsOrWants : Status → SinkView → SinkView → Due → Type 0
EndsOrWants status sink sink' due = Ends status sink sink' due ⊎ Wants status sink sink' due

-- the same of what a command came to, where memory may be wanting in its work alone
abbrev pub EndsAs : {B : Type 0} → Status → SinkView → SinkView → Outcome B → Type 0
EndsAs status sink sink' outcome = Ends status sink sink' outcome.due ⊎ (IsSome outcome.left × Wants status sink sink' outcome.due)

-- what a caller may look at afterwards: what the work left, where the status is the one due, and else nothing
pub record Leaves {B : Type 0} (nothing : B) (status : Status) (outcome : Outcome B) (bench : B) : Type 0 where
  pub where_due : status ≡ outcome.due.status → bench ≡ unwrap_or outcome.left nothing
  pub elsewhere : (status ≡ outcome.due.status → ⊥) → bench ≡ nothing

-- ---- what became of the files

-- a fetch of that name gave this
pub record Fetches (name : List ℕ) (limit : ℕ) (shelf shelf' : ShelfView) (gave : Result (List ℕ) ShelfFault) : Type 0 where
  pub counts : CountsFetch gave shelf shelf'
  pub file : IfSome shelf.files (λ files. Gives (λ bytes. bytes) (file_at files name) limit gave)
  pub kept : shelf'.files ≡ shelf.files
  pub steady : IsTrue shelf.steady → StaysSteady shelf shelf'

-- a file was fetched, and its stage gives this
pub record Passes {A E : Type 0} (name : List ℕ) (limit : ℕ) (stage : List ℕ → Result A E) (shelf shelf' : ShelfView) (x : A) : Type 0 where
  pub bytes : List ℕ
  pub fetch : Fetches name limit shelf shelf' (Ok bytes)
  pub passed : stage bytes ≡ Ok x

-- a file wasn't given
pub record IsUngiven {B : Type 0} (name : List ℕ) (limit : ℕ) (shelf shelf' : ShelfView) (outcome : Outcome B) : Type 0 where
  pub fault : ShelfFault
  pub fetch : Fetches name limit shelf shelf' (Err fault)
  pub outcome_is : outcome ≡ stopped (fault_due name fault)

-- a file was given, and then came this of its bytes
pub record IsGiven (name : List ℕ) (limit : ℕ) (shelf : ShelfView) (After : List ℕ → ShelfView → Type 0) : Type 0 where
  pub bytes : List ℕ
  pub between : ShelfView
  pub fetch : Fetches name limit shelf between (Ok bytes)
  pub after : After bytes between

-- how far a plan came: a file is fetched only after the ones before it have passed
abbrev pub Reaches : {B : Type 0} → Plan B → ShelfView → ShelfView → Outcome B → Type 0
Reaches (Makes due left) shelf shelf' outcome = (shelf' ≡ shelf) × (outcome ≡ worked due left)
Reaches (Refuses line) shelf shelf' outcome = (shelf' ≡ shelf) × (outcome ≡ stopped (refused_due line))
Reaches (Asks name limit next) shelf shelf' outcome =
    IsUngiven name limit shelf shelf' outcome ⊎ IsGiven name limit shelf (λ bytes between. Reaches (next bytes) between shelf' outcome)

-- ---- a file that is read

-- a file was given and gives this, and nothing is written
pub record IsRead {A : Type 0} (name : List ℕ) (limit : ℕ) (stage : List ℕ → Result A (List ℕ)) (shelf shelf' : ShelfView) (sink sink' : SinkView) (x : A) : Type 0 where
  pub passes : Passes name limit stage shelf shelf' x
  pub silent : sink' ≡ sink

-- a file wasn't given, and that was told
pub record TellsUngiven (name : List ℕ) (limit : ℕ) (status : Status) (shelf shelf' : ShelfView) (sink sink' : SinkView) : Type 0 where
  pub fault : ShelfFault
  pub fetch : Fetches name limit shelf shelf' (Err fault)
  pub ends : Ends status sink sink' (fault_due name fault)

-- a file was given and is refused, and that was told
pub record TellsRefused {A : Type 0} (name : List ℕ) (limit : ℕ) (stage : List ℕ → Result A (List ℕ)) (status : Status) (shelf shelf' : ShelfView) (sink sink' : SinkView) : Type 0 where
  pub bytes : List ℕ
  pub line : List ℕ
  pub fetch : Fetches name limit shelf shelf' (Ok bytes)
  pub refused : stage bytes ≡ Err line
  pub ends : Ends status sink sink' (refused_due line)

-- memory was wanting before anything was written, and no count has risen
pub record Lacks (status : Status) (shelf shelf' : ShelfView) (sink sink' : SinkView) : Type 0 where
  pub counts : KeepsCounts shelf shelf'
  pub status_is : status ≡ Memory
  pub silent : Writes true sink sink' []

-- what becomes of a file: it is read, or the command has ended with this status
abbrev pub ReadsFile : {A : Type 0} → (name : List ℕ) (limit : ℕ) (stage : List ℕ → Result A (List ℕ)) → Result A Status → (shelf shelf' : ShelfView) (sink sink' : SinkView) → Type 0
ReadsFile name limit stage (Ok x) shelf shelf' sink sink' = IsRead name limit stage shelf shelf' sink sink' x
ReadsFile name limit stage (Err status) shelf shelf' sink sink' =
    TellsUngiven name limit status shelf shelf' sink sink'
    ⊎ (TellsRefused name limit stage status shelf shelf' sink sink' ⊎ Lacks status shelf shelf' sink sink')

-- ---- the whole command

-- how a command ended that may have ended early
abbrev pub status_in : Result Status Status → Status
status_in (Ok status) = status
status_in (Err status) = status

-- what was due, how it ended, and what is left to be looked at
pub record Does {B : Type 0} (nothing : B) (plan : Plan B) (status : Status) (shelf shelf' : ShelfView) (sink sink' : SinkView) (bench : B) : Type 0 where
  pub outcome : Outcome B
  pub reached : Reaches plan shelf shelf' outcome
  pub ends : EndsAs status sink sink' outcome
  pub leaves : Leaves nothing status outcome bench

-- memory was wanting before the work, and nothing is left
pub record Stops {B : Type 0} (nothing : B) (status : Status) (shelf shelf' : ShelfView) (sink sink' : SinkView) (bench : B) : Type 0 where
  pub lacks : Lacks status shelf shelf' sink sink'
  pub none_left : bench ≡ nothing

-- a plan was followed, or memory was wanting before its work
abbrev pub FollowsWith : {B : Type 0} → B → Status → Plan B → ShelfView → ShelfView → SinkView → SinkView → B → Type 0
FollowsWith nothing status plan shelf shelf' sink sink' bench =
    Does nothing plan status shelf shelf' sink sink' bench ⊎ Stops nothing status shelf shelf' sink sink' bench

-- the same where nothing is left to be looked at
abbrev pub Follows : {B : Type 0} → B → Status → Plan B → ShelfView → ShelfView → SinkView → SinkView → Type 0
Follows nothing status plan shelf shelf' sink sink' = FollowsWith nothing status plan shelf shelf' sink sink' nothing

-- words that are no command: nothing is fetched, and the usage line is written
pub record Misuses (line : List ℕ) (status : Status) (shelf shelf' : ShelfView) (sink sink' : SinkView) : Type 0 where
  pub counts : KeepsCounts shelf shelf'
  pub ends : EndsOrWants status sink sink' (usage_due line)

-- ---- where nothing fails outside

-- a count has not risen, and does not stand at its last value
pub record IsCalm (before now : ℕ) : Type 0 where
  pub none : now ≡ before
  pub before_last : before < last_count

-- told bytes grow by nothing, or by a front of a text that is written in parts
abbrev pub AppendsPart : Bool → Option (List ℕ) → Option (List ℕ) → List ℕ → Type 0
AppendsPart false old new text = Appends old new []
AppendsPart true old new text = (n : ℕ) × Appends old new (take n text)

-- what was due is written, and the status is the one due, unless memory was wanting
abbrev pub HasDone : Status → Option (List ℕ) → Option (List ℕ) → Due → Type 0
HasDone status old new due = ((status ≡ due.status) × Appends old new due.text) ⊎ ((status ≡ Memory) × AppendsPart due.in_parts old new due.text)

-- the sink tells a room that a text fits
pub record HasRoom (sink : SinkView) (text : List ℕ) : Type 0 where
  pub room : ℕ
  pub told : sink.room ≡ Some room
  pub fits : length text ≤ room

-- all that a plan needs: a steady shelf that tells its files, and a sink with room for what is due by them
pub record IsReady {B : Type 0} (plan : Plan B) (shelf : ShelfView) (sink : SinkView) : Type 0 where
  pub files : List File
  pub told : shelf.files ≡ Some files
  pub steady : IsTrue shelf.steady
  pub before_last : shelf.faults < last_count
  pub room : HasRoom sink (due_of plan files).text

-- then the whole text is written, and the status is the one due, unless memory was wanting
abbrev pub Succeeds : {B : Type 0} → (plan : Plan B) (shelf : ShelfView) (sink sink' : SinkView) → IsReady plan shelf sink → Status → Type 0
Succeeds plan shelf sink sink' ready status =
    ((status ≡ (due_of plan ready.files).status) × Writes true sink sink' (due_of plan ready.files).text) ⊎ Wants status sink sink' (due_of plan ready.files)
