-- What a command does with its files, one after the other. B is what its work leaves for a caller to look at: Unit where it leaves nothing.
use Rattle.std.specs.Prelude.{◌≡◌, ℕ, List, length, nat_lt, if◌then◌else◌, Option, Some, None, Result, Ok, Err, option_and_then}
use Rattle.board_outside.specs.Shelf.{File, file_at}
use Rattle.tool_frame.specs.Lines.{too_large_line}
use Rattle.tool_frame.specs.Due.{Due, Outcome, absent_due, refused_due}

pub data Plan (B : Type 0) : Type 0 where
  -- nothing more is fetched; this is due, and this is left
  Makes : Due → B → Plan B
  -- what was fetched is refused, with this line
  Refuses : List ℕ → Plan B
  -- the file of this name is fetched, with one byte more than its limit where it is longer, and its bytes decide
  Asks : List ℕ → ℕ → (List ℕ → Plan B) → Plan B

-- what was read of a file's bytes goes on, and the line of a refusal ends the command
abbrev pub go_on : {A B : Type 0} → Result A (List ℕ) → (A → Plan B) → Plan B
go_on (Ok x) next = next x
go_on (Err line) next = Refuses line

-- what becomes of a file's bytes: one that is longer than its limit is refused, and else it is read
unfoldable pub measured : {A : Type 0} → List ℕ → ℕ → (List ℕ → Result A (List ℕ)) → List ℕ → Result A (List ℕ)
measured role limit read bytes = if nat_lt limit (length bytes) then Err (too_large_line role) else read bytes

-- a file is fetched, measured and read, and what was read of it goes on
abbrev pub reads : {A B : Type 0} → List ℕ → ℕ → (List ℕ → Result A (List ℕ)) → List ℕ → (A → Plan B) → Plan B
reads role limit read name next = Asks name limit (λ bytes. go_on (measured role limit read bytes) next)

-- the file is there and decides, or it is absent
abbrev pub by_file : List ℕ → (List ℕ → Due) → Option (List ℕ) → Due
by_file name next None = absent_due name
by_file name next (Some bytes) = next bytes

-- what is due, by the files that are held
abbrev pub due_of : {B : Type 0} → Plan B → List File → Due
due_of (Makes due left) files = due
due_of (Refuses line) files = refused_due line
due_of (Asks name limit next) files = by_file name (λ bytes. due_of (next bytes) files) (file_at files name)

-- what is left of the work, by the files that are held
abbrev pub left_of : {B : Type 0} → Plan B → List File → Option B
left_of (Makes due left) files = Some left
left_of (Refuses line) files = None
left_of (Asks name limit next) files = option_and_then (λ bytes. left_of (next bytes) files) (file_at files name)

-- what a plan comes to, by the files that are held
abbrev pub outcome_of : {B : Type 0} → Plan B → List File → Outcome B
outcome_of plan files = record { due = due_of plan files; left = left_of plan files }

-- all files are held that are asked for
abbrev pub HoldsAll : {B : Type 0} → Plan B → List File → Type 0
HoldsAll (Makes due left) files = Unit {0}
HoldsAll (Refuses line) files = Unit {0}
HoldsAll (Asks name limit next) files = (content : List ℕ) × ((file_at files name ≡ Some content) × HoldsAll (next content) files)
