-- A shelf, as contracts see it: what it holds, and which answer moves which count.
use Rattle.std.specs.Prelude.{◌≡◌, ℕ, ◌+◌, List, take, find, option_map, Bool, IsTrue, Some, None, Option, Result, Ok, Err, ⊤}
use Rattle.std.specs.Str.{bytes_eq}
use Rattle.board_outside.specs.Counts.{Rose}
use Rattle.board_outside.specs.declared.shelf.ShelfFault.{ShelfFault}
use Rattle.board_outside.specs.declared.shelf.ShelfFault.TheVariants.{Absent, Failed, Memory}

-- a file with its name
pub record File : Type 0 where
  pub name : List ℕ
  pub bytes : List ℕ

-- what a shelf tells: its files, where it tells them, how often a file was absent and how often reading failed,
-- and whether it is steady, so that reading won't fail
pub record ShelfView : Type 0 where
  pub files : Option (List File)
  pub absences : ℕ
  pub faults : ℕ
  pub steady : Bool

-- the bytes of the file of that name
abbrev pub file_at : List File → List ℕ → Option (List ℕ)
file_at files name = option_map (λ f. f.bytes) (find (λ f. bytes_eq f.name name) files)

-- where the files are told, Absent is answered only of a name that isn't held
abbrev pub Refuses : ShelfFault → Option (List ℕ) → Type 0
Refuses Absent file = file ≡ None
Refuses Failed file = ⊤
Refuses Memory file = ⊤

-- what a fetch gives of a file that is told, seen by view: its first limit + 1 bytes
abbrev pub Gives : {V : Type 0} → (V → List ℕ) → Option (List ℕ) → ℕ → Result V ShelfFault → Type 0
Gives view file limit (Ok v) = option_map (take (limit + 1)) file ≡ Some (view v)
Gives view file limit (Err fault) = Refuses fault file

-- neither count has moved
pub record KeepsCounts (old new : ShelfView) : Type 0 where
  pub absences : new.absences ≡ old.absences
  pub faults : new.faults ≡ old.faults

-- only absences have risen
pub record CountsAbsence (old new : ShelfView) : Type 0 where
  pub absences : Rose old.absences new.absences
  pub faults : new.faults ≡ old.faults

-- only faults have risen
pub record CountsFault (old new : ShelfView) : Type 0 where
  pub absences : new.absences ≡ old.absences
  pub faults : Rose old.faults new.faults

-- absences rise with Absent alone, and faults with Failed alone
abbrev pub CountsRefusal : ShelfFault → ShelfView → ShelfView → Type 0
CountsRefusal Absent old new = CountsAbsence old new
CountsRefusal Failed old new = CountsFault old new
CountsRefusal Memory old new = KeepsCounts old new

abbrev pub CountsFetch : {V : Type 0} → Result V ShelfFault → ShelfView → ShelfView → Type 0
CountsFetch (Ok v) old new = KeepsCounts old new
CountsFetch (Err fault) old new = CountsRefusal fault old new

-- no fault has come, and none will
pub record StaysSteady (old new : ShelfView) : Type 0 where
  pub faults : new.faults ≡ old.faults
  pub steady : IsTrue new.steady
