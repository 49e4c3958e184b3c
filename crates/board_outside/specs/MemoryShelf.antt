-- A shelf in memory.
use Rattle.std.specs.Prelude.{◌≡◌, ℕ, ◌+◌, List, ◌++◌, ◌∷◌, [], take, position, slice_set, if◌then◌else◌, Some, None, Option, Ok, Err, Result}
use Rattle.std.specs.Str.{bytes_eq}
use Rattle.board_outside.specs.Counts.{counted}
use Rattle.board_outside.specs.Calls.{CallsState, no_calls, counted_call, is_failing, none_to_come}
use Rattle.board_outside.specs.Shelf.{File, ShelfView, file_at}
use Rattle.board_outside.specs.declared.shelf.ShelfFault.{ShelfFault}
use Rattle.board_outside.specs.declared.shelf.ShelfFault.TheVariants.{Absent, Failed, Memory}

-- its files, the fetches, and the counts
pub record MemoryShelfState : Type 0 where
  pub files : List File
  pub calls : CallsState
  pub absences : ℕ
  pub faults : ℕ

-- without a file, before the first fetch
abbrev pub empty_shelf : MemoryShelfState
empty_shelf = record { files = []; calls = no_calls; absences = 0; faults = 0 }

-- the file at that place, or one more
abbrev pub placed : Option ℕ → List File → File → List File
placed None files file = files ++ file ∷ []
placed (Some i) files file = slice_set files i file

-- the file of that name has these bytes now
abbrev pub with_file : List File → List ℕ → List ℕ → List File
with_file files name bytes = placed (position (λ f. bytes_eq f.name name) files) files (record { name = name; bytes = bytes })

-- it tells its files, and is steady where no fetch that is still to come is to fail
abbrev pub shelf_view : MemoryShelfState → ShelfView
shelf_view s = record { files = Some s.files; absences = s.absences; faults = s.faults; steady = none_to_come s.calls }

abbrev pub found_or_absent : Option (List ℕ) → Result (List ℕ) ShelfFault
found_or_absent None = Err Absent
found_or_absent (Some bytes) = Ok bytes

-- what a fetch finds: a fetch that is to fail fails, and a name that isn't held is absent
abbrev pub found_file : MemoryShelfState → List ℕ → Result (List ℕ) ShelfFault
found_file s name = if is_failing s.calls then Err Failed else found_or_absent (file_at s.files name)

abbrev pub after_finding : Result (List ℕ) ShelfFault → MemoryShelfState → MemoryShelfState
after_finding (Err Absent) s = record s { absences = counted s.absences }
after_finding (Err Failed) s = record s { faults = counted s.faults }
after_finding _ s = s

-- after a fetch: it is one more call, and a failure and an absence are counted
abbrev pub after_fetch : MemoryShelfState → List ℕ → MemoryShelfState
after_fetch s name = after_finding (found_file s name) (record s { calls = counted_call s.calls })

-- the answer of a fetch: the first limit + 1 bytes of what it found, or why it found nothing; memory can be wanting for a file that it found
abbrev pub AnswersFetch : {V : Type 0} → (V → List ℕ) → ℕ → Result V ShelfFault → Result (List ℕ) ShelfFault → Type 0
AnswersFetch view limit (Ok v) (Ok bytes) = view v ≡ take (limit + 1) bytes
AnswersFetch view limit (Err fault) (Ok bytes) = fault ≡ Memory
AnswersFetch view limit (Ok v) (Err due) = ⊥
AnswersFetch view limit (Err fault) (Err due) = fault ≡ due
