-- What was read of files that tell nothing, in counts.
use Rattle.std.specs.Prelude.{◌≡◌, ℕ, Result, Ok, Err, None, false, nat_eq, nat_lt, if◌then◌else◌}
use Rattle.board_outside.specs.Counts.{added, counted}
use Rattle.board_outside.specs.Shelf.{ShelfView, CountsFault}
use Rattle.board_outside.specs.declared.shelf.ShelfFault.{ShelfFault}

-- the bytes that were read, the ends of files that were met, the files that were absent,
-- and what failed: a file that couldn't be opened, or a read
pub record ReadsState : Type 0 where
  pub bytes : ℕ
  pub ends : ℕ
  pub absences : ℕ
  pub faults : ℕ

-- nothing was read yet
abbrev pub no_reads : ReadsState
no_reads = record { bytes = 0; ends = 0; absences = 0; faults = 0 }

-- so many bytes were read
abbrev pub with_bytes : ReadsState → ℕ → ReadsState
with_bytes reads n = record reads { bytes = added reads.bytes n }

-- the end of a file was met
abbrev pub with_end : ReadsState → ReadsState
with_end reads = record reads { ends = counted reads.ends }

-- what the files of the system tell
abbrev pub system_view : ReadsState → ShelfView
system_view reads = record { files = None; absences = reads.absences; faults = reads.faults; steady = false }

-- nothing was read, and no end was met
pub record ReadsNothing (before now : ReadsState) : Type 0 where
  pub bytes : now.bytes ≡ before.bytes
  pub ends : now.ends ≡ before.ends

-- one read gave bytes, or none at the end, or it failed
abbrev pub CountsRead : Result ℕ ShelfFault → ReadsState → ReadsState → Type 0
CountsRead (Ok n) before now = now ≡ (if nat_eq n 0 then with_end before else with_bytes before n)
CountsRead (Err fault) before now = ReadsNothing before now × CountsFault (system_view before) (system_view now)

-- after a file of n bytes, where there was room for most: fewer come only at the end
abbrev pub after_file : ReadsState → ℕ → ℕ → ReadsState
after_file reads n most = if nat_lt n most then with_end (with_bytes reads n) else with_bytes reads n
