-- What was handed to a writer that tells nothing, in counts.
use Rattle.std.specs.Prelude.{◌≡◌, ℕ, ◌<◌, List, length, take, Bool, true, false, Option, Result, Ok, Err, None}
use Rattle.std.specs.Io.KnownBytes.{Appends}
use Rattle.board_outside.specs.Counts.{added, Rose}
use Rattle.board_outside.specs.Sink.{SinkView}
use Rattle.board_outside.specs.declared.sink.SinkFault.{SinkFault}

-- the bytes that were taken, and how often writing failed
pub record PutsState : Type 0 where
  pub bytes : ℕ
  pub faults : ℕ

-- nothing was handed over yet
abbrev pub no_puts : PutsState
no_puts = record { bytes = 0; faults = 0 }

-- so many bytes were taken
abbrev pub with_taken : PutsState → ℕ → PutsState
with_taken puts n = record puts { bytes = added puts.bytes n }

-- what standard output tells
abbrev pub output_view : PutsState → SinkView
output_view puts = record { written = None; room = None; faults = puts.faults }

-- so many bytes were taken, and then a write failed
pub record FailsAfter (n : ℕ) (before now : PutsState) : Type 0 where
  pub taken : now.bytes ≡ added before.bytes n
  pub failed : Rose before.faults now.faults

-- one write took bytes, or it failed
abbrev pub CountsWrite : Result ℕ SinkFault → PutsState → PutsState → Type 0
CountsWrite (Ok n) before now = now ≡ with_taken before n
CountsWrite (Err fault) before now = FailsAfter 0 before now

-- a text was taken whole, or a front of it until a write failed
abbrev pub CountsPut : Bool → PutsState → PutsState → List ℕ → Type 0
CountsPut true before now text = now ≡ with_taken before (length text)
CountsPut false before now text = (n : ℕ) × (n < length text) × FailsAfter n before now

-- the same where the writer tells what it has
abbrev pub Hands : Bool → Option (List ℕ) → Option (List ℕ) → PutsState → PutsState → List ℕ → Type 0
Hands true old new before now text = Appends old new text × (now ≡ with_taken before (length text))
Hands false old new before now text = (n : ℕ) × (n < length text) × Appends old new (take n text) × FailsAfter n before now
