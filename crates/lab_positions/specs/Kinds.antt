-- Where going forward and back stops, said of the positions to which steps lead.
use Rattle.std.specs.Prelude.{◌≡◌, ◌<◌, ℕ, ◌+◌, true, List, Option, Some, None}
use Rattle.device_model.specs.Meanings.{Meanings}
use Rattle.hart_report.specs.declared.stepped.Stepped.TheVariants.{VectorFault}
use Rattle.hart_board.specs.Steps.{goes_on}
use Rattle.hart_board.specs.declared.event.Event.{Event}
use Rattle.lab_positions.specs.Position.{Position, after, told_of}
use Rattle.lab_positions.specs.Sought.{Search}
use Rattle.lab_positions.specs.Forward.{Stopped, reason}
use Rattle.lab_positions.specs.Backward.{back_reason}
use Rattle.lab_positions.specs.declared.timing.Timing.{Timing}
use Rattle.lab_positions.specs.declared.stop.Stop.{Stop}
use Rattle.lab_positions.specs.declared.stop.Stop.TheVariants.{Vector, Bound}

-- ---- forward

-- the first reason to stop behind the step after k steps from a position
abbrev pub reason_behind : Meanings → Timing → List Event → Search → Position → ℕ → Option Stop
reason_behind m timing es search p k =
    let before = after m timing es p k in
    reason m search before.stand.board.memory (told_of m before) (after m timing es p (k + 1))

-- the step after k steps is made, and no reason to stop holds behind it
pub record IsPassed (m : Meanings) (timing : Timing) (es : List Event) (search : Search) (p : Position) (k : ℕ) : Type 0 where
  pub made : goes_on (told_of m (after m timing es p k)) ≡ true
  pub free : reason_behind m timing es search p k ≡ None

-- so is each of the first n steps
abbrev pub ArePassed : Meanings → Timing → List Event → Search → Position → ℕ → Type 0
ArePassed m timing es search p n = (k : ℕ) → k < n → IsPassed m timing es search p k

-- at most so many steps stop there for that reason: behind the first step that isn't passed, and else at the bound; before it, where
-- it finds no vector
abbrev pub StopsFirst : Meanings → Timing → List Event → Search → Position → ℕ → Position → Stop → Type 0
StopsFirst m timing es search p n at (Vector id) = (k : ℕ) × (k < n) × ArePassed m timing es search p k × (at ≡ after m timing es p k) × (told_of m at ≡ VectorFault id)
StopsFirst m timing es search p n at Bound = ArePassed m timing es search p n × (at ≡ after m timing es p n)
StopsFirst m timing es search p n at why = (k : ℕ) × (k < n) × ArePassed m timing es search p k × (goes_on (told_of m (after m timing es p k)) ≡ true) × (at ≡ after m timing es p (k + 1)) × (reason_behind m timing es search p k ≡ Some why)

-- ---- back

-- the first reason to stop at the position k steps after another
abbrev pub reason_at : Meanings → Timing → List Event → Search → Position → ℕ → Option Stop
reason_at m timing es search p k = back_reason search (after m timing es p k) (after m timing es p (k + 1)).stand.board.memory

-- of the n positions from one on it is the latest at which a reason holds, where there is one
abbrev pub IsLatest : Meanings → Timing → List Event → Search → Position → ℕ → Option Stopped → Type 0
IsLatest m timing es search p n (Some s) = (k : ℕ) × (k < n) × (s.at ≡ after m timing es p k) × (reason_at m timing es search p k ≡ Some s.why) × ((j : ℕ) → k < j → j < n → reason_at m timing es search p j ≡ None)
IsLatest m timing es search p n None = (j : ℕ) → j < n → reason_at m timing es search p j ≡ None
