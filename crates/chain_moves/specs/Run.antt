-- The first moves of a run.
use Rattle.std.specs.Prelude.{◌≡◌, ℕ, zero, suc, Bool, List, [], ◌∷◌, Option, Some, None}
use Rattle.chain_moves.specs.Machine.{When, Moved, Makes, Breaks, Ends, Machine}
use Rattle.chain_moves.specs.declared.broken.Broken.{Broken}

-- a move that was made, and whether an Enter of an input that is not hardware-vectored was due after it
pub record Made (K : Type 0) : Type 0 where
  pub kind : K
  pub claims : Bool

-- where a run has come to: the moves that were made, the latest first, and the state; or after them a test held, or the board had halted with no service live
pub data Run (K S : Type 0) : Type 0 where
  On : List (Made K) → S → Run K S
  Broke : List (Made K) → When → Broken → ℕ → Run K S
  Over : List (Made K) → S → Run K S

abbrev pub moved_on : {K S E : Type 0} → Machine K S E → List (Made K) → S → Moved K S → Run K S
moved_on x made s (Makes kind t) = On (record { kind = kind; claims = x.claims t } ∷ made) t
moved_on x made s (Breaks when kind bodies) = Broke made when kind bodies
moved_on x made s Ends = Over made s

abbrev pub gone_on : {K S E : Type 0} → Machine K S E → Run K S → Run K S
gone_on x (On made s) = moved_on x made s (x.move s)
gone_on x (Broke made when kind bodies) = Broke made when kind bodies
gone_on x (Over made s) = Over made s

-- the first n moves from a state
unfoldable pub run_to : {K S E : Type 0} → Machine K S E → S → ℕ → Run K S
run_to x s zero = On [] s
run_to x s (suc n) = gone_on x (run_to x s n)

-- the state after the first n moves, where so many are made
abbrev pub state_in : {K S : Type 0} → Run K S → Option S
state_in (On made s) = Some s
state_in (Broke made when kind bodies) = None
state_in (Over made s) = None

abbrev pub after_moves : {K S E : Type 0} → Machine K S E → S → ℕ → Option S
after_moves x s n = state_in (run_to x s n)

-- ---- the same in words

-- each of some moves, the latest first, leads on from the state before it
abbrev pub Leads : {K S E : Type 0} → Machine K S E → List (Made K) → S → S → Type 0
Leads x [] s t = s ≡ t
Leads {S = S} x (m ∷ made) s t = (u : S) × Leads x made s u × (x.move u ≡ Makes m.kind t) × (x.claims t ≡ m.claims)

-- a run is a list of moves; where it is no longer on, the move after them breaks or ends it
abbrev pub IsRun : {K S E : Type 0} → Machine K S E → S → Run K S → Type 0
IsRun x s (On made t) = Leads x made s t
IsRun {S = S} x s (Broke made when kind bodies) = (t : S) × Leads x made s t × (x.move t ≡ Breaks when kind bodies)
IsRun x s (Over made t) = Leads x made s t × (x.move t ≡ Ends)
