-- What the inputs of a list take together, where each comes so often at most.
use Rattle.std.specs.Prelude.{◌≡◌, ◌⊎◌, ◌≤◌, ℕ, suc, ◌+◌, ◌-◌, ◌*◌, ◌==◌, nat_le, List, [], ◌∷◌, if◌then◌else◌}
use Rattle.chain_moves.specs.Servicing.{Service}
use Rattle.chain_moves.specs.Cost.{enter_cost, leave_cost}
use Rattle.chain_time.specs.Stretch.{total}
pub use Rattle.chain_time.specs.declared.timed.Timed.{Timed}

-- one service of an input: an Enter, the longest way through its handler, and a Leave
abbrev pub worth : Timed → ℕ
worth r = enter_cost + r.path + leave_cost

-- the sum over the inputs of at least a level
unfoldable pub time_of : List Timed → ℕ → ℕ
time_of [] level = 0
time_of (r ∷ rs) level = (if nat_le level r.level then r.count * worth r else 0) + time_of rs level

-- no way is longer than ROM
pub record IsTimed (r : Timed) : Type 0 where
  pub path : r.path ≤ 65536

-- ---- what that means for services

-- how often an input begins a service
unfoldable pub times : ℕ → List Service → ℕ
times input [] = 0
times input (e ∷ begun) = if e.number == input then suc (times input begun) else times input begun

-- the list has the input with at least that level and at least that longest way
abbrev pub Has : ℕ → ℕ → ℕ → List Timed → Type 0
Has level input way [] = ⊥
Has level input way (r ∷ rs) = ((r.input ≡ input) × (level ≤ r.level) × (way ≤ r.path)) ⊎ Has level input way rs

-- it has each of these services with at least that level
abbrev pub AllHave : ℕ → (ℕ → ℕ) → List Timed → List Service → Type 0
AllHave level paths rs [] = Unit {0}
AllHave level paths rs (e ∷ begun) = Has level e.number (paths e.number) rs × AllHave level paths rs begun

-- each input of the list begins at most so many services
abbrev pub AreFew : List Timed → List Service → Type 0
AreFew [] begun = Unit {0}
AreFew (r ∷ rs) begun = (times r.input begun ≤ r.count) × AreFew rs begun

abbrev pub CountsAreSound : Type 0
CountsAreSound =
    (rs : List Timed) (level : ℕ) (paths : ℕ → ℕ) (begun : List Service)
    → AllHave level paths rs begun → AreFew rs begun → total paths begun ≤ time_of rs level

-- ---- the numbers of a table

-- how long until the service of an input has ended: all services of at least its level
abbrev pub response : List Timed → Timed → ℕ
response rs r = time_of rs r.level

-- until its handler begins: all but its own way and its Leave
abbrev pub latency : List Timed → Timed → ℕ
latency rs r = time_of rs r.level - (r.path + leave_cost)

-- how long the foreground stands still: all services
abbrev pub burst : List Timed → ℕ
burst rs = time_of rs 0
