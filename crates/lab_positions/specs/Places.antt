-- Places: a board at a position, with the event that is ahead.
use Rattle.std.specs.Prelude.{◌≡◌, ◌+◌, ◌-◌, ◌<◌, ◌≤◌, ℕ, List, [], drop}
use Rattle.std.specs.List.{All}
use Rattle.device_model.specs.Meanings.{Meanings}
use Rattle.hart_board.specs.State.{State}
use Rattle.hart_board.specs.Event.{EventList, IsAhead, with_events}
use Rattle.hart_board.specs.declared.event.Event.{Event}
use Rattle.hart_board.specs.declared.ahead.Ahead.{Ahead}
use Rattle.lab_positions.specs.Position.{Position, after}
use Rattle.lab_positions.specs.Sought.{Search}
use Rattle.lab_positions.specs.declared.timing.Timing.{Timing}

pub record PlaceState : Type 0 where
  pub position : Position
  pub ahead : Ahead

-- the same, of which nothing is kept
abbrev pub bare_of : PlaceState → PlaceState
bare_of p = record p { position = record p.position { stand = record p.position.stand { board = record p.position.stand.board { kept = [] } } } }

-- the events before the one ahead are past, of which the counts have come
pub record IsOnTime (m : Meanings) (events : EventList) (p : PlaceState) : Type 0 where
  pub shape : events.shape ≡ p.position.stand.board.outside.clic.shape
  pub ahead : IsAhead events (p.position.stand.count + 1) p.ahead
  pub passed : (count : ℕ) (s : State) → p.position.stand.count < count → with_events m count events.list s ≡ with_events m count (drop p.ahead.first events.list) s
  pub few : p.position.stand.count ≤ p.position.steps

-- the position so many steps after the start, from a base on
abbrev pub position_at : Meanings → Timing → List Event → Position → ℕ → Position
position_at m timing es base steps = after m timing es base (steps - base.steps)

-- the position is reached from the base by as many steps as were made since
abbrev pub IsFrom : Meanings → Timing → List Event → Position → Position → Type 0
IsFrom m timing es base p = (base.steps ≤ p.steps) × (p ≡ position_at m timing es base p.steps)

-- so is the place, and nothing is kept of its board
pub record IsReached (m : Meanings) (timing : Timing) (events : EventList) (base : Position) (p : PlaceState) : Type 0 where
  pub from : IsFrom m timing events.list base p.position
  pub time : IsOnTime m events p
  pub bare : p.position.stand.board.kept ≡ []

-- a base that is reached from itself, and places that are reached from it
pub record IsSteppedFrom (m : Meanings) (timing : Timing) (events : EventList) (base now : PlaceState) (rungs : List PlaceState) : Type 0 where
  pub first : IsReached m timing events base.position base
  pub latest : IsReached m timing events base.position now
  pub between : All (IsReached m timing events base.position) rungs

-- ---- what a session is

-- the events and the count by which they come, what is sought, where the base stands, and where the session stands now
pub record SessionState : Type 0 where
  pub events : EventList
  pub timing : Timing
  pub search : Search
  pub base : Position
  pub here : Position
