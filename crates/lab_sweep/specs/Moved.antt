-- A scenario in which one event comes at another count.
use Rattle.std.specs.Prelude.{ℕ, List, [], ◌∷◌, Option, Some, None, nat_le, if◌then◌else◌, slice_get, remove}
use Rattle.hart_board.specs.declared.event.Event.{Event}

-- an event among others: behind all of counts not above its own
abbrev pub put_in : Event → List Event → List Event
put_in e [] = e ∷ []
put_in e (x ∷ xs) = if nat_le x.at e.at then x ∷ put_in e xs else e ∷ x ∷ xs

abbrev pub moved_among : Option Event → ℕ → List Event → List Event
moved_among None count others = others
moved_among (Some e) count others = put_in (record e { at = count }) others

-- the event at a place, of which the first is 0, comes at a count
unfoldable pub moved : ℕ → ℕ → List Event → List Event
moved place count es = moved_among (slice_get es place) count (remove es place)
