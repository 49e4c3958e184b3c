-- Going back: to the latest earlier position at which a reason to stop holds.
use Rattle.std.specs.Prelude.{ℕ, zero, suc, ◌-◌, ◌==◌, Bool, true, false, List, [], ◌∷◌, Option, Some, None, min}
use Rattle.device_model.specs.Meanings.{Meanings}
use Rattle.hart_memory.specs.Memory.{Memory}
use Rattle.hart_board.specs.declared.event.Event.{Event}
use Rattle.lab_positions.specs.Position.{Position, next}
use Rattle.lab_positions.specs.Places.{position_at}
use Rattle.lab_positions.specs.Watching.{first_changed}
use Rattle.lab_positions.specs.Sought.{Search, is_break, is_until}
use Rattle.lab_positions.specs.Forward.{Stopped, stopped, watch_stop, stop_if, first_of}
use Rattle.lab_positions.specs.declared.timing.Timing.{Timing}
use Rattle.lab_positions.specs.declared.stop.Stop.{Stop}
use Rattle.lab_positions.specs.declared.stop.Stop.TheVariants.{Break, Until, Bound, Begin}

-- at a position, behind which the next step leaves this memory: the reasons in their order
abbrev pub back_reasons : Search → Position → Memory → List (Option Stop)
back_reasons search here memory =
    watch_stop (first_changed here.stand.board.memory memory search.watches)
    ∷ stop_if (is_break here.stand.board.pc search.breaks) Break
    ∷ stop_if (is_until search.until here) Until
    ∷ []

unfoldable pub back_reason : Search → Position → Memory → Option Stop
back_reason search here memory = first_of (back_reasons search here memory)

-- a position, where a reason holds at it
abbrev pub found_at : Option Stop → Position → Option Stopped
found_at (Some why) here = Some (stopped why here)
found_at None here = None

-- the later one
abbrev pub later_or : Option Stopped → Option Stopped → Option Stopped
later_or (Some later) earlier = Some later
later_or None earlier = earlier

-- the latest of n positions from this one on
unfoldable pub latest : Meanings → Timing → List Event → Search → ℕ → Position → Option Stopped
latest m timing es search zero p = None
latest m timing es search (suc n) p =
    let further = next m timing es p in
    later_or (latest m timing es search n further) (found_at (back_reason search p further.stand.board.memory) p)

-- by whether it is the base
abbrev pub edge : Bool → Stop
edge true = Begin
edge false = Bound

-- the latest, else where the way back ends, by whether that is the base
abbrev pub found_or : Option Stopped → Bool → Position → Stopped
found_or (Some found) whole low = found
found_or None whole low = stopped (edge whole) low

-- so many steps back at most
abbrev pub way_back : ℕ → Position → Position → ℕ
way_back most base p = min most (p.steps - base.steps)

-- from a position back to one that is reached from the base
unfoldable pub backward : Meanings → Timing → List Event → Search → ℕ → Position → Position → Stopped
backward m timing es search most base p =
    let way = way_back most base p in
    let low = position_at m timing es base (p.steps - way) in
    found_or (latest m timing es search way low) (way == p.steps - base.steps) low
