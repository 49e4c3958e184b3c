-- Going forward: to the first position behind whose step a reason to stop holds.
use Rattle.std.specs.Prelude.{ℕ, zero, suc, ◌-◌, Bool, true, false, List, [], ◌∷◌, Option, Some, None, min}
use Rattle.device_model.specs.Meanings.{Meanings}
use Rattle.hart_memory.specs.Memory.{Memory}
use Rattle.hart_report.specs.declared.stepped.Stepped.{Stepped}
use Rattle.hart_report.specs.declared.stepped.Stepped.TheVariants.{Raised, VectorFault}
use Rattle.hart_board.specs.declared.event.Event.{Event}
use Rattle.lab_positions.specs.Position.{Position, next, told_of}
use Rattle.lab_positions.specs.Watching.{first_changed}
use Rattle.lab_positions.specs.Sought.{Search, is_break, is_until}
use Rattle.lab_positions.specs.declared.timing.Timing.{Timing}
use Rattle.lab_positions.specs.declared.stop.Stop.{Stop}
use Rattle.lab_positions.specs.declared.stop.Stop.TheVariants.{Halt, Watch, Break, Exception, Until, Vector, Bound}

-- ---- the reasons

-- the board has halted
abbrev pub halt_stop : Option ℕ → Option Stop
halt_stop (Some code) = Some (Halt code)
halt_stop None = None

-- a watch changed
abbrev pub watch_stop : Option ℕ → Option Stop
watch_stop (Some at) = Some (Watch at)
watch_stop None = None

-- where it holds, this is why
abbrev pub stop_if : Bool → Stop → Option Stop
stop_if true why = Some why
stop_if false why = None

-- the step was the entry of an exception
abbrev pub exception_stop : Stepped → Option Stop
exception_stop (Raised pc code) = Some (Exception pc code)
exception_stop told = None

-- the first that holds
abbrev pub first_of : List (Option Stop) → Option Stop
first_of [] = None
first_of (Some why ∷ rest) = Some why
first_of (None ∷ rest) = first_of rest

-- behind a step, by the memory before it, what was told of it, and the position after it: the reasons in their order
abbrev pub reasons : Meanings → Search → Memory → Stepped → Position → List (Option Stop)
reasons m search before told here =
    halt_stop (m.halted here.stand.board.outside.device)
    ∷ watch_stop (first_changed before here.stand.board.memory search.watches)
    ∷ stop_if (is_break here.stand.board.pc search.breaks) Break
    ∷ exception_stop told
    ∷ stop_if (is_until search.until here) Until
    ∷ []

-- the first of them
unfoldable pub reason : Meanings → Search → Memory → Stepped → Position → Option Stop
reason m search before told here = first_of (reasons m search before told here)

-- ---- where it stops

-- why it stopped, and where
pub record Stopped : Type 0 where
  pub why : Stop
  pub at : Position

abbrev pub stopped : Stop → Position → Stopped
stopped why at = record { why = why; at = at }

-- behind a step
abbrev pub unless_reason : Option Stop → Position → Stopped → Stopped
unless_reason (Some why) here further = stopped why here
unless_reason None here further = further

-- a step that finds no vector isn't made
abbrev pub unless_vector : Stepped → Position → Stopped → Stopped
unless_vector (VectorFault input) before further = stopped (Vector input) before
unless_vector told before further = further

-- n steps more
unfoldable pub forward_in : Meanings → Timing → List Event → Search → ℕ → Position → Stopped
forward_in m timing es search zero p = stopped Bound p
forward_in m timing es search (suc n) p =
    let told = told_of m p in
    let here = next m timing es p in
    unless_vector told p (unless_reason (reason m search p.stand.board.memory told here) here (forward_in m timing es search n here))

-- a board that has halted makes none
abbrev pub unless_halted : Option ℕ → Position → Stopped → Stopped
unless_halted (Some code) p further = stopped (Halt code) p
unless_halted None p further = further

-- so many steps there may be in all
abbrev pub most_steps : ℕ
most_steps = 18446744073709551615

-- of so many steps these are made at most
abbrev pub room : ℕ → Position → ℕ
room most p = min most (most_steps - p.steps)

-- at most so many steps more
unfoldable pub forward : Meanings → Timing → List Event → Search → ℕ → Position → Stopped
forward m timing es search most p = unless_halted (m.halted p.stand.board.outside.device) p (forward_in m timing es search (room most p) p)
