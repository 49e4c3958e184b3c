-- What was found so far on the way.
use Rattle.std.specs.Prelude.{◌≡◌, ℕ, Bool, Option, Some, None}
use Rattle.hart_memory.specs.Memory.{Memory}
use Rattle.lab_positions.specs.Watching.{first_changed}
use Rattle.lab_positions.specs.Sought.{Search}
use Rattle.lab_positions.specs.Forward.{Stopped}
use Rattle.lab_positions.specs.Backward.{edge}
use Rattle.lab_positions.specs.declared.found.Found.{Found}
use Rattle.lab_positions.specs.declared.stop.Stop.{Stop}
use Rattle.lab_positions.specs.declared.stop.Stop.TheVariants.{Watch}

-- why, and at how many steps
abbrev pub shown : Option Stopped → Option Found
shown (Some s) = Some (record { why = s.why; steps = s.at.steps })
shown None = None

-- what was found before, with what is found at so many steps
abbrev pub newer : Option Stop → ℕ → Option Found → Option Found
newer (Some why) steps found = Some (record { why = why; steps = steps })
newer None steps found = found

-- what is found later, else what was found before
abbrev pub else_found : Option Found → Option Found → Option Found
else_found (Some later) found = Some later
else_found None found = found

-- where no watch is told, none changed
abbrev pub WatchIsSame : Search → Memory → Memory → Option Stop → Type 0
WatchIsSame search before after (Some (Watch at)) = Unit {0}
WatchIsSame search before after why = first_changed before after search.watches ≡ None

-- why going back stops, by whether it went all the way, and at how many steps
abbrev pub back_why : Bool → Option Found → Stop
back_why whole (Some found) = found.why
back_why whole None = edge whole

abbrev pub back_steps : ℕ → Option Found → ℕ
back_steps low (Some found) = found.steps
back_steps low None = low
