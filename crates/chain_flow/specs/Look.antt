-- How the code tells what it found at an address.
use Rattle.std.specs.Prelude.{◌≡◌, ℕ, true, false, List, [], ◌∷◌, Option, Some, None}
use Rattle.hart_memory.specs.Fetch.{fetched}
use Rattle.hart_memory.specs.declared.fetched.Fetched.TheVariants.{Bits}
use Rattle.chain_flow.specs.Flow.{Flow}
use Rattle.chain_flow.specs.Rules.{Looked, Refused, Passed, is_outside}
use Rattle.chain_flow.specs.declared.look.Look.{Look}
use Rattle.chain_flow.specs.declared.look.Look.TheVariants.{Refuses, Returns, GoesTo, Branches}

-- none where a half-word at the address isn't code; else the bits and their length
abbrev pub IsCodeAt : List ℕ → ℕ → Option (ℕ × ℕ) → Type 0
IsCodeAt code at None = is_outside code at ≡ true
IsCodeAt code at (Some found) = (is_outside code at ≡ false) × (fetched (record { rom = code; ram = [] }) at ≡ Bits found.0 found.1)

-- where it goes on
abbrev pub targets_of : Look → List ℕ
targets_of (Refuses why) = []
targets_of Returns = []
targets_of (GoesTo target) = target ∷ []
targets_of (Branches far near) = far ∷ near ∷ []

-- with what is known afterwards
abbrev pub look_of : Look → Flow → Looked
look_of (Refuses why) f = Refused why
look_of Returns f = Passed f []
look_of (GoesTo target) f = Passed f (target ∷ [])
look_of (Branches far near) f = Passed f (far ∷ near ∷ [])

-- no rule holds, and it goes on at these
abbrev pub GoesOnAt : Look → List ℕ → Type 0
GoesOnAt look ts = (f : Flow) → look_of look f ≡ Passed f ts

-- the same where an instruction may be missing
abbrev pub onward_of : Look → Option (List ℕ)
onward_of (Refuses why) = None
onward_of Returns = Some []
onward_of (GoesTo target) = Some (target ∷ [])
onward_of (Branches far near) = Some (far ∷ near ∷ [])
