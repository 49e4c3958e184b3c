-- Where the instruction at an address of the code goes on, whatever else is known there.
use Rattle.std.specs.Prelude.{ℕ, Bool, true, false, List, [], Option, Some, None}
use Rattle.rv_encoding.specs.declared.instruction.Ins.{Ins}
use Rattle.hart_memory.specs.Fetch.{fetched}
use Rattle.hart_memory.specs.declared.fetched.Fetched.{Fetched}
use Rattle.hart_memory.specs.declared.fetched.Fetched.TheVariants.{Bits, Missing}
use Rattle.rvc_encoding.specs.Decoding.{decoded}
use Rattle.chain_flow.specs.Transfer.{targets}
use Rattle.chain_flow.specs.Rules.{is_outside}

-- by what the bits spell
abbrev pub onward_ins : ℕ → ℕ → Option Ins → Option (List ℕ)
onward_ins at length None = None
onward_ins at length (Some ins) = Some (targets at length ins)

-- by what is fetched
abbrev pub onward_fetched : ℕ → Fetched → Option (List ℕ)
onward_fetched at (Missing a) = None
onward_fetched at (Bits bits length) = onward_ins at length (decoded bits length)

-- by whether a half-word is none of the code
abbrev pub onward_code : List ℕ → ℕ → Bool → Option (List ℕ)
onward_code code at true = None
onward_code code at false = onward_fetched at (fetched (record { rom = code; ram = [] }) at)

-- the addresses where it goes on, none after a jump by a register; None where no instruction stands
unfoldable pub onward : List ℕ → ℕ → Option (List ℕ)
onward code at = onward_code code at (is_outside code at)
