-- Instructions of ROM that are kept decoded.
use Rattle.std.specs.Prelude.{◌≡◌, ℕ, ◌*◌, List, length, slice_index_or, Bool, true, Some}
use Rattle.rv_encoding.specs.declared.instruction.Ins.{Ins}
use Rattle.rvc_encoding.specs.Decoding.{decoded}
use Rattle.hart_exec.specs.Operation.{instruction, unknown_operation, NamesRegisters}
use Rattle.hart_memory.specs.Fetch.{fetched}
use Rattle.hart_memory.specs.declared.fetched.Fetched.{Fetched}
use Rattle.hart_memory.specs.declared.fetched.Fetched.TheVariants.{Bits}
use Rattle.hart_board.specs.declared.known.Known.{Known}
use Rattle.hart_board.specs.declared.known.TheConstants.{KNOWN_LEN}

-- nothing is known
abbrev pub nothing_known : Known
nothing_known = record { operation = unknown_operation; encoding = record { bits = 0; length = 2 } }

-- where something is known, it is what was fetched
abbrev pub IsKnown : Fetched → Known → Type 0
IsKnown found e = (ins : Ins) → instruction e.operation ≡ Some ins → (Bits e.encoding.bits e.encoding.length ≡ found) × (decoded e.encoding.bits e.encoding.length ≡ Some ins)

-- what is kept of the half-word with number k, whatever RAM holds
pub record IsKnownAt (rom : List ℕ) (k : ℕ) (e : Known) : Type 0 where
  pub names : NamesRegisters e.operation
  pub known : (ram : List ℕ) → IsKnown (fetched (record { rom = rom; ram = ram }) (2 * k)) e

-- what is kept of each half-word
unfoldable pub AreKnown : List ℕ → List Known → Type 0
AreKnown rom known = (k : ℕ) → IsKnownAt rom k (slice_index_or known k nothing_known)

-- nothing is known of any
unfoldable pub IsBlank : List Known → Type 0
IsBlank known = (k : ℕ) → slice_index_or known k nothing_known ≡ nothing_known

-- what always holds of ROM and what is kept of it
pub record IsKept (rom : List ℕ) (entries : List Known) (is_blank : Bool) : Type 0 where
  pub count : length entries ≡ KNOWN_LEN
  pub known : AreKnown rom entries
  pub blank : is_blank ≡ true → IsBlank entries
