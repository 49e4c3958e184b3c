-- A table of longest ways.
use Rattle.std.specs.Prelude.{◌≡◌, ◌<◌, ◌-◌, ℕ, List, length, slice_index}
use Rattle.hart_memory.specs.declared.address_map.TheConstants.{BANK_LEN}
use Rattle.chain_time.specs.Path.{path}

-- the rows are the longest ways from the addresses of ROM, from its end downwards
abbrev pub AreWays : List ℕ → List ℕ → Type 0
AreWays code rows = (k : ℕ) → k < length rows → slice_index rows k ≡ path code (BANK_LEN - 1 - k)

-- with one for each address of ROM
pub record AreAllWays (code rows : List ℕ) : Type 0 where
  pub all : length rows ≡ BANK_LEN
  pub ways : AreWays code rows
