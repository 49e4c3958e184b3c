-- The stack region that two numbers say.
use Rattle.std.specs.Prelude.{ℕ, ◌+◌, max, min}
use Rattle.hart_memory.specs.declared.address_map.TheConstants.{RAM_BASE, BANK_LEN}
use Rattle.chain_flow.specs.declared.region.Region.{Region}

-- clap takes no number below RAM or above its end, so that the nearest one between them is the number itself
abbrev pub edge_of : ℕ → ℕ
edge_of n = max RAM_BASE (min (RAM_BASE + BANK_LEN) n)

abbrev pub region_of : ℕ → ℕ → Region
region_of low high = record { low = edge_of low; high = edge_of high }
