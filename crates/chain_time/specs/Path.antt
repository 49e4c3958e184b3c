-- The longest way through a handler's code, in instructions.
use Rattle.std.specs.Prelude.{ℕ, zero, suc, max, nat_lt, List, [], ◌∷◌, Option, Some, None, if◌then◌else◌}
use Rattle.hart_memory.specs.declared.address_map.TheConstants.{BANK_LEN}
use Rattle.chain_flow.specs.Onward.{onward}

-- the greatest of the ways from these addresses, of those above an address alone
unfoldable pub greatest : (ℕ → ℕ) → ℕ → List ℕ → ℕ
greatest way at [] = 0
greatest way at (t ∷ ts) = max (if nat_lt at t then way t else 0) (greatest way at ts)

-- one instruction, and then the greatest of the ways from where it goes on; none where no instruction stands
abbrev pub way_by : (ℕ → ℕ) → ℕ → Option (List ℕ) → ℕ
way_by way at None = 0
way_by way at (Some ts) = suc (greatest way at ts)

-- the most instructions on a way upwards from an address, of the first n
unfoldable pub way : List ℕ → ℕ → ℕ → ℕ
way code zero at = 0
way code (suc n) at = way_by (λ t. way code n t) at (onward code at)

-- the most instructions on a way upwards from an address: no way is longer than ROM
unfoldable pub path : List ℕ → ℕ → ℕ
path code at = way code BANK_LEN at
