-- Breakpoints: a list of different addresses.
use Rattle.std.specs.Prelude.{ℕ, ◌==◌, nat_le, Bool, true, false, List, [], ◌∷◌, ◌++◌, length}
use Rattle.std.specs.List.{list_any}
use Rattle.hart_monitor.specs.declared.breakpoints.TheConstants.{MAX_BREAKS}

-- a breakpoint stands at the address
abbrev pub is_break : ℕ → List ℕ → Bool
is_break at breaks = list_any (λ b. b == at) breaks

-- by whether it stands there, and whether as many stand as may be
abbrev pub with_break_by : Bool → Bool → ℕ → List ℕ → List ℕ
with_break_by true full at breaks = breaks
with_break_by false true at breaks = breaks
with_break_by false false at breaks = breaks ++ at ∷ []

-- with one at this address, unless 16 others stand
unfoldable pub with_break : ℕ → List ℕ → List ℕ
with_break at breaks = with_break_by (is_break at breaks) (nat_le MAX_BREAKS (length breaks)) at breaks
