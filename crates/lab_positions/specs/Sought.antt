-- What is sought: breakpoints, watches, and a count.
use Rattle.std.specs.Prelude.{ℕ, ◌==◌, nat_le, Bool, true, false, ◌&&◌, List, [], ◌∷◌, ◌++◌, length}
use Rattle.std.specs.List.{list_any}
use Rattle.lab_positions.specs.Position.{Position}
use Rattle.lab_positions.specs.declared.sought.TheConstants.{MAX_SOUGHT}
use Rattle.lab_positions.specs.declared.until.Until.{Until}
use Rattle.lab_positions.specs.declared.until.Until.TheVariants.{Never, Steps, Count}
use Rattle.lab_positions.specs.declared.watch.Watch.{Watch}

-- the addresses of breakpoints, the watches in the order in which they are told, and where to stop by a count
pub record Search : Type 0 where
  pub breaks : List ℕ
  pub watches : List Watch
  pub until : Until

-- a breakpoint stands at the address
abbrev pub is_break : ℕ → List ℕ → Bool
is_break at breaks = list_any (λ b. b == at) breaks

-- by whether it stands there, and whether as many stand as may be
abbrev pub with_break_by : Bool → Bool → ℕ → List ℕ → List ℕ
with_break_by true full at breaks = breaks
with_break_by false true at breaks = breaks
with_break_by false false at breaks = breaks ++ at ∷ []

-- with one at this address, unless 64 others stand
unfoldable pub with_break : ℕ → List ℕ → List ℕ
with_break at breaks = with_break_by (is_break at breaks) (nat_le MAX_SOUGHT (length breaks)) at breaks

-- the position is the one that is asked for
abbrev pub is_until : Until → Position → Bool
is_until Never p = false
is_until (Steps n) p = p.steps == n
is_until (Count n) p = p.fresh && (p.stand.count == n)
