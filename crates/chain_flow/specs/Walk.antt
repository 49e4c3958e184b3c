-- The verdict: the addresses that are reached are looked at in rising order.
use Rattle.std.specs.Prelude.{◌≤◌, ℕ, zero, suc, ◌==◌, max, nat_lt, List, [], ◌∷◌, if◌then◌else◌}
use Rattle.chain_flow.specs.Flow.{Flow, joined, flow_at_start, value_of, Value, Stack, depth}
use Rattle.chain_flow.specs.Rules.{Looked, Refused, Passed, looked}
use Rattle.chain_flow.specs.declared.region.Region.{Region}
use Rattle.chain_flow.specs.declared.lint_why.LintWhy.TheVariants.{TooLong}
use Rattle.chain_flow.specs.declared.verdict.Verdict.{Verdict}
use Rattle.chain_flow.specs.declared.verdict.Verdict.TheVariants.{Yes, No}

-- an address that is reached, and what is known there so far
pub record Reached : Type 0 where
  pub at : ℕ
  pub flow : Flow

-- the list, in rising order, with one more arrival at an address: what is known there is joined
unfoldable pub arrived : ℕ → Flow → List Reached → List Reached
arrived at f [] = record { at = at; flow = f } ∷ []
arrived at f (p ∷ ps) =
    if p.at == at then record { at = at; flow = joined p.flow f } ∷ ps
    else if nat_lt at p.at then record { at = at; flow = f } ∷ (p ∷ ps)
    else p ∷ arrived at f ps

-- with an arrival at each of these
unfoldable pub all_arrived : List ℕ → Flow → List Reached → List Reached
all_arrived [] f ps = ps
all_arrived (at ∷ ats) f ps = all_arrived ats f (arrived at f ps)

-- how far the stack pointer is below the start
abbrev pub depth_of : Value → ℕ
depth_of (Stack k) = depth k
depth_of _ = 0

-- with what was looked at: the walk ends, or it goes on from what is reached
abbrev pub walk_on : (List Reached → ℕ → Verdict) → ℕ → List Reached → ℕ → Looked → Verdict
walk_on next at ps uses (Refused why) = No why at
walk_on next at ps uses (Passed f targets) = next (all_arrived targets f ps) (max uses (depth_of (value_of f.values 2)))

-- where no more addresses may be looked at
abbrev pub ended : List Reached → ℕ → Verdict
ended [] uses = Yes uses
ended (p ∷ ps) uses = No TooLong p.at

-- where so many addresses more may be looked at, these are reached, and so much was used
unfoldable pub walk : List ℕ → Region → ℕ → List Reached → ℕ → Verdict
walk code region zero ps uses = ended ps uses
walk code region (suc n) [] uses = Yes uses
walk code region (suc n) (p ∷ ps) uses = walk_on (λ qs u. walk code region n qs u) p.at ps uses (looked code region p.at p.flow)

-- how many addresses a handler may have
abbrev pub max_addresses : ℕ
max_addresses = 1024

-- on the handler at an address of ROM, where the stack lies in a region
unfoldable pub verdict : List ℕ → ℕ → Region → Verdict
verdict code handler region = walk code region max_addresses (record { at = handler; flow = flow_at_start } ∷ []) 0

-- a yes counts at most 4,096 bytes
abbrev pub UsesLittle : Verdict → Type 0
UsesLittle (Yes uses) = uses ≤ 4096
UsesLittle (No why at) = Unit {0}
