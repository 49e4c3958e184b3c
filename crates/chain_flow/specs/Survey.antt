-- The verdict in words: which addresses are visited, and what is known at each.
use Rattle.std.specs.Prelude.{◌≡◌, ◌⊎◌, ◌<◌, ◌≤◌, ℕ, ◌==◌, max, List, [], ◌∷◌, length, Option, Some, None, if◌then◌else◌}
use Rattle.chain_flow.specs.Flow.{Flow, joined, flow_at_start, value_of}
use Rattle.chain_flow.specs.Rules.{Refused, Passed, looked}
use Rattle.chain_flow.specs.Walk.{depth_of, max_addresses}
use Rattle.chain_flow.specs.declared.region.Region.{Region}
use Rattle.chain_flow.specs.declared.lint_why.LintWhy.{LintWhy}
use Rattle.chain_flow.specs.declared.lint_why.LintWhy.TheVariants.{TooLong}
use Rattle.chain_flow.specs.declared.verdict.Verdict.{Verdict}
use Rattle.chain_flow.specs.declared.verdict.Verdict.TheVariants.{Yes, No}

-- an address where no rule holds: what is known before its instruction and after it, and where the instruction goes on
pub record Visit : Type 0 where
  pub at : ℕ
  pub flow : Flow
  pub after : Flow
  pub targets : List ℕ

-- ---- what is known at an address

abbrev pub joined_onto : Option Flow → Flow → Flow
joined_onto None f = f
joined_onto (Some g) f = joined g f

abbrev pub with_arrival : ℕ → ℕ → Flow → Option Flow → Option Flow
with_arrival at target f known = if target == at then Some (joined_onto known f) else known

unfoldable pub with_arrivals : ℕ → List ℕ → Flow → Option Flow → Option Flow
with_arrivals at [] f known = known
with_arrivals at (t ∷ ts) f known = with_arrivals at ts f (with_arrival at t f known)

-- the join over all visits, the latest first, that go there; at the handler, what is known at the start. None where nothing goes there
unfoldable pub known_at : ℕ → ℕ → List Visit → Option Flow
known_at handler at [] = if handler == at then Some flow_at_start else None
known_at handler at (v ∷ vs) = with_arrivals at v.targets v.after (known_at handler at vs)

-- ---- the order of the visits

abbrev pub IsVisited : ℕ → List Visit → Type 0
IsVisited at [] = ⊥
IsVisited at (v ∷ vs) = (v.at ≡ at) ⊎ IsVisited at vs

-- so much is known at an address, which is above all that are visited and the least of those that aren't
pub record IsNext (handler : ℕ) (vs : List Visit) (at : ℕ) (f : Flow) : Type 0 where
  pub known : known_at handler at vs ≡ Some f
  pub above : (a : ℕ) → IsVisited a vs → a < at
  pub least : (a : ℕ) (g : Flow) → known_at handler a vs ≡ Some g → IsVisited a vs ⊎ (at ≤ a)

-- each visit was the next one, and no rule holds there
abbrev pub AreVisits : List ℕ → Region → ℕ → List Visit → Type 0
AreVisits code region handler [] = Unit {0}
AreVisits code region handler (v ∷ vs) = AreVisits code region handler vs × IsNext handler vs v.at v.flow × (looked code region v.at v.flow ≡ Passed v.after v.targets)

-- the greatest depth of the stack pointer after a visit
abbrev pub deepest : List Visit → ℕ
deepest [] = 0
deepest (v ∷ vs) = max (deepest vs) (depth_of (value_of v.after.values 2))

-- ---- the verdict

-- each address that is reached is visited, there are at most 1,024, and the deepest stack pointer is so far down
pub record IsYes (code : List ℕ) (region : Region) (handler uses : ℕ) : Type 0 where
  pub visits : List Visit
  pub are_visits : AreVisits code region handler visits
  pub few : length visits ≤ max_addresses
  pub closed : (a : ℕ) (g : Flow) → known_at handler a visits ≡ Some g → IsVisited a visits
  pub most : uses ≡ deepest visits

-- at the next address it is the 1,025th one, or else the first rule that holds is this
pub record IsNo (code : List ℕ) (region : Region) (handler : ℕ) (why : LintWhy) (at : ℕ) : Type 0 where
  pub visits : List Visit
  pub are_visits : AreVisits code region handler visits
  pub flow : Flow
  pub next : IsNext handler visits at flow
  pub rule : ((length visits ≡ max_addresses) × (why ≡ TooLong)) ⊎ ((length visits < max_addresses) × (looked code region at flow ≡ Refused why))

abbrev pub IsVerdict : List ℕ → Region → ℕ → Verdict → Type 0
IsVerdict code region handler (Yes uses) = IsYes code region handler uses
IsVerdict code region handler (No why at) = IsNo code region handler why at
