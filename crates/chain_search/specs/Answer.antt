-- What the search for a certificate answers.
use Rattle.std.specs.Prelude.{◌≡◌, ◌⊎◌, ℕ, List, Some}
use Rattle.chain_flow.specs.declared.region.Region.{Region}
use Rattle.chain_flow.specs.declared.lint_why.LintWhy.{LintWhy}
use Rattle.chain_flow.specs.declared.lint_why.LintWhy.TheVariants.{TooLong}
use Rattle.chain_flow.specs.declared.verdict.Verdict.{Verdict}
use Rattle.chain_flow.specs.declared.verdict.Verdict.TheVariants.{Yes, No}
use Rattle.chain_certify.specs.Flow.{Flow}
use Rattle.chain_certify.specs.Rules.{Refused, looked}
use Rattle.chain_certify.specs.Check.{Node, checked}

-- the rule is the first that refuses the instruction at this address, where something is known there; or the search had an end before it was through
abbrev pub IsRefusal : List ℕ → Region → LintWhy → ℕ → Type 0
IsRefusal code region why at = (why ≡ TooLong) ⊎ ((f : Flow) × (looked code region at f ≡ Refused why))

-- a yes has a certificate that is accepted with these uses, and a no a rule that refuses
abbrev pub IsAnswer : List ℕ → ℕ → Region → Verdict → Type 0
IsAnswer code handler region (Yes uses) = (nodes : List Node) × (checked code handler region nodes ≡ Some uses)
IsAnswer code handler region (No why at) = IsRefusal code region why at
