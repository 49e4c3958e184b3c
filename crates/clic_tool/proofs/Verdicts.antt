-- The statuses of the static checker's answers.
use Rattle.std.proofs.Common.{◌≡◌, ◌⊎◌, refl, inl, inr}
use Rattle.chain_flow.specs.declared.verdict.Verdict.{Verdict}
use Rattle.chain_flow.specs.declared.verdict.Verdict.TheVariants.{Yes, No}
use Rattle.chain_lint.specs.declared.table_bound.TableBound.{TableBound}
use Rattle.chain_lint.specs.declared.table_bound.TableBound.TheVariants.{Bound, BadTable, Refused}
use Rattle.tool_frame.specs.declared.status.Status.{Status}
use Rattle.tool_frame.specs.declared.status.Status.TheVariants.{Done, Rejected}
use Rattle.tool_work.specs.Lint.{status_of as verdict_status}
use Rattle.tool_work.specs.Bound.{status_of as bound_status}
use Rattle.clic_tool.specs.LintCauses.{IsYes, IsNo, IsBounded, IsRefused}

-- the status of an answer
abbrev pub IsAnswerStatus : Status → Type 0
IsAnswerStatus s = (s ≡ Done) ⊎ (s ≡ Rejected)

pub verdict_answers : (v : Verdict) → IsAnswerStatus (verdict_status v)
verdict_answers (Yes uses) = inl refl
verdict_answers (No why at) = inr refl

pub bound_answers : (b : TableBound) → IsAnswerStatus (bound_status b)
bound_answers (Bound bytes) = inl refl
bound_answers (BadTable at) = inr refl
bound_answers (Refused why at) = inr refl

pub is_yes : (v : Verdict) → verdict_status v ≡ Done → IsYes v
is_yes (Yes uses) e = (uses, refl)
is_yes (No why at) e = cc

pub is_no : (v : Verdict) → verdict_status v ≡ Rejected → IsNo v
is_no (Yes uses) e = cc
is_no (No why at) e = (why, at, refl)

pub is_bounded : (b : TableBound) → bound_status b ≡ Done → IsBounded b
is_bounded (Bound bytes) e = (bytes, refl)
is_bounded (BadTable at) e = cc
is_bounded (Refused why at) e = cc

pub is_refused : (b : TableBound) → bound_status b ≡ Rejected → IsRefused b
is_refused (Bound bytes) e = cc
is_refused (BadTable at) e = inl (at, refl)
is_refused (Refused why at) e = inr (why, at, refl)
