-- One address of the walk.
use Rattle.std.proofs.Common.{◌≡◌, ℕ, zero, suc, ◌<◌, max, List, [], ◌∷◌, length, get_or, refl, sym, ap, ap₂, ◌∙◌, arith}
use Rattle.std.specs.List.{remove}
use Rattle.chain_flow.specs.Flow.{Flow, value_of}
use Rattle.chain_flow.specs.Rules.{looked}
use Rattle.chain_flow.specs.Look.{look_of, targets_of}
use Rattle.chain_flow.specs.Walk.{Reached, all_arrived, depth_of, walk_on, walk, ended}
use Rattle.chain_flow.specs.declared.look.Look.{Look}
use Rattle.chain_flow.specs.declared.look.Look.TheVariants.{Refuses, Returns, GoesTo, Branches}
use Rattle.chain_flow.specs.declared.lint_why.LintWhy.{LintWhy}
use Rattle.chain_flow.specs.declared.region.Region.{Region}
use Rattle.chain_flow.specs.declared.verdict.Verdict.TheVariants.{Yes, No}

pub none_left : (ps : List Reached) → length ps ≡ 0 → ps ≡ []
none_left [] e = refl
none_left (p ∷ ps) e = absurd (omega arith)

-- the first is taken
pub first_taken : (ps qs : List Reached) (p : Reached) → 0 < length ps → p ≡ get_or ps 0 p → qs ≡ remove ps 0 → ps ≡ p ∷ qs
first_taken [] qs p l e h = absurd (omega arith)
first_taken (x ∷ xs) qs p l e h = ap₂ (λ (y : Reached) (ys : List Reached). y ∷ ys) (sym e) (sym h)

module _ (code : List ℕ) (region : Region) where
  pub walk_empty : (n : ℕ) (ps : List Reached) (uses : ℕ) → ps ≡ [] → walk code region n ps uses ≡ Yes uses
  unfolding walk
  walk_empty zero ps uses e = ap (λ qs. ended qs uses) e
  walk_empty (suc n) ps uses e = ap (λ qs. walk code region (suc n) qs uses) e

  pub walk_ended : (n : ℕ) (ps : List Reached) (uses : ℕ) → n ≡ 0 → walk code region n ps uses ≡ ended ps uses
  unfolding walk
  walk_ended n ps uses e = ap (λ k. walk code region k ps uses) e

  module _ (n k at : ℕ) (flow after : Flow) (ps qs : List Reached) (uses : ℕ) (look : Look) (here : ps ≡ record { at = at; flow = flow } ∷ qs) (more : n ≡ suc k) (is : looked code region at flow ≡ look_of look after) where
    by_look : walk code region n ps uses ≡ walk_on (λ rs u. walk code region k rs u) at qs uses (look_of look after)
    unfolding walk
    by_look =
        ap (λ m. walk code region m ps uses) more
        ∙ (ap (λ rs. walk code region (suc k) rs uses) here
        ∙ ap (walk_on (λ rs u. walk code region k rs u) at qs uses) is)

    pub walk_refused : (why : LintWhy) → look ≡ Refuses why → walk code region n ps uses ≡ No why at
    walk_refused why e = by_look ∙ ap (λ l. walk_on (λ rs u. walk code region k rs u) at qs uses (look_of l after)) e

    passed : (l : Look) → ((why : LintWhy) → l ≡ Refuses why → ⊥) → walk_on (λ rs u. walk code region k rs u) at qs uses (look_of l after) ≡ walk code region k (all_arrived (targets_of l) after qs) (max uses (depth_of (value_of after.values 2)))
    passed (Refuses why) goes = absurd (goes why refl)
    passed Returns goes = refl
    passed (GoesTo target) goes = refl
    passed (Branches far near) goes = refl

    pub walk_passed : ((why : LintWhy) → look ≡ Refuses why → ⊥) → walk code region n ps uses ≡ walk code region k (all_arrived (targets_of look) after qs) (max uses (depth_of (value_of after.values 2)))
    walk_passed goes = by_look ∙ passed look goes
