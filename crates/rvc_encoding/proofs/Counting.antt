-- Tests of all numbers below a bound.
use Rattle.std.proofs.Common.{◌≡◌, ℕ, zero, suc, ◌<◌, ⊎_elim, Bool, true, false, ap, ◌∙◌, arith, ◌&&◌}
use Rattle.std.proofs.lemmas.Bool.{and_parts, cases_eq}

abbrev pub all_below : (ℕ → Bool) → ℕ → Bool
all_below p zero = true
all_below p (suc n) = p n && all_below p n

pub below : (p : ℕ → Bool) (n k : ℕ) → all_below p n ≡ true → k < n → p k ≡ true
below p zero k all lt = absurd (omega arith)
below p (suc n) k all lt =
    let both = and_parts (p n) (all_below p n) all in
    ⊎_elim (λ (e : k ≡ n). ap p e ∙ both.0) (λ (ne : k ≡ n → ⊥). below p n k both.1 (omega arith)) (cases_eq k n)

-- the second test where the first holds
abbrev pub where_true : Bool → (Bool → Bool) → Bool
where_true b p = elim b [ true ↦ p true | false ↦ true ]

pub holds_where : (b : Bool) (p : Bool → Bool) → b ≡ true → where_true b p ≡ true → p true ≡ true
holds_where true p e h = h
holds_where false p e h = cc
