-- Marks of dead bytes, and tests of several bytes.
use Rattle.std.proofs.Common.{◌≡◌, ◌≢◌, ℕ, zero, suc, ◌+◌, ◌<◌, ◌≤◌, ◌⊎◌, inl, inr, ⊎_elim, Bool, false, List, get_or, set, refl, sym, ◌∙◌, subst, arith}
use Rattle.std.proofs.lemmas.List.{get_or-set_other}
use Rattle.std.proofs.lemmas.Bool.{cases_eq, or_parts}
use Rattle.chain_moves.specs.Bytes.{some_byte, marked}

-- ---- tests of several bytes
pub none_of : (test : ℕ → Bool) (at n : ℕ) → some_byte test at n ≡ false → (j : ℕ) → at ≤ j → j < at + n → test j ≡ false
unfolding some_byte
none_of test at zero e j l r = absurd (omega arith)
none_of test at (suc n) e j l r =
    let parts = or_parts (test at) (some_byte test (at + 1) n) e in
    ⊎_elim
    (λ (q : j ≡ at). subst (λ i. test i ≡ false) (sym q) parts.0)
    (λ (q : j ≡ at → ⊥). none_of test (at + 1) n parts.1 j (omega arith) (omega arith))
    (cases_eq j at)

-- ---- marks
pub marked_other : (n : ℕ) (dead : List Bool) (k : ℕ) (mark : Bool) (i : ℕ) → (i < k) ⊎ (k + n ≤ i) → get_or (marked dead k n mark) i false ≡ get_or dead i false
unfolding marked
marked_other zero dead k mark i h = refl
marked_other (suc n) dead k mark i h =
    let out : (i < k + 1) ⊎ (k + 1 + n ≤ i) = ⊎_elim (λ l. inl (omega arith)) (λ l. inr (omega arith)) h in
    let ne : i ≢ k = omega arith in
    marked_other n (set dead k mark) (k + 1) mark i out ∙ get_or-set_other dead k i mark false ne
