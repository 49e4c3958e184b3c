-- Registers that are compared one after another.
use Rattle.std.proofs.Common.{◌≡◌, ℕ, zero, suc, ◌+◌, ◌<◌, ◌==◌, ⊎_elim, Bool, true, false, ◌&&◌, List, refl, ap, ap₂, ◌∙◌, subst, arith}
use Rattle.std.proofs.lemmas.Bool.{cases_eq}
use Rattle.hart_words.specs.Registers.{register}
use Rattle.chain_direct.specs.DirectBody.{are_same}

pub same_none : (kept registers : List ℕ) → are_same kept registers 0 ≡ true
unfolding are_same
same_none kept registers = refl

same_suc : (kept registers : List ℕ) (r : ℕ) → are_same kept registers (suc r) ≡ ((register registers r == register kept r) && are_same kept registers r)
unfolding are_same
same_suc kept registers r = refl

pub same_more : (kept registers : List ℕ) (r : ℕ) → (register registers r == register kept r) ≡ true → are_same kept registers r ≡ true → are_same kept registers (r + 1) ≡ true
same_more kept registers r e h = let s : r + 1 ≡ suc r = omega arith in ap (are_same kept registers) s ∙ same_suc kept registers r ∙ ap₂ (λ c d. c && d) e h

pub same_stops : (kept registers : List ℕ) (n r : ℕ) → r < n → (register registers r == register kept r) ≡ false → are_same kept registers n ≡ false
same_stops kept registers zero r l e = absurd (omega arith)
same_stops kept registers (suc n) r l e =
    same_suc kept registers n
    ∙ ⊎_elim
    (λ (q : r ≡ n). ap (λ b. b && are_same kept registers n) (subst (λ i. (register registers i == register kept i) ≡ false) q e))
    (λ (ne : r ≡ n → ⊥). ap (λ b. (register registers n == register kept n) && b) (same_stops kept registers n r (omega arith) e) ∙ right (register registers n == register kept n))
    (cases_eq r n)
  where
    right : (b : Bool) → (b && false) ≡ false
    right true = refl
    right false = refl
