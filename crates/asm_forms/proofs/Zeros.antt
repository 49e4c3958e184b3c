-- Bytes that are 0.
use Rattle.std.proofs.Common.{◌≡◌, ℕ, zero, suc, ◌+◌, List, [], ◌∷◌, ◌++◌, refl, sym, ap, ◌∙◌, arith, append_assoc, length}
use Rattle.std.specs.Prelude.{replicate}
use Rattle.hart_memory.specs.Memory.{zeros}

append_none : (xs : List ℕ) → xs ++ [] ≡ xs
append_none [] = refl
append_none (x ∷ xs) = ap (λ ys. x ∷ ys) (append_none xs)

pub zeros_none : (xs : List ℕ) → xs ≡ xs ++ zeros 0
unfolding zeros
zeros_none xs = sym (append_none xs)

replicate_more : (n : ℕ) → replicate {A = ℕ} (suc n) 0 ≡ replicate n 0 ++ 0 ∷ []
replicate_more zero = refl
replicate_more (suc n) = ap (λ ys. 0 ∷ ys) (replicate_more n)

pub zeros_more : (xs ys : List ℕ) (n : ℕ) → xs ≡ ys ++ zeros n → xs ++ 0 ∷ [] ≡ ys ++ zeros (n + 1)
unfolding zeros
zeros_more xs ys n e =
    ap (λ zs. zs ++ 0 ∷ []) e ∙ append_assoc ys (replicate n 0) (0 ∷ []) ∙ ap (λ zs. ys ++ zs) (sym (replicate_more n) ∙ ap (λ k. replicate k 0) (let one : suc n ≡ n + 1 = omega arith in one))

length_replicate : (n : ℕ) → length (replicate {A = ℕ} n 0) ≡ n
length_replicate zero = refl
length_replicate (suc n) = ap suc (length_replicate n)

pub length_zeros : (n : ℕ) → length (zeros n) ≡ n
unfolding zeros
length_zeros n = length_replicate n
