-- The uses of the pairs that are left.
use Rattle.std.proofs.Common.{◌≡◌, ◌∙◌, ℕ, ◌+◌, ◌≤◌, ◌<◌, ◌++◌, ◌∷◌, [], length, get_or, drop, List, Option, Some, None, ap, ap₂, subst, sym}
use Rattle.std.proofs.lemmas.List.{drop_more, drop_all}
use Rattle.chain_lint.specs.declared.uses.Use.{Use}
use Rattle.chain_lint.specs.declared.pair.Pair.{Pair}
use Rattle.chain_search.specs.declared.pair_answer.PairAnswer.{PairAnswer}
use Rattle.chain_search.specs.declared.pair_answer.PairAnswer.TheVariants.{BadTable, Accepted, Refused}
use Rattle.chain_search.specs.Tables.{IsLittle, uses_told, by_uses, uses_from}

module _ (ps : List Pair) (bs : List PairAnswer) (i : ℕ) (us : List Use) where
  first : (d : Pair) (e : PairAnswer) → i < length ps → i < length bs → uses_from us (drop i ps) (drop i bs) ≡ by_uses (uses_told (get_or bs i e)) (λ uses. uses_from (us ++ record { level = (get_or ps i d).level; uses = uses } ∷ []) (drop (i + 1) ps) (drop (i + 1) bs))
  unfolding uses_from
  first d e l r = ap₂ (λ (qs : List Pair) (cs : List PairAnswer). uses_from us qs cs) (drop_more ps i d l) (drop_more bs i e r)

  pub uses_short : (d : Pair) → i < length ps → length bs ≤ i → uses_from us (drop i ps) (drop i bs) ≡ None
  unfolding uses_from
  uses_short d l r = ap₂ (λ (qs : List Pair) (cs : List PairAnswer). uses_from us qs cs) (drop_more ps i d l) (drop_all i bs r)

  pub uses_none : (d : Pair) (e : PairAnswer) → i < length ps → i < length bs → uses_told (get_or bs i e) ≡ None → uses_from us (drop i ps) (drop i bs) ≡ None
  uses_none d e l r none = first d e l r ∙ ap (λ (o : Option ℕ). by_uses o (λ uses. uses_from (us ++ record { level = (get_or ps i d).level; uses = uses } ∷ []) (drop (i + 1) ps) (drop (i + 1) bs))) none

  pub uses_more : (d : Pair) (e : PairAnswer) → i < length ps → i < length bs → (uses : ℕ) → uses_told (get_or bs i e) ≡ Some uses
      → uses_from (us ++ record { level = (get_or ps i d).level; uses = uses } ∷ []) (drop (i + 1) ps) (drop (i + 1) bs) ≡ uses_from us (drop i ps) (drop i bs)
  uses_more d e l r uses some = sym (first d e l r ∙ ap (λ (o : Option ℕ). by_uses o (λ n. uses_from (us ++ record { level = (get_or ps i d).level; uses = n } ∷ []) (drop (i + 1) ps) (drop (i + 1) bs))) some)

  pub uses_all : length ps ≤ i → uses_from us (drop i ps) (drop i bs) ≡ Some us
  unfolding uses_from
  uses_all l = ap (λ (qs : List Pair). uses_from us qs (drop i bs)) (drop_all i ps l)

pub uses_small : (a : PairAnswer) (uses : ℕ) → IsLittle a → uses_told a ≡ Some uses → uses ≤ 4096
uses_small (Accepted n) uses h e = let same : n ≡ uses = cc in subst (λ k. k ≤ 4096) same h
uses_small (BadTable at) uses h e = absurd cc
uses_small (Refused why at) uses h e = absurd cc
