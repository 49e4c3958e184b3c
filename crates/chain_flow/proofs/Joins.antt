-- Joining values one by one.
use Rattle.std.proofs.Common.{◌≡◌, ℕ, ◌+◌, ◌<◌, ◌≤◌, List, [], ◌∷◌, ◌++◌, length, take, drop, get_or, set, refl, sym, ap, ap₂, ◌∙◌, arith, append_assoc}
use Rattle.std.proofs.lemmas.List.{take_more_set, drop-set-lt, drop_more, take_all, drop_all, append-nil}
use Rattle.chain_flow.specs.Flow.{Value, same_or_unknown, is_same, joined_values}

-- the first i were joined, and the others are left
abbrev pub joined_so_far : List Value → List Value → ℕ → List Value
joined_so_far vs us i = take i vs ++ joined_values (drop i vs) (drop i us)

abbrev both : Value → Value → Value
both v u = same_or_unknown (is_same v u) v

heads : (v u : Value) (vs us : List Value) → joined_values (v ∷ vs) (u ∷ us) ≡ both v u ∷ joined_values vs us
unfolding joined_values
heads v u vs us = refl

pub joined_more : (vs us : List Value) (i : ℕ) (d e : Value) → i < length vs → i < length us → joined_so_far (set vs i (both (get_or vs i d) (get_or us i e))) us (i + 1) ≡ joined_so_far vs us i
joined_more vs us i d e l r =
    let v = get_or vs i d in
    let u = get_or us i e in
    let rest = joined_values (drop (i + 1) vs) (drop (i + 1) us) in
    ap₂ (λ (xs ys : List Value). xs ++ joined_values ys (drop (i + 1) us)) (take_more_set vs i (both v u) l) (drop-set-lt (i + 1) vs i (both v u) (omega arith))
    ∙ append_assoc (take i vs) (both v u ∷ []) rest
    ∙ ap (λ (xs : List Value). take i vs ++ xs) (sym (ap₂ (λ (xs ys : List Value). joined_values xs ys) (drop_more vs i d l) (drop_more us i e r) ∙ heads v u (drop (i + 1) vs) (drop (i + 1) us)))

nothing_left : (us : List Value) → joined_values [] us ≡ []
unfolding joined_values
nothing_left us = refl

pub joined_all : (vs us : List Value) (i : ℕ) → length vs ≤ i → joined_so_far vs us i ≡ vs
joined_all vs us i l = ap₂ (λ (xs ys : List Value). xs ++ joined_values ys (drop i us)) (take_all i vs l) (drop_all i vs l) ∙ ap (λ (xs : List Value). vs ++ xs) (nothing_left (drop i us)) ∙ append-nil vs
