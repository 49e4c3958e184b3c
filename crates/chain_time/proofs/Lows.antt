-- Sums over a list where the lowest level is fused, row by row.
use Rattle.std.proofs.Common.{◌≡◌, ℕ, ◌+◌, ◌*◌, ◌<◌, ◌≤◌, min, List, [], ◌∷◌, length, get_or, drop, refl, ap, ◌∙◌, arith}
use Rattle.std.proofs.lemmas.List.{drop_more, drop_all}
use Rattle.chain_time.specs.Counts.{Timed}
use Rattle.chain_time.specs.Looping.{looping_worth, looping_time, lowest}

-- ---- the sum
more_time : (r : Timed) (rs : List Timed) (low : ℕ) → looping_time low (r ∷ rs) ≡ r.count * looping_worth low r + looping_time low rs
unfolding looping_time
more_time r rs low = refl

pub next_time : (list : List Timed) (low i sum x : ℕ) (d : Timed) → x ≡ (get_or list i d).count * looping_worth low (get_or list i d) → i < length list → sum + looping_time low (drop i list) ≡ looping_time low list
    → sum + x + looping_time low (drop (i + 1) list) ≡ looping_time low list
next_time list low i sum x d e l h =
    let o = ap (λ rs. looping_time low rs) (drop_more list i d l) ∙ more_time (get_or list i d) (drop (i + 1) list) low in
    omega arith

pub time_end : (list : List Timed) (low i : ℕ) → length list ≤ i → looping_time low (drop i list) ≡ 0
unfolding looping_time
time_end list low i l = ap (λ rs. looping_time low rs) (drop_all i list l)

-- ---- the least
more_least : (r : Timed) (rs : List Timed) → lowest (r ∷ rs) ≡ min r.level (lowest rs)
unfolding lowest
more_least r rs = refl

pub next_least : (list : List Timed) (i least : ℕ) (d : Timed) → i < length list → min least (lowest (drop i list)) ≡ lowest list → min (min least (get_or list i d).level) (lowest (drop (i + 1) list)) ≡ lowest list
next_least list i least d l h =
    let o = ap (λ rs. lowest rs) (drop_more list i d l) ∙ more_least (get_or list i d) (drop (i + 1) list) in
    omega arith

pub least_end : (list : List Timed) (i : ℕ) → length list ≤ i → lowest (drop i list) ≡ 255
unfolding lowest
least_end list i l = ap (λ rs. lowest rs) (drop_all i list l)

pub lowest_small : (list : List Timed) → lowest list ≤ 255
unfolding lowest
lowest_small [] = omega arith
lowest_small (r ∷ rs) = let i = lowest_small rs in omega arith
