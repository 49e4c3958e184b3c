-- Loops over uses.
use Rattle.std.proofs.Common.{◌≡◌, ℕ, zero, suc, ◌+◌, ◌*◌, ◌≤◌, max, true, List, [], ◌∷◌, refl, arith}
use Rattle.std.specs.Prelude.{◌==◌}
use Rattle.std.specs.List.{All}
use Rattle.std.proofs.lemmas.Bool.{eqb-true, cond_both}
use Rattle.chain_lint.specs.Bound.{Use, IsUse, level_cost, bound_below}

all_head : (u : Use) (us : List Use) → All IsUse (u ∷ us) → IsUse u
all_head u us h = h 0 u (omega arith)

all_tail : (u : Use) (us : List Use) → All IsUse (u ∷ us) → All IsUse us
all_tail u us h k d l = h (suc k) d (omega arith)

pub cost_small : (us : List Use) (level : ℕ) → All IsUse us → level_cost us level ≤ 4128
unfolding level_cost
cost_small [] level h = omega arith
cost_small (u ∷ us) level h =
    let small = (all_head u us h).uses in
    let rest = cost_small us level (all_tail u us h) in
    cond_both (u.level == level) (max (32 + u.uses) (level_cost us level)) (level_cost us level) (λ x. x ≤ 4128) (λ e. omega arith) (λ e. rest)

-- no use is of level 0
pub cost_none : (us : List Use) → All IsUse us → level_cost us 0 ≡ 0
unfolding level_cost
cost_none [] h = refl
cost_none (u ∷ us) h =
    let some = (all_head u us h).level in
    cond_both (u.level == 0) (max (32 + u.uses) (level_cost us 0)) (level_cost us 0) (λ x. x ≡ 0) (λ e. absurd (zero_level u.level some e)) (λ e. cost_none us (all_tail u us h))
  where
    zero_level : (l : ℕ) → 1 ≤ l → (l == 0) ≡ true → ⊥
    zero_level l p e = let q = eqb-true l 0 e in omega arith

-- so level 0 adds nothing, and each other level at most a frame with 4,096 bytes
pub bound_small : (us : List Use) (n : ℕ) → All IsUse us → bound_below us (suc n) ≤ n * 4128
unfolding bound_below
bound_small us zero h = let e = cost_none us h in omega arith
bound_small us (suc n) h = let l = cost_small us (suc n) h in let r = bound_small us n h in omega arith

pub sum_small : (us : List Use) (n : ℕ) → All IsUse us → bound_below us n ≤ n * 4128
unfolding bound_below
sum_small us zero h = omega arith
sum_small us (suc n) h = let l = cost_small us n h in let r = sum_small us n h in omega arith
