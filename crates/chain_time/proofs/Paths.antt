-- The longest way is one more than the longest of those that go on from it.
use Rattle.std.proofs.Common.{◌≡◌, ℕ, zero, suc, ◌+◌, ◌<◌, ◌≤◌, max, inl, inr, Bool, true, false, cond, List, [], ◌∷◌, Option, Some, None, refl, sym, ap, ap₂, ◌∙◌, subst, arith}
use Rattle.std.specs.Prelude.{nat_lt}
use Rattle.std.proofs.lemmas.Bool.{ltb-true, lt-ltb, or_parts}
use Rattle.hart_memory.specs.declared.address_map.TheConstants.{BANK_LEN}
use Rattle.chain_moves.specs.Slot.{back}
use Rattle.chain_flow.specs.Flow.{Flow}
use Rattle.chain_flow.specs.Rules.{Passed, looked, is_outside, is_bad_half}
use Rattle.chain_flow.specs.declared.region.Region.{Region}
use Rattle.chain_flow.proofs.Looks.{looks, half_in}
use Rattle.chain_flow.proofs.Rising.{AllFrom}
use Rattle.chain_flow.proofs.Targets.{targets_above}
use Rattle.chain_lint.proofs.Walks.{IsOf}
use Rattle.chain_lint.proofs.Fetches.{back_outside}
use Rattle.chain_flow.specs.Onward.{onward_ins, onward_fetched, onward_code, onward}
use Rattle.chain_time.specs.Path.{greatest, way_by, way, path}

-- ---- the greatest of some ways
greatest_same : (f g : ℕ → ℕ) (at : ℕ) (ts : List ℕ) → ((t : ℕ) → at < t → f t ≡ g t) → greatest f at ts ≡ greatest g at ts
unfolding greatest
greatest_same f g at [] h = refl
greatest_same f g at (t ∷ ts) h = ap₂ max (one (nat_lt at t) refl) (greatest_same f g at ts h)
  where
    one : (b : Bool) → nat_lt at t ≡ b → cond b (f t) 0 ≡ cond b (g t) 0
    one true e = h t (ltb-true at t e)
    one false e = refl

way_by_same : (f g : ℕ → ℕ) (at : ℕ) (o : Option (List ℕ)) → ((t : ℕ) → at < t → f t ≡ g t) → way_by f at o ≡ way_by g at o
way_by_same f g at None h = refl
way_by_same f g at (Some ts) h = ap suc (greatest_same f g at ts h)

greatest_least : (f : ℕ → ℕ) (at t : ℕ) (ts : List ℕ) → at < t → IsOf t ts → f t ≤ greatest f at ts
unfolding greatest
greatest_least f at t [] l h = absurd h
greatest_least f at t (u ∷ ts) l (inl e) =
    let is : cond (nat_lt at u) (f u) 0 ≡ f t = ap (λ x. cond (nat_lt at x) (f x) 0) (sym e) ∙ ap (λ b. cond b (f t) 0) (lt-ltb at t l) in
    omega arith
greatest_least f at t (u ∷ ts) l (inr h) = let i = greatest_least f at t ts l h in omega arith

-- ---- outside there is no way
outside_none : (code : List ℕ) (at : ℕ) → (is_outside code at ≡ false → ⊥) → onward code at ≡ None
unfolding onward
outside_none code at h = by (is_outside code at) refl
  where
    by : (b : Bool) → is_outside code at ≡ b → onward_code code at b ≡ None
    by true e = refl
    by false e = absurd (h e)

high_none : (code : List ℕ) (at : ℕ) → BANK_LEN ≤ at → onward code at ≡ None
high_none code at l = outside_none code at (λ e. let h = (half_in at (or_parts (is_bad_half at) _ e).0).0 in omega arith)

-- ---- a way has enough room in ROM
way_more : (code : List ℕ) (n at : ℕ) → way code (suc n) at ≡ way_by (λ t. way code n t) at (onward code at)
unfolding way
way_more code n at = refl

way_none : (code : List ℕ) (at : ℕ) → way code zero at ≡ 0
unfolding way
way_none code at = refl

way_high : (code : List ℕ) (n at : ℕ) → BANK_LEN ≤ at → way code n at ≡ 0
way_high code zero at l = way_none code at
way_high code (suc n) at l = way_more code n at ∙ ap (way_by (λ t. way code n t) at) (high_none code at l)

way_same : (code : List ℕ) (n m at : ℕ) → BANK_LEN ≤ at + n → BANK_LEN ≤ at + m → way code n at ≡ way code m at
way_same code zero m at l r = way_none code at ∙ sym (way_high code m at (omega arith))
way_same code (suc n) zero at l r = way_high code (suc n) at (omega arith) ∙ sym (way_none code at)
way_same code (suc n) (suc m) at l r =
    way_more code n at
    ∙ (way_by_same (λ t. way code n t) (λ t. way code m t) at (onward code at) (λ t h. way_same code n m t (omega arith) (omega arith))
    ∙ sym (way_more code m at))

path_way : (code : List ℕ) (at : ℕ) → path code at ≡ way code BANK_LEN at
unfolding path
path_way code at = refl

pub path_is : (code : List ℕ) (at : ℕ) → path code at ≡ way_by (path code) at (onward code at)
path_is code at = path_by BANK_LEN refl
  where
    path_by : (n : ℕ) → n ≡ BANK_LEN → path code at ≡ way_by (path code) at (onward code at)
    path_by n e =
        path_way code at
        ∙ (way_same code BANK_LEN (suc n) at (omega arith) (omega arith)
        ∙ (way_more code n at
        ∙ way_by_same (λ t. way code n t) (path code) at (onward code at) (λ t h. ap (λ k. way code k t) e ∙ sym (path_way code t))))

-- no way is longer than ROM
greatest_small : (f : ℕ → ℕ) (n at : ℕ) (ts : List ℕ) → ((t : ℕ) → f t ≤ n) → greatest f at ts ≤ n
unfolding greatest
greatest_small f n at [] h = omega arith
greatest_small f n at (t ∷ ts) h = let i = greatest_small f n at ts h in let o = one (nat_lt at t) in omega arith
  where
    one : (b : Bool) → cond b (f t) 0 ≤ n
    one true = h t
    one false = omega arith

way_by_small : (f : ℕ → ℕ) (n at : ℕ) (o : Option (List ℕ)) → ((t : ℕ) → f t ≤ n) → way_by f at o ≤ suc n
way_by_small f n at None h = omega arith
way_by_small f n at (Some ts) h = let i = greatest_small f n at ts h in omega arith

way_small : (code : List ℕ) (n at : ℕ) → way code n at ≤ n
way_small code zero at = omega (arith, way_none code at)
way_small code (suc n) at = let e = way_more code n at in let l = way_by_small (λ t. way code n t) n at (onward code at) (λ t. way_small code n t) in omega arith

pub path_small : (code : List ℕ) (at : ℕ) → path code at ≤ BANK_LEN
path_small code at = let e = path_way code at in let l = way_small code BANK_LEN at in omega arith

-- ---- an address that passed
above_of : (from : ℕ) (ts : List ℕ) (t : ℕ) → AllFrom from ts → IsOf t ts → from ≤ t
above_of from [] t a h = absurd h
above_of from (u ∷ ts) t a (inl e) = subst (λ x. from ≤ x) (sym e) a.0
above_of from (u ∷ ts) t a (inr h) = above_of from ts t a.1 h

passed_onward : (code : List ℕ) (region : Region) (at : ℕ) (f after : Flow) (ts : List ℕ) → looked code region at f ≡ Passed after ts → onward code at ≡ Some ts
unfolding onward
passed_onward code region at f after ts e =
    let l = looks code region at f after ts e in
    ap (onward_code code at) l.inside
    ∙ (ap (onward_fetched at) l.fetches
    ∙ (ap (onward_ins at l.length) l.decodes
    ∙ ap Some (sym l.is_next)))

-- each instruction is one fewer
pub path_falls : (code : List ℕ) (region : Region) (at t : ℕ) (f after : Flow) (ts : List ℕ) → looked code region at f ≡ Passed after ts → IsOf t ts → suc (path code t) ≤ path code at
path_falls code region at t f after ts e h =
    let is : path code at ≡ suc (greatest (path code) at ts) = path_is code at ∙ ap (way_by (path code) at) (passed_onward code region at f after ts e) in
    let up = above_of (suc at) ts t (targets_above code region at f after ts e) h in
    let l = greatest_least (path code) at t ts up h in
    omega arith

pub path_high : (code : List ℕ) (at : ℕ) → BANK_LEN ≤ at → path code at ≡ 0
path_high code at l = path_is code at ∙ ap (way_by (path code) at) (high_none code at l)

pub path_back : (code : List ℕ) → path code back ≡ 0
path_back code = path_is code back ∙ ap (way_by (path code) back) (outside_none code back (λ e. back_outside code e))

-- and the last one is one
pub path_ends : (code : List ℕ) (region : Region) (at : ℕ) (f after : Flow) (ts : List ℕ) → looked code region at f ≡ Passed after ts → suc (path code back) ≤ path code at
path_ends code region at f after ts e =
    let is : path code at ≡ suc (greatest (path code) at ts) = path_is code at ∙ ap (way_by (path code) at) (passed_onward code region at f after ts e) in
    let b = path_back code in
    omega arith
