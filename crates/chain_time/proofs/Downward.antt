-- A table of longest ways, from its end downwards.
use Rattle.std.proofs.Common.{◌≡◌, ℕ, ◌+◌, ◌-◌, ◌<◌, ◌≤◌, max, ◌⊎◌, inl, inr, Bool, true, false, cond, List, [], ◌∷◌, ◌++◌, length, get_or, None, refl, sym, ap, ◌∙◌, subst, arith, length-append}
use Rattle.std.specs.Prelude.{nat_lt}
use Rattle.std.proofs.Math.ListN.{get_or-append}
use Rattle.std.proofs.Math.Seq.{get_or-append_seam}
use Rattle.std.proofs.lemmas.Bool.{cases_lt, ltb-true, ltb-false}
use Rattle.hart_memory.specs.declared.address_map.TheConstants.{BANK_LEN}
use Rattle.chain_flow.specs.Look.{onward_of}
use Rattle.chain_flow.specs.Onward.{onward}
use Rattle.chain_flow.specs.declared.look.Look.{Look}
use Rattle.chain_flow.specs.declared.look.Look.TheVariants.{Returns, GoesTo, Branches}
use Rattle.chain_time.specs.Path.{greatest, way_by, path}
use Rattle.chain_time.specs.Ways.{AreWays}
use Rattle.chain_time.proofs.Paths.{path_is, path_small}

-- ---- one address
module _ (code : List ℕ) (at : ℕ) (look : Look) (goes : onward_of look ≡ onward code at) where
  by_look : path code at ≡ way_by (path code) at (onward_of look)
  by_look = path_is code at ∙ ap (way_by (path code) at) (sym goes)

  pub refused_way : (l : Look) → look ≡ l → onward_of l ≡ None → 0 ≡ path code at
  refused_way l e none = sym (by_look ∙ ap (way_by (path code) at) (ap onward_of e ∙ none))

  pub returns_way : look ≡ Returns → 1 ≡ path code at
  unfolding greatest
  returns_way e = sym (by_look ∙ ap (λ l. way_by (path code) at (onward_of l)) e)

  pub goes_way : (target x : ℕ) → look ≡ GoesTo target → x ≡ cond (nat_lt at target) (path code target) 0 → 1 + x ≡ path code at
  unfolding greatest
  goes_way target x e is = let all = by_look ∙ ap (λ l. way_by (path code) at (onward_of l)) e in omega arith

  pub branches_way : (far near x y : ℕ) → look ≡ Branches far near → x ≡ cond (nat_lt at far) (path code far) 0 → y ≡ cond (nat_lt at near) (path code near) 0 → 1 + max x y ≡ path code at
  unfolding greatest
  branches_way far near x y e is also = let all = by_look ∙ ap (λ l. way_by (path code) at (onward_of l)) e in omega arith

-- ---- the rows
-- a row's way, where its address is above the one in hand, and else 0
pub above_or_none : (code rows : List ℕ) (at target x : ℕ) → at ≡ BANK_LEN - 1 - length rows → length rows < BANK_LEN → (BANK_LEN ≤ target + length rows → x ≡ path code target) → (target + length rows < BANK_LEN → x ≡ 0) → x ≡ cond (nat_lt at target) (path code target) 0
above_or_none code rows at target x e room above below = one (nat_lt at target) refl
  where
    one : (b : Bool) → nat_lt at target ≡ b → x ≡ cond b (path code target) 0
    one true q = let l = ltb-true at target q in above (omega arith)
    one false q = let l = ltb-false at target q in below (omega arith)

pub small_way : (code : List ℕ) (at target x : ℕ) → x ≡ cond (nat_lt at target) (path code target) 0 → x ≤ BANK_LEN
small_way code at target x e = one (nat_lt at target) e
  where
    one : (b : Bool) → x ≡ cond b (path code target) 0 → x ≤ BANK_LEN
    one true q = let s = path_small code target in omega arith
    one false q = omega arith

pub ways_more : (code rows after : List ℕ) (w : ℕ) → AreWays code rows → w ≡ path code (BANK_LEN - 1 - length rows) → after ≡ rows ++ w ∷ [] → AreWays code after
ways_more code rows after w h e is k l = subst (λ (xs : List ℕ). get_or xs k 0 ≡ path code (BANK_LEN - 1 - k)) (sym is) (one (cases_lt k (length rows)))
  where
    one : (k < length rows) ⊎ (length rows ≤ k) → get_or (rows ++ w ∷ []) k 0 ≡ path code (BANK_LEN - 1 - k)
    one (inl less) = get_or-append rows (w ∷ []) 0 k less ∙ h k less
    one (inr more) =
        let last : k < length rows + 1 = subst (λ n. k < n) (ap length is ∙ length-append rows (w ∷ [])) l in
        let same : k ≡ length rows = omega arith in
        ap (λ n. get_or (rows ++ w ∷ []) n 0) same ∙ (get_or-append_seam rows w [] 0 ∙ (e ∙ ap (λ n. path code (BANK_LEN - 1 - n)) (sym same)))
