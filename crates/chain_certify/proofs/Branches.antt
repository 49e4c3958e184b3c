-- What is known on the side that a branch takes.
use Rattle.std.proofs.Common.{◌≡◌, ℕ, ◌+◌, ◌-◌, ◌^◌, ◌<◌, ◌≤◌, Bool, true, false, cond, List, Option, Some, None, refl, sym, ap, ◌∙◌, arith}
use Rattle.std.specs.Prelude.{◌==◌, nat_le, nat_lt, min, max}
use Rattle.std.proofs.lemmas.Bool.{eqb-true, eqb-false, ltb-true, ltb-false, lt-ltb, le-leb, cond_both, true≢false, false≢true, not-true, not-false}
use Rattle.hart_exec.specs.Branches.{branch_taken}
use Rattle.rv_encoding.specs.declared.operations.BranchOp.{BranchOp}
use Rattle.rv_encoding.specs.declared.operations.BranchOp.TheVariants.{Beq, Bne, Blt, Bge, Bltu, Bgeu}
use Rattle.chain_certify.specs.Flow.{low, high}
use Rattle.chain_certify.specs.declared.value.Value.{Value}
use Rattle.chain_certify.specs.declared.value.Value.TheVariants.{Entry, Const, Stack, Range, Unknown}
use Rattle.chain_certify.specs.Sides.{clipped, when_less, when_not_less, when_equal, trimmed, when_other, by_kind, is_so, side}
use Rattle.chain_certify.proofs.Values.{Holds, low_holds, high_holds, ranged_holds}

-- both words are told, and the side may be taken
abbrev pub BothHold : List ℕ → ℕ → ℕ → Option (Value × Value) → Type 0
BothHold kept x y None = ⊥
BothHold kept x y (Some both) = Holds kept both.0 x × Holds kept both.1 y

clipped_holds : (kept : List ℕ) (v : Value) (x least greatest : ℕ) → Holds kept v x → least ≤ x → x ≤ greatest → Holds kept (clipped v least greatest) x
clipped_holds kept (Entry r) x least greatest h l g = h
clipped_holds kept (Const c) x least greatest h l g = h
clipped_holds kept (Stack k) x least greatest h l g = h
clipped_holds kept (Range a b) x least greatest h l g = ranged_holds kept least greatest x l g
clipped_holds kept Unknown x least greatest h l g = ranged_holds kept least greatest x l g

-- where the test holds, it is the first
taken_if : (kept : List ℕ) (x y : ℕ) (b : Bool) (o : Option (Value × Value)) → b ≡ true → BothHold kept x y o → BothHold kept x y (cond b o None)
taken_if kept x y true o e h = h
taken_if kept x y false o e h = absurd (false≢true e)

module _ (kept : List ℕ) (v u : Value) (x y : ℕ) (lx : x < 2 ^ 32) (ly : y < 2 ^ 32) (h : Holds kept v x) (k : Holds kept u y) where
  abbrev a : low v ≤ x
  a = low_holds kept v x h

  abbrev b : x ≤ high v
  b = high_holds kept v x lx h

  abbrev c : low u ≤ y
  c = low_holds kept u y k

  abbrev d : y ≤ high u
  d = high_holds kept u y ly k

  less : x < y → BothHold kept x y (when_less v u)
  less l =
      let a' = a in
      let b' = b in
      let c' = c in
      let d' = d in
      taken_if kept x y (nat_lt (low v) (high u)) _ (lt-ltb (low v) (high u) (omega arith)) (
        clipped_holds kept v x (low v) (min (high v) (high u - 1)) h a (omega arith),
        clipped_holds kept u y (max (low u) (low v + 1)) (high u) k (omega arith) d,
      )

  not_less : y ≤ x → BothHold kept x y (when_not_less v u)
  not_less l =
      let a' = a in
      let b' = b in
      let c' = c in
      let d' = d in
      taken_if kept x y (nat_le (low u) (high v)) _ (le-leb (low u) (high v) (omega arith)) (
        clipped_holds kept v x (max (low v) (low u)) (high v) h (omega arith) b,
        clipped_holds kept u y (low u) (min (high u) (high v)) k c (omega arith),
      )

  equal : x ≡ y → BothHold kept x y (when_equal v u)
  equal e =
      let a' = a in
      let b' = b in
      let c' = c in
      let d' = d in
      taken_if kept x y (nat_le (max (low v) (low u)) (min (high v) (high u))) _ (le-leb (max (low v) (low u)) (min (high v) (high u)) (omega arith)) (
        clipped_holds kept v x (max (low v) (low u)) (min (high v) (high u)) h (omega arith) (omega arith),
        clipped_holds kept u y (max (low v) (low u)) (min (high v) (high u)) k (omega arith) (omega arith),
      )

above_low : (l c x : ℕ) → l ≡ c → l ≤ x → (x ≡ c → ⊥) → min (c + 1) (2 ^ 32 - 1) ≤ x
above_low l c x e m n = omega arith

below_high : (g c x : ℕ) → g ≡ c → x ≤ g → (x ≡ c → ⊥) → x ≤ c - 1
below_high g c x e m n = omega arith

trimmed_holds : (kept : List ℕ) (v u : Value) (x y : ℕ) → x < 2 ^ 32 → Holds kept v x → Holds kept u y → (x ≡ y → ⊥) → Holds kept (trimmed v u) x
trimmed_holds kept v (Const c) x y l h k n =
    let other : x ≡ c → ⊥ = λ e. n (e ∙ sym k) in
    cond_both (low v == c) (clipped v (min (c + 1) (2 ^ 32 - 1)) (high v)) (cond (high v == c) (clipped v (low v) (c - 1)) v) (λ w. Holds kept w x)
    (λ e. clipped_holds kept v x (min (c + 1) (2 ^ 32 - 1)) (high v) h (above_low (low v) c x (eqb-true (low v) c e) (low_holds kept v x h) other) (high_holds kept v x l h))
    (λ e. cond_both (high v == c) (clipped v (low v) (c - 1)) v (λ w. Holds kept w x)
    (λ f. clipped_holds kept v x (low v) (c - 1) h (low_holds kept v x h) (below_high (high v) c x (eqb-true (high v) c f) (high_holds kept v x l h) other))
    (λ f. h))
trimmed_holds kept v (Entry r) x y l h k n = h
trimmed_holds kept v (Stack r) x y l h k n = h
trimmed_holds kept v (Range a b) x y l h k n = h
trimmed_holds kept v Unknown x y l h k n = h

module _ (kept : List ℕ) (v u : Value) (x y : ℕ) (lx : x < 2 ^ 32) (ly : y < 2 ^ 32) (h : Holds kept v x) (k : Holds kept u y) where
  other : (x ≡ y → ⊥) → BothHold kept x y (when_other v u)
  other n = (trimmed_holds kept v u x y lx h k n, trimmed_holds kept u v y x ly k h (λ e. n (sym e)))

  by_kind_holds : (op : BranchOp) (taken : Bool) → branch_taken op x y ≡ taken → BothHold kept x y (by_kind op taken v u)
  by_kind_holds Beq true e = equal kept v u x y lx ly h k (eqb-true x y e)
  by_kind_holds Beq false e = other (eqb-false x y e)
  by_kind_holds Bne true e = other (eqb-false x y (not-true (x == y) e))
  by_kind_holds Bne false e = equal kept v u x y lx ly h k (eqb-true x y (not-false (x == y) e))
  by_kind_holds Bltu true e = less kept v u x y lx ly h k (ltb-true x y e)
  by_kind_holds Bltu false e = not_less kept v u x y lx ly h k (ltb-false x y e)
  by_kind_holds Bgeu true e = not_less kept v u x y lx ly h k (ltb-false x y (not-true (nat_lt x y) e))
  by_kind_holds Bgeu false e = less kept v u x y lx ly h k (ltb-true x y (not-false (nat_lt x y) e))
  by_kind_holds Blt true e = (h, k)
  by_kind_holds Blt false e = (h, k)
  by_kind_holds Bge true e = (h, k)
  by_kind_holds Bge false e = (h, k)

is_that : (taken b : Bool) → b ≡ taken → is_so taken b ≡ true
is_that true true e = refl
is_that true false e = absurd (false≢true e)
is_that false true e = absurd (true≢false e)
is_that false false e = refl

-- the side that a branch takes
pub side_holds : (kept : List ℕ) (op : BranchOp) (taken : Bool) (v u : Value) (x y : ℕ) → x < 2 ^ 32 → y < 2 ^ 32 → Holds kept v x → Holds kept u y → branch_taken op x y ≡ taken → BothHold kept x y (side op taken v u)
side_holds kept op taken (Const c) (Const d) x y lx ly h k e =
    taken_if kept x y (is_so taken (branch_taken op c d)) (Some (Const c, Const d)) (is_that taken (branch_taken op c d) (ap (λ i. branch_taken op i d) (sym h) ∙ ap (λ i. branch_taken op x i) (sym k) ∙ e)) (h, k)
side_holds kept op taken (Const c) (Entry r) x y lx ly h k e = by_kind_holds kept (Const c) (Entry r) x y lx ly h k op taken e
side_holds kept op taken (Const c) (Stack r) x y lx ly h k e = by_kind_holds kept (Const c) (Stack r) x y lx ly h k op taken e
side_holds kept op taken (Const c) (Range l g) x y lx ly h k e = by_kind_holds kept (Const c) (Range l g) x y lx ly h k op taken e
side_holds kept op taken (Const c) Unknown x y lx ly h k e = by_kind_holds kept (Const c) Unknown x y lx ly h k op taken e
side_holds kept op taken (Entry r) u x y lx ly h k e = by_kind_holds kept (Entry r) u x y lx ly h k op taken e
side_holds kept op taken (Stack r) u x y lx ly h k e = by_kind_holds kept (Stack r) u x y lx ly h k op taken e
side_holds kept op taken (Range l g) u x y lx ly h k e = by_kind_holds kept (Range l g) u x y lx ly h k op taken e
side_holds kept op taken Unknown u x y lx ly h k e = by_kind_holds kept Unknown u x y lx ly h k op taken e
