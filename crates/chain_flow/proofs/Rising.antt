-- Lists of what is reached, in rising order, and arrivals in them.
use Rattle.std.proofs.Common.{◌≡◌, ℕ, suc, ◌<◌, ◌≤◌, ⊎_elim, cond, List, [], ◌∷◌, Option, Some, None, refl, sym, ap, ◌∙◌, subst, arith}
use Rattle.std.specs.Prelude.{◌==◌, nat_lt}
use Rattle.std.proofs.lemmas.Bool.{cases_eq, cases_lt, eq-eqb, ne_eqb, lt-ltb, le-ltb}
use Rattle.chain_flow.specs.Flow.{Flow, joined}
use Rattle.chain_flow.specs.Walk.{Reached, arrived, all_arrived}
use Rattle.chain_flow.specs.Survey.{joined_onto, with_arrival, with_arrivals}

-- in rising order from an address on
abbrev pub Rising : ℕ → List Reached → Type 0
Rising from [] = Unit {0}
Rising from (p ∷ ps) = (from ≤ p.at) × Rising (suc p.at) ps

abbrev pub AllFrom : ℕ → List ℕ → Type 0
AllFrom from [] = Unit {0}
AllFrom from (t ∷ ts) = (from ≤ t) × AllFrom from ts

-- what the list has at an address
pub in_list : ℕ → List Reached → Option Flow
in_list a [] = None
in_list a (p ∷ ps) = cond (p.at == a) (Some p.flow) (in_list a ps)

pub nowhere : (a : ℕ) → in_list a [] ≡ None
unfolding in_list
nowhere a = refl

pub only_one : (a : ℕ) (p : Reached) → in_list a (p ∷ []) ≡ cond (p.at == a) (Some p.flow) None
unfolding in_list
only_one a p = refl

pub in_here : (a : ℕ) (p : Reached) (ps : List Reached) → p.at ≡ a → in_list a (p ∷ ps) ≡ Some p.flow
unfolding in_list
in_here a p ps e = ap (λ b. cond b (Some p.flow) (in_list a ps)) (eq-eqb p.at a e)

pub in_past : (a : ℕ) (p : Reached) (ps : List Reached) → (p.at ≡ a → ⊥) → in_list a (p ∷ ps) ≡ in_list a ps
unfolding in_list
in_past a p ps n = ap (λ b. cond b (Some p.flow) (in_list a ps)) (ne_eqb p.at a n)

one_here : (a t : ℕ) (f : Flow) (o : Option Flow) → t ≡ a → with_arrival a t f o ≡ Some (joined_onto o f)
one_here a t f o e = ap (λ b. cond b (Some (joined_onto o f)) o) (eq-eqb t a e)

one_past : (a t : ℕ) (f : Flow) (o : Option Flow) → (t ≡ a → ⊥) → with_arrival a t f o ≡ o
one_past a t f o n = ap (λ b. cond b (Some (joined_onto o f)) o) (ne_eqb t a n)

-- nothing stands below the first
pub below_none : (from a : ℕ) (ps : List Reached) → Rising from ps → a < from → in_list a ps ≡ None
below_none from a [] r l = nowhere a
below_none from a (p ∷ ps) r l =
    let first = r.0 in
    in_past a p ps (λ e. omega arith) ∙ below_none (suc p.at) a ps r.1 (omega arith)

-- ---- one arrival
module _ (t : ℕ) (f : Flow) where
  same : (p : Reached) (ps : List Reached) → p.at ≡ t → arrived t f (p ∷ ps) ≡ record { at = t; flow = joined p.flow f } ∷ ps
  unfolding arrived
  same p ps e = ap (λ b. cond b (record { at = t; flow = joined p.flow f } ∷ ps) (cond (nat_lt t p.at) (record { at = t; flow = f } ∷ (p ∷ ps)) (p ∷ arrived t f ps))) (eq-eqb p.at t e)

  before : (p : Reached) (ps : List Reached) → t < p.at → arrived t f (p ∷ ps) ≡ record { at = t; flow = f } ∷ (p ∷ ps)
  unfolding arrived
  before p ps l =
      ap (λ b. cond b (record { at = t; flow = joined p.flow f } ∷ ps) (cond (nat_lt t p.at) (record { at = t; flow = f } ∷ (p ∷ ps)) (p ∷ arrived t f ps))) (ne_eqb p.at t (λ e. omega arith))
      ∙ ap (λ b. cond b (record { at = t; flow = f } ∷ (p ∷ ps)) (p ∷ arrived t f ps)) (lt-ltb t p.at l)

  after : (p : Reached) (ps : List Reached) → p.at < t → arrived t f (p ∷ ps) ≡ p ∷ arrived t f ps
  unfolding arrived
  after p ps l =
      ap (λ b. cond b (record { at = t; flow = joined p.flow f } ∷ ps) (cond (nat_lt t p.at) (record { at = t; flow = f } ∷ (p ∷ ps)) (p ∷ arrived t f ps))) (ne_eqb p.at t (λ e. omega arith))
      ∙ ap (λ b. cond b (record { at = t; flow = f } ∷ (p ∷ ps)) (p ∷ arrived t f ps)) (le-ltb t p.at (omega arith))

  alone : arrived t f [] ≡ record { at = t; flow = f } ∷ []
  unfolding arrived
  alone = refl

  pub arrived_rising : (from : ℕ) (ps : List Reached) → Rising from ps → from ≤ t → Rising from (arrived t f ps)
  arrived_rising from [] r l = subst (Rising from) (sym alone) (l, tt)
  arrived_rising from (p ∷ ps) r l =
      ⊎_elim
      (λ (e : p.at ≡ t). subst (Rising from) (sym (same p ps e)) (l, subst (λ x. Rising (suc x) ps) e r.1))
      (λ (n : p.at ≡ t → ⊥). ⊎_elim
      (λ (b : t < p.at). subst (Rising from) (sym (before p ps b)) (l, (b, r.1)))
      (λ (b : p.at ≤ t). subst (Rising from) (sym (after p ps (omega arith))) (r.0, arrived_rising (suc p.at) ps r.1 (omega arith)))
      (cases_lt t p.at))
      (cases_eq p.at t)

  pub arrived_in : (from a : ℕ) (ps : List Reached) → Rising from ps → in_list a (arrived t f ps) ≡ with_arrival a t f (in_list a ps)
  arrived_in from a [] r = ap (in_list a) alone ∙ (only_one a (record { at = t; flow = f }) ∙ sym (ap (with_arrival a t f) (nowhere a)))
  arrived_in from a (p ∷ ps) r =
      ⊎_elim
      (λ (e : p.at ≡ t). ap (in_list a) (same p ps e) ∙ at_same e)
      (λ (n : p.at ≡ t → ⊥). ⊎_elim
      (λ (b : t < p.at). ap (in_list a) (before p ps b) ∙ at_before b)
      (λ (b : p.at ≤ t). ap (in_list a) (after p ps (omega arith)) ∙ at_after (omega arith) (arrived_in (suc p.at) a ps r.1))
      (cases_lt t p.at))
      (cases_eq p.at t)
    where
      at_same : p.at ≡ t → in_list a (record { at = t; flow = joined p.flow f } ∷ ps) ≡ with_arrival a t f (in_list a (p ∷ ps))
      at_same e =
          ⊎_elim
          (λ (q : t ≡ a). in_here a (record { at = t; flow = joined p.flow f }) ps q ∙ sym (one_here a t f (in_list a (p ∷ ps)) q ∙ ap (λ o. Some (joined_onto o f)) (in_here a p ps (e ∙ q))))
          (λ (q : t ≡ a → ⊥). in_past a (record { at = t; flow = joined p.flow f }) ps q ∙ sym (one_past a t f (in_list a (p ∷ ps)) q ∙ in_past a p ps (λ z. q (sym e ∙ z))))
          (cases_eq t a)

      at_before : t < p.at → in_list a (record { at = t; flow = f } ∷ (p ∷ ps)) ≡ with_arrival a t f (in_list a (p ∷ ps))
      at_before b =
          ⊎_elim
          (λ (q : t ≡ a). in_here a (record { at = t; flow = f }) (p ∷ ps) q ∙ sym (one_here a t f (in_list a (p ∷ ps)) q ∙ ap (λ o. Some (joined_onto o f)) (below_none p.at a (p ∷ ps) (omega arith, r.1) (omega arith))))
          (λ (q : t ≡ a → ⊥). in_past a (record { at = t; flow = f }) (p ∷ ps) q ∙ sym (one_past a t f (in_list a (p ∷ ps)) q))
          (cases_eq t a)

      at_after : p.at < t → in_list a (arrived t f ps) ≡ with_arrival a t f (in_list a ps) → in_list a (p ∷ arrived t f ps) ≡ with_arrival a t f (in_list a (p ∷ ps))
      at_after b later =
          ⊎_elim
          (λ (q : p.at ≡ a). in_here a p (arrived t f ps) q ∙ sym (one_past a t f (in_list a (p ∷ ps)) (λ z. omega arith) ∙ in_here a p ps q))
          (λ (q : p.at ≡ a → ⊥). in_past a p (arrived t f ps) q ∙ (later ∙ ap (with_arrival a t f) (sym (in_past a p ps q))))
          (cases_eq p.at a)

-- ---- several
pub all_rising : (from : ℕ) (ts : List ℕ) (f : Flow) (ps : List Reached) → Rising from ps → AllFrom from ts → Rising from (all_arrived ts f ps)
unfolding all_arrived
all_rising from [] f ps r l = r
all_rising from (t ∷ ts) f ps r l = all_rising from ts f (arrived t f ps) (arrived_rising t f from ps r l.0) l.1

pub all_in : (from a : ℕ) (ts : List ℕ) (f : Flow) (ps : List Reached) → Rising from ps → AllFrom from ts → in_list a (all_arrived ts f ps) ≡ with_arrivals a ts f (in_list a ps)
unfolding all_arrived with_arrivals
all_in from a [] f ps r l = refl
all_in from a (t ∷ ts) f ps r l = all_in from a ts f (arrived t f ps) (arrived_rising t f from ps r l.0) l.1 ∙ ap (with_arrivals a ts f) (arrived_in t f from a ps r)

-- none arrives below
pub no_arrival : (from a : ℕ) (ts : List ℕ) (f : Flow) (o : Option Flow) → AllFrom from ts → a < from → with_arrivals a ts f o ≡ o
unfolding with_arrivals
no_arrival from a [] f o l h = refl
no_arrival from a (t ∷ ts) f o l h =
    let first = l.0 in
    no_arrival from a ts f (with_arrival a t f o) l.1 h ∙ one_past a t f o (λ e. omega arith)
