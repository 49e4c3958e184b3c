-- A walk that ends with Yes has looked at each address that is reached.
use Rattle.std.proofs.Common.{◌≡◌, ℕ, zero, suc, ◌≤◌, max, ◌⊎◌, inl, inr, ⊎_elim, cond, List, [], ◌∷◌, refl, sym, ap, ◌∙◌, subst, arith}
use Rattle.std.specs.Prelude.{◌==◌, nat_lt}
use Rattle.std.proofs.lemmas.Bool.{cond_both, eqb-true}
use Rattle.chain_flow.specs.Flow.{Flow, joined, value_of}
use Rattle.chain_flow.specs.Rules.{Looked, Refused, Passed, looked}
use Rattle.chain_flow.specs.Walk.{Reached, arrived, all_arrived, depth_of, walk_on, walk}
use Rattle.chain_flow.specs.declared.region.Region.{Region}
use Rattle.chain_flow.specs.declared.verdict.Verdict.TheVariants.{Yes}

-- what is said of a flow state is said of every join with it
pub record Weakens (P : Flow → Type 0) : Type 0 where
  pub left : (f g : Flow) → P f → P (joined f g)
  pub right : (f g : Flow) → P g → P (joined f g)

-- some entry of the list is of this address, and it is said of its flow state
abbrev pub Has : (Flow → Type 0) → ℕ → List Reached → Type 0
Has P at [] = ⊥
Has P at (p ∷ ps) = ((p.at ≡ at) × P p.flow) ⊎ Has P at ps

pub arrived_new : (P : Flow → Type 0) (at : ℕ) (f : Flow) (ps : List Reached) → Weakens P → P f → Has P at (arrived at f ps)
unfolding arrived
arrived_new P at f [] w h = inl (refl, h)
arrived_new P at f (p ∷ ps) w h =
    cond_both (p.at == at) (record { at = at; flow = joined p.flow f } ∷ ps) (cond (nat_lt at p.at) (record { at = at; flow = f } ∷ (p ∷ ps)) (p ∷ arrived at f ps)) (λ qs. Has P at qs)
    (λ e. inl (refl, w.right p.flow f h))
    (λ e. cond_both (nat_lt at p.at) (record { at = at; flow = f } ∷ (p ∷ ps)) (p ∷ arrived at f ps) (λ qs. Has P at qs) (λ d. inl (refl, h)) (λ d. inr (arrived_new P at f ps w h)))

pub arrived_keeps : (P : Flow → Type 0) (c at : ℕ) (f : Flow) (ps : List Reached) → Weakens P → Has P c ps → Has P c (arrived at f ps)
unfolding arrived
arrived_keeps P c at f [] w h = absurd h
arrived_keeps P c at f (p ∷ ps) w h =
    cond_both (p.at == at) (record { at = at; flow = joined p.flow f } ∷ ps) (cond (nat_lt at p.at) (record { at = at; flow = f } ∷ (p ∷ ps)) (p ∷ arrived at f ps)) (λ qs. Has P c qs)
    (λ e. ⊎_elim (λ (here : (p.at ≡ c) × P p.flow). inl (sym (eqb-true p.at at e) ∙ here.0, w.left p.flow f here.1)) (λ (there : Has P c ps). inr there) h)
    (λ e. cond_both (nat_lt at p.at) (record { at = at; flow = f } ∷ (p ∷ ps)) (p ∷ arrived at f ps) (λ qs. Has P c qs)
    (λ d. inr h)
    (λ d. ⊎_elim (λ (here : (p.at ≡ c) × P p.flow). inl here) (λ (there : Has P c ps). inr (arrived_keeps P c at f ps w there)) h))

-- an address is one of a list
abbrev pub IsOf : ℕ → List ℕ → Type 0
IsOf at [] = ⊥
IsOf at (t ∷ ts) = (at ≡ t) ⊎ IsOf at ts

pub all_keep : (P : Flow → Type 0) (c : ℕ) (ts : List ℕ) (f : Flow) (ps : List Reached) → Weakens P → Has P c ps → Has P c (all_arrived ts f ps)
unfolding all_arrived
all_keep P c [] f ps w h = h
all_keep P c (t ∷ ts) f ps w h = all_keep P c ts f (arrived t f ps) w (arrived_keeps P c t f ps w h)

pub all_new : (P : Flow → Type 0) (c : ℕ) (ts : List ℕ) (f : Flow) (ps : List Reached) → Weakens P → P f → IsOf c ts → Has P c (all_arrived ts f ps)
unfolding all_arrived
all_new P c [] f ps w h i = absurd i
all_new P c (t ∷ ts) f ps w h i =
    ⊎_elim
    (λ (e : c ≡ t). all_keep P c ts f (arrived t f ps) w (subst (λ a. Has P a (arrived t f ps)) (sym e) (arrived_new P t f ps w h)))
    (λ (j : IsOf c ts). all_new P c ts f (arrived t f ps) w h j)
    i

-- an address that is reached was looked at and passed, and the walk went on from there
pub record Continues (code : List ℕ) (region : Region) (uses : ℕ) (P : Flow → Type 0) (at : ℕ) : Type 0 where
  pub flow : Flow
  pub after : Flow
  pub targets : List ℕ
  pub says : P flow
  pub passes : looked code region at flow ≡ Passed after targets
  pub left : ℕ
  pub rest : List Reached
  pub so_far : ℕ
  pub goes_on : walk code region left (all_arrived targets after rest) (max so_far (depth_of (value_of after.values 2))) ≡ Yes uses

module _ (code : List ℕ) (region : Region) (uses : ℕ) (P : Flow → Type 0) (at : ℕ) (w : Weakens P) where
  continues_by : (n : ℕ) (p : Reached) (ps : List Reached) (u : ℕ) (l : Looked)
      → ((qs : List Reached) (v : ℕ) → walk code region n qs v ≡ Yes uses → Has P at qs → Continues code region uses P at)
      → looked code region p.at p.flow ≡ l → walk_on (λ qs v. walk code region n qs v) p.at ps u l ≡ Yes uses → ((p.at ≡ at) × P p.flow) ⊎ Has P at ps → Continues code region uses P at
  continues_by n p ps u (Refused why) next e y h = absurd cc
  continues_by n p ps u (Passed f ts) next e y h =
      ⊎_elim
      (λ (here : (p.at ≡ at) × P p.flow). record {
        flow = p.flow;
        after = f;
        targets = ts;
        says = here.1;
        passes = ap (λ a. looked code region a p.flow) (sym here.0) ∙ e;
        left = n;
        rest = ps;
        so_far = u;
        goes_on = y;
      })
      (λ (there : Has P at ps). next (all_arrived ts f ps) (max u (depth_of (value_of f.values 2))) y (all_keep P at ts f ps w there))
      h

  pub continues : (n : ℕ) (ps : List Reached) (u : ℕ) → walk code region n ps u ≡ Yes uses → Has P at ps → Continues code region uses P at
  unfolding walk
  continues zero [] u y h = absurd h
  continues zero (p ∷ ps) u y h = absurd cc
  continues (suc n) [] u y h = absurd h
  continues (suc n) (p ∷ ps) u y h = continues_by n p ps u (looked code region p.at p.flow) (λ qs v yes has. continues n qs v yes has) refl y h

-- the uses never fall
uses_by : (code : List ℕ) (region : Region) (uses n : ℕ) (at : ℕ) (ps : List Reached) (u : ℕ) (l : Looked)
    → ((qs : List Reached) (v : ℕ) → walk code region n qs v ≡ Yes uses → v ≤ uses)
    → walk_on (λ qs v. walk code region n qs v) at ps u l ≡ Yes uses → u ≤ uses
uses_by code region uses n at ps u (Refused why) next y = absurd cc
uses_by code region uses n at ps u (Passed f ts) next y = let i = next (all_arrived ts f ps) (max u (depth_of (value_of f.values 2))) y in omega arith

pub uses_grow : (code : List ℕ) (region : Region) (uses : ℕ) (n : ℕ) (ps : List Reached) (u : ℕ) → walk code region n ps u ≡ Yes uses → u ≤ uses
unfolding walk
uses_grow code region uses zero [] u y = let e : u ≡ uses = cc in omega arith
uses_grow code region uses zero (p ∷ ps) u y = absurd cc
uses_grow code region uses (suc n) [] u y = let e : u ≡ uses = cc in omega arith
uses_grow code region uses (suc n) (p ∷ ps) u y = uses_by code region uses n p.at ps u (looked code region p.at p.flow) (λ qs v yes. uses_grow code region uses n qs v yes) y
