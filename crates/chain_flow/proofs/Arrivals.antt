-- An arrival, place by place.
use Rattle.std.proofs.Common.{◌≡◌, ℕ, suc, ◌+◌, ◌<◌, ◌≤◌, Bool, true, false, cond, List, [], ◌∷◌, ◌++◌, length, take, drop, get_or, set, refl, sym, ap, ap₂, ◌∙◌, arith, append_assoc}
use Rattle.std.specs.Prelude.{◌==◌, nat_lt}
use Rattle.std.proofs.lemmas.List.{take_more, drop_more, take_all, drop_all, set_split, get_or_default}
use Rattle.std.proofs.lemmas.Bool.{eq-eqb, ne_eqb, le-ltb, lt-ltb}
use Rattle.chain_flow.specs.Flow.{Flow, joined}
use Rattle.chain_flow.specs.Walk.{Reached, arrived}

-- the first i were passed
abbrev pub arrived_past : ℕ → Flow → List Reached → ℕ → List Reached
arrived_past at f ps i = take i ps ++ arrived at f (drop i ps)

passed_by : (a b : Bool) (at : ℕ) (f : Flow) (p : Reached) (ps : List Reached) → a ≡ false → b ≡ false
    → cond a (record { at = at; flow = joined p.flow f } ∷ ps) (cond b (record { at = at; flow = f } ∷ (p ∷ ps)) (p ∷ arrived at f ps)) ≡ p ∷ arrived at f ps
passed_by true b at f p ps e h = absurd cc
passed_by false true at f p ps e h = absurd cc
passed_by false false at f p ps e h = refl

one_passed : (at : ℕ) (f : Flow) (p : Reached) (ps : List Reached) → (p.at == at) ≡ false → nat_lt at p.at ≡ false → arrived at f (p ∷ ps) ≡ p ∷ arrived at f ps
unfolding arrived
one_passed at f p ps e h = passed_by (p.at == at) (nat_lt at p.at) at f p ps e h

pub arrived_more : (at : ℕ) (f : Flow) (ps : List Reached) (i : ℕ) (d : Reached) → i < length ps → ((get_or ps i d).at == at) ≡ false → nat_lt at (get_or ps i d).at ≡ false → arrived_past at f ps (i + 1) ≡ arrived_past at f ps i
arrived_more at f ps i d l e h =
    ap (λ (xs : List Reached). xs ++ arrived at f (drop (i + 1) ps)) (take_more ps i d l)
    ∙ append_assoc (take i ps) (get_or ps i d ∷ []) (arrived at f (drop (i + 1) ps))
    ∙ ap (λ (xs : List Reached). take i ps ++ xs) (sym (ap (λ (xs : List Reached). arrived at f xs) (drop_more ps i d l) ∙ one_passed at f (get_or ps i d) (drop (i + 1) ps) e h))

same_by : (a : Bool) (at : ℕ) (f : Flow) (p : Reached) (ps other : List Reached) → a ≡ true → cond a (record { at = at; flow = joined p.flow f } ∷ ps) other ≡ record { at = at; flow = joined p.flow f } ∷ ps
same_by true at f p ps other e = refl
same_by false at f p ps other e = absurd cc

one_joined : (at : ℕ) (f : Flow) (p : Reached) (ps : List Reached) → (p.at == at) ≡ true → arrived at f (p ∷ ps) ≡ record { at = at; flow = joined p.flow f } ∷ ps
unfolding arrived
one_joined at f p ps e = same_by (p.at == at) at f p ps _ e

next : (i : ℕ) → suc i ≡ i + 1
next i = omega arith

pub arrived_here : (at : ℕ) (f : Flow) (ps : List Reached) (i : ℕ) (d : Reached) → i < length ps → ((get_or ps i d).at == at) ≡ true
    → set ps i (record { at = at; flow = joined (get_or ps i d).flow f }) ≡ arrived_past at f ps i
arrived_here at f ps i d l e =
    set_split ps i (record { at = at; flow = joined (get_or ps i d).flow f }) l
    ∙ ap (λ (n : ℕ). take i ps ++ record { at = at; flow = joined (get_or ps i d).flow f } ∷ drop n ps) (next i)
    ∙ ap (λ (xs : List Reached). take i ps ++ xs) (sym (ap (λ (xs : List Reached). arrived at f xs) (drop_more ps i d l) ∙ one_joined at f (get_or ps i d) (drop (i + 1) ps) e))

before_by : (a b : Bool) (at : ℕ) (f : Flow) (p : Reached) (ps other : List Reached) → a ≡ false → b ≡ true
    → cond a (record { at = at; flow = joined p.flow f } ∷ ps) (cond b (record { at = at; flow = f } ∷ (p ∷ ps)) other) ≡ record { at = at; flow = f } ∷ (p ∷ ps)
before_by true b at f p ps other e h = absurd cc
before_by false false at f p ps other e h = absurd cc
before_by false true at f p ps other e h = refl

one_before : (at : ℕ) (f : Flow) (p : Reached) (ps : List Reached) → (p.at == at) ≡ false → nat_lt at p.at ≡ true → arrived at f (p ∷ ps) ≡ record { at = at; flow = f } ∷ (p ∷ ps)
unfolding arrived
one_before at f p ps e h = before_by (p.at == at) (nat_lt at p.at) at f p ps _ e h

pub arrived_before : (at : ℕ) (f : Flow) (ps : List Reached) (i : ℕ) (d : Reached) → i < length ps → ((get_or ps i d).at == at) ≡ false → nat_lt at (get_or ps i d).at ≡ true
    → take i ps ++ record { at = at; flow = f } ∷ drop i ps ≡ arrived_past at f ps i
arrived_before at f ps i d l e h =
    ap (λ (xs : List Reached). take i ps ++ record { at = at; flow = f } ∷ xs) (drop_more ps i d l)
    ∙ ap (λ (xs : List Reached). take i ps ++ xs) (sym (ap (λ (xs : List Reached). arrived at f xs) (drop_more ps i d l) ∙ one_before at f (get_or ps i d) (drop (i + 1) ps) e h))

at_end : (at : ℕ) (f : Flow) → arrived at f [] ≡ record { at = at; flow = f } ∷ []
unfolding arrived
at_end at f = refl

pub arrived_last : (at : ℕ) (f : Flow) (ps : List Reached) (i : ℕ) → length ps ≤ i → ps ++ record { at = at; flow = f } ∷ [] ≡ arrived_past at f ps i
arrived_last at f ps i l = sym (ap₂ (λ (xs ys : List Reached). xs ++ arrived at f ys) (take_all i ps l) (drop_all i ps l) ∙ ap (λ (xs : List Reached). ps ++ xs) (at_end at f))

-- the same, as the code has it: what was read at the place, and its address
pub code_more : (at : ℕ) (f : Flow) (ps : List Reached) (i : ℕ) (p q : Reached) (a b : ℕ) → i < length ps → p ≡ get_or ps i p → a ≡ p.at → (a ≡ at → ⊥) → q ≡ get_or ps i q → b ≡ q.at → b ≤ at → arrived_past at f ps (i + 1) ≡ arrived_past at f ps i
code_more at f ps i p q a b l e ea ne h eb le =
    let one : p ≡ get_or ps i q = e ∙ get_or_default ps i p q l in
    let here : a ≡ (get_or ps i q).at = ea ∙ ap (λ (x : Reached). x.at) one in
    let there : b ≡ (get_or ps i q).at = eb ∙ ap (λ (x : Reached). x.at) h in
    arrived_more at f ps i q l (ne_eqb (get_or ps i q).at at (λ z. ne (here ∙ z))) (le-ltb at (get_or ps i q).at (omega arith))

pub code_before : (at : ℕ) (f : Flow) (ps : List Reached) (i : ℕ) (p q : Reached) (a b : ℕ) → i < length ps → p ≡ get_or ps i p → a ≡ p.at → (a ≡ at → ⊥) → q ≡ get_or ps i q → b ≡ q.at → at < b → take i ps ++ record { at = at; flow = f } ∷ drop i ps ≡ arrived_past at f ps i
code_before at f ps i p q a b l e ea ne h eb lt =
    let one : p ≡ get_or ps i q = e ∙ get_or_default ps i p q l in
    let here : a ≡ (get_or ps i q).at = ea ∙ ap (λ (x : Reached). x.at) one in
    let there : b ≡ (get_or ps i q).at = eb ∙ ap (λ (x : Reached). x.at) h in
    arrived_before at f ps i q l (ne_eqb (get_or ps i q).at at (λ z. ne (here ∙ z))) (lt-ltb at (get_or ps i q).at (omega arith))

pub code_here : (at : ℕ) (f : Flow) (ps : List Reached) (i : ℕ) (p q new : Reached) (a : ℕ) → i < length ps → p ≡ get_or ps i p → a ≡ p.at → a ≡ at → q ≡ get_or ps i q → new ≡ record q { flow = joined q.flow f } → set ps i new ≡ arrived_past at f ps i
code_here at f ps i p q new a l e ea is h n =
    let one : p ≡ get_or ps i q = e ∙ get_or_default ps i p q l in
    let here : (get_or ps i q).at ≡ at = ap (λ (x : Reached). x.at) (sym one) ∙ sym ea ∙ is in
    let made : new ≡ record { at = at; flow = joined (get_or ps i q).flow f } =
    n ∙ ap (λ (x : Reached). record x { flow = joined x.flow f }) h ∙ ap (λ (k : ℕ). record { at = k; flow = joined (get_or ps i q).flow f }) here in
    ap (λ (x : Reached). set ps i x) made ∙ arrived_here at f ps i q l (eq-eqb (get_or ps i q).at at here)
