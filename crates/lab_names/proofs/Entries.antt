-- A map from addresses to names is a table.
use Rattle.std.proofs.Common.{◌≡◌, ℕ, ◌-◌, List, [], ◌∷◌, ◌++◌, cond, Bool, true, false, Option, Some, None, option_map, refl, sym, ap, ◌∙◌, arith, map}
use Rattle.std.specs.Prelude.{filter, nat_lt, not, ◌==◌, ◌&&◌}
use Rattle.std.specs.Ordering.{nat_cmp, is_eq, is_lt, match_ordering}
use Rattle.std.specs.declared.cmp.Ordering.TheVariants.{Less, Equal, Greater}
use Rattle.std.specs.BTreeMap.{insert_entry, is_at}
use Rattle.std.specs.Map.{lookup}
use Rattle.std.specs.declared.vec.Vec.{Vec}
use Rattle.std.proofs.lemmas.Bool.Decides.{nat_tests}
use Rattle.std.proofs.lemmas.Bool.{eqb-true}
use Rattle.lab_names.specs.Name.{NameView}
use Rattle.lab_names.specs.Table.{name_of_entry, with_name, name_at, beside, last_of, at_or_below}

-- ---- tests

below_by : (less equal : Bool) → is_lt (cond less Less (cond equal Equal Greater)) ≡ less
below_by true equal = refl
below_by false true = refl
below_by false false = refl

same_test : (a b : ℕ) → is_eq (nat_cmp a b) ≡ (a == b)
same_test a b = grind (arith, nat_tests)

-- ---- a name is put in

put_by : {A : Type 0} (less equal : Bool) (at : ℕ) (name : Vec ℕ A) (e : ℕ × Vec ℕ A) (es rest : List (ℕ × Vec ℕ A)) (ns : List NameView) → (equal ≡ true → at ≡ e.0) → map name_of_entry rest ≡ ns
    → map name_of_entry (match_ordering (cond less Less (cond equal Equal Greater)) ((at, name) ∷ e ∷ es) ((e.0, name) ∷ es) (e ∷ rest))
    ≡ cond less (record { address = at; name = name.items } ∷ map name_of_entry (e ∷ es)) (cond equal (record { address = at; name = name.items } ∷ map name_of_entry es) (name_of_entry e ∷ ns))
put_by true equal at name e es rest ns same h = refl
put_by false true at name e es rest ns same h = ap (λ (k : ℕ). record { address = k; name = name.items } ∷ map name_of_entry es) (sym (same refl))
put_by false false at name e es rest ns same h = ap (λ (l : List NameView). name_of_entry e ∷ l) h

pub put_entry : {A : Type 0} (es : List (ℕ × Vec ℕ A)) (at : ℕ) (name : Vec ℕ A) → map name_of_entry (insert_entry nat_cmp es at name) ≡ with_name (record { address = at; name = name.items }) (map name_of_entry es)
put_entry [] at name = refl
put_entry (e ∷ es) at name = put_by (nat_lt at e.0) (at == e.0) at name e es (insert_entry nat_cmp es at name) _ (λ h. eqb-true at e.0 h) (put_entry es at name)

-- ---- a name is looked up

found_by : {A : Type 0} (b c : Bool) (v : Vec ℕ A) (o : Option (Vec ℕ A)) (n : Option (List ℕ)) → b ≡ c → option_map (λ (w : Vec ℕ A). w.items) o ≡ n → option_map (λ (w : Vec ℕ A). w.items) (cond b (Some v) o) ≡ cond c (Some v.items) n
found_by true true v o n same h = refl
found_by false false v o n same h = h
found_by true false v o n same h = absurd cc
found_by false true v o n same h = absurd cc

pub look_up : {A : Type 0} (es : List (ℕ × Vec ℕ A)) (at : ℕ) → option_map (λ (v : Vec ℕ A). v.items) (lookup (is_at (nat_cmp at)) es) ≡ name_at at (map name_of_entry es)
look_up [] at = refl
look_up (e ∷ es) at = found_by (is_eq (nat_cmp at e.0)) (at == e.0) e.1 (lookup (is_at (nat_cmp at)) es) _ (same_test at e.0) (look_up es at)

-- ---- the names that aren't above an address

abbrev is_not_above : {A : Type 0} → ℕ → ℕ × Vec ℕ A → Bool
is_not_above at e = true && not (is_lt (nat_cmp at e.0))

kept_by : {A : Type 0} (b : Bool) (e : ℕ × Vec ℕ A) (es : List (ℕ × Vec ℕ A)) (ns : List NameView) → map name_of_entry es ≡ ns → map name_of_entry (cond b (e ∷ es) es) ≡ cond b (name_of_entry e ∷ ns) ns
kept_by true e es ns h = ap (λ (l : List NameView). name_of_entry e ∷ l) h
kept_by false e es ns h = h

names_kept : {A : Type 0} (at : ℕ) (es : List (ℕ × Vec ℕ A)) → map name_of_entry (filter (is_not_above at) es) ≡ filter (λ (n : NameView). not (nat_lt at n.address)) (map name_of_entry es)
names_kept at [] = refl
names_kept at (e ∷ es) = kept_by (is_not_above at e) e (filter (is_not_above at) es) _ (names_kept at es) ∙ ap (λ (b : Bool). cond (not b) (name_of_entry e ∷ filter (λ (n : NameView). not (nat_lt at n.address)) (map name_of_entry es)) (filter (λ (n : NameView). not (nat_lt at n.address)) (map name_of_entry es))) (below_by (nat_lt at e.0) (at == e.0))

last_is : {A : Type 0} (t : List (ℕ × Vec ℕ A)) (e : ℕ × Vec ℕ A) → last_of (map name_of_entry (t ++ e ∷ [])) ≡ Some (name_of_entry e)
last_is [] e = refl
last_is (f ∷ []) e = refl
last_is (f ∷ g ∷ t) e = last_is (g ∷ t) e

pub nearest_found : {A : Type 0} (at : ℕ) (es t : List (ℕ × Vec ℕ A)) (e : ℕ × Vec ℕ A) → filter (is_not_above at) es ≡ t ++ e ∷ [] → at_or_below at (map name_of_entry es) ≡ Some (e.1.items, at - e.0)
nearest_found {A = A} at es t e h = ap (λ (l : List NameView). beside at (last_of l)) (sym (names_kept at es)) ∙ ap (λ (l : List (ℕ × Vec ℕ A)). beside at (last_of (map name_of_entry l))) h ∙ ap (beside at) (last_is t e)

pub none_found : {A : Type 0} (at : ℕ) (es : List (ℕ × Vec ℕ A)) → filter (is_not_above at) es ≡ [] → at_or_below at (map name_of_entry es) ≡ None
none_found {A = A} at es h = ap (λ (l : List NameView). beside at (last_of l)) (sym (names_kept at es)) ∙ ap (λ (l : List (ℕ × Vec ℕ A)). beside at (last_of (map name_of_entry l))) h

pub same_put : (at : ℕ) (name name' : List ℕ) (ns ns' : List NameView) → name ≡ name' → ns ≡ ns' → with_name (record { address = at; name = name }) ns ≡ with_name (record { address = at; name = name' }) ns'
same_put at name name' ns ns' a b = rw (a, b) refl
