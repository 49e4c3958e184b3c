-- The table of names, in words of names as they are given.
use Rattle.std.proofs.Common.{◌≡◌, ℕ, suc, ◌-◌, ◌<◌, ◌≤◌, List, [], ◌∷◌, cond, Bool, true, false, Option, Some, None, refl, sym, ap, subst, ◌∙◌, arith}
use Rattle.std.specs.Prelude.{filter, nat_lt, not, ◌==◌}
use Rattle.std.proofs.lemmas.Bool.{eqb-true, eq-eqb, ltb-true, ltb-false, lt-ltb}
use Rattle.std.proofs.lemmas.Bool.Decides.{nat_tests}
use Rattle.lab_names.specs.Name.{NameView}
use Rattle.lab_names.specs.Table.{with_name, with_names, table_of, name_at, beside, last_of, at_or_below, or_else, last_given, IsNearest}

-- ---- the name that is given last counts

hidden : {X : Type 0} (b : Bool) (x y z : X) → cond b x z ≡ cond b x (cond b y z)
hidden true x y z = refl
hidden false x y z = refl

swapped : {X : Type 0} (b c : Bool) (x y z : X) → (b ≡ true → c ≡ true → ⊥) → cond c y (cond b x z) ≡ cond b x (cond c y z)
swapped true true x y z h = absurd (h refl refl)
swapped true false x y z h = refl
swapped false true x y z h = refl
swapped false false x y z h = refl

unequal : (b : Bool) → b ≡ true → b ≡ false → ⊥
unequal true p q = absurd cc
unequal false p q = absurd cc

put_by : (less equal : Bool) (at : ℕ) (n m : NameView) (ms put : List NameView) → (n.address == m.address) ≡ equal → name_at at put ≡ cond (at == n.address) (Some n.name) (name_at at ms)
    → name_at at (cond less (n ∷ m ∷ ms) (cond equal (n ∷ ms) (m ∷ put))) ≡ cond (at == n.address) (Some n.name) (name_at at (m ∷ ms))
put_by true equal at n m ms put is h = refl
put_by false true at n m ms put is h =
    hidden (at == n.address) (Some n.name) (Some m.name) (name_at at ms)
    ∙ ap (λ (k : ℕ). cond (at == n.address) (Some n.name) (cond (at == k) (Some m.name) (name_at at ms))) (eqb-true n.address m.address is)
put_by false false at n m ms put is h =
    ap (λ (o : Option (List ℕ)). cond (at == m.address) (Some m.name) o) h
    ∙ swapped (at == n.address) (at == m.address) (Some n.name) (Some m.name) (name_at at ms) (λ a b. let same : n.address ≡ m.address = sym (eqb-true at n.address a) ∙ eqb-true at m.address b in unequal _ (eq-eqb n.address m.address same) is)

put_at : (at : ℕ) (n : NameView) (t : List NameView) → name_at at (with_name n t) ≡ cond (at == n.address) (Some n.name) (name_at at t)
put_at at n [] = refl
put_at at n (m ∷ ms) = put_by (nat_lt n.address m.address) (n.address == m.address) at n m ms (with_name n ms) refl (put_at at n ms)

joined : (o : Option (List ℕ)) (b : Bool) (name : List ℕ) (rest : Option (List ℕ)) → or_else o (cond b (Some name) rest) ≡ or_else (or_else o (cond b (Some name) None)) rest
joined (Some t) b name rest = refl
joined None true name rest = refl
joined None false name rest = refl

given : (at : ℕ) (ns t : List NameView) → name_at at (with_names ns t) ≡ or_else (last_given ns at) (name_at at t)
given at [] t = refl
given at (n ∷ ns) t = given at ns (with_name n t) ∙ ap (or_else (last_given ns at)) (put_at at n t) ∙ joined (last_given ns at) (at == n.address) n.name (name_at at t)

or_none : (o : Option (List ℕ)) → or_else o None ≡ o
or_none (Some t) = refl
or_none None = refl

pub last_counts : (ns : List NameView) (at : ℕ) → name_at at (table_of ns) ≡ last_given ns at
last_counts ns at = given at ns [] ∙ or_none (last_given ns at)

-- ---- addresses rise

-- they rise from an address on
abbrev AreFrom : ℕ → List NameView → Type 0
AreFrom low [] = Unit {0}
AreFrom low (n ∷ ns) = (low ≤ n.address) × AreFrom (suc n.address) ns

from_by : (less equal : Bool) (low : ℕ) (n m : NameView) (ms put : List NameView) → nat_lt n.address m.address ≡ less → (n.address == m.address) ≡ equal → low ≤ n.address → AreFrom low (m ∷ ms)
    → (suc m.address ≤ n.address → AreFrom (suc m.address) put) → AreFrom low (cond less (n ∷ m ∷ ms) (cond equal (n ∷ ms) (m ∷ put)))
from_by true equal low n m ms put l e h t more = (h, (let lt : n.address < m.address = ltb-true _ _ l in omega arith, t.1))
from_by false true low n m ms put l e h t more = (h, subst (λ (k : ℕ). AreFrom (suc k) ms) (sym (eqb-true n.address m.address e)) t.1)
from_by false false low n m ms put l e h t more = (t.0, more (let lt : m.address < n.address = grind (arith, nat_tests) in omega arith))

from_put : (low : ℕ) (n : NameView) (t : List NameView) → low ≤ n.address → AreFrom low t → AreFrom low (with_name n t)
from_put low n [] h t = (h, tt)
from_put low n (m ∷ ms) h t = from_by (nat_lt n.address m.address) (n.address == m.address) low n m ms (with_name n ms) refl refl h t (λ le. from_put (suc m.address) n ms le t.1)

names_from : (ns t : List NameView) → AreFrom 0 t → AreFrom 0 (with_names ns t)
names_from [] t h = h
names_from (n ∷ ns) t h = names_from ns (with_name n t) (from_put 0 n t (omega arith) h)

-- ---- the nearest one

other : (a b : ℕ) → (a ≡ b → ⊥) → (a == b) ≡ false
other a b ne = grind (arith, nat_tests)

none_below : (low b : ℕ) (t : List NameView) → AreFrom low t → b < low → name_at b t ≡ None
none_below low b [] h lt = refl
none_below low b (n ∷ ns) h lt =
    let least = h.0 in
    let differs : (b == n.address) ≡ false = other b n.address (λ e. omega (arith, e, least, lt)) in
    rw differs (none_below (suc n.address) b ns h.1 (omega (arith, least, lt)))

abbrev kept : ℕ → List NameView → List NameView
kept at t = filter (λ (n : NameView). not (nat_lt at n.address)) t

none_kept : (low at : ℕ) (t : List NameView) → AreFrom low t → at < low → kept at t ≡ []
none_kept low at [] h lt = refl
none_kept low at (n ∷ ns) h lt =
    let least = h.0 in
    let above : nat_lt at n.address ≡ true = lt-ltb _ _ (omega (arith, least, lt)) in
    rw above (none_kept (suc n.address) at ns h.1 (omega (arith, least, lt)))

abbrev some : List ℕ → Option (List ℕ)
some name = Some name

none_some : (name : List ℕ) → None ≡ some name → ⊥
none_some name e = cc

abbrev named : List NameView → ℕ → Option (List ℕ)
named t b = name_at b t

past : (n : NameView) (ns : List NameView) (b : ℕ) → (b ≡ n.address → ⊥) → named (n ∷ ns) b ≡ named ns b
past n ns b ne = rw (other b n.address ne) refl

some_last : (m : NameView) (ms : List NameView) → (e : NameView) × (last_of (m ∷ ms) ≡ Some e)
some_last m [] = (m, refl)
some_last m (k ∷ ks) = some_last k ks

first_is_nearest : (at : ℕ) (n : NameView) (ns : List NameView) → n.address ≤ at → ((b : ℕ) → b ≤ at → named ns b ≡ None) → IsNearest (named (n ∷ ns)) at (Some (n.name, at - n.address))
first_is_nearest at n ns le none =
    let there : at - (at - n.address) ≡ n.address = omega arith in
    let same : (n.address == n.address) ≡ true = eq-eqb _ _ refl in
    (omega arith, rw there (rw same refl), λ b low high. past n ns b (λ e. omega (arith, e, low, there)) ∙ none b high)

at_or_past : (low x : ℕ) (ns : List NameView) (name : List ℕ) (b : Bool) → nat_lt low x ≡ b → AreFrom (suc low) ns → named ns x ≡ Some name → low < x
at_or_past low x ns name true is h found = ltb-true _ _ is
at_or_past low x ns name false is h found =
    let le : x ≤ low = ltb-false _ _ is in
    let none : named ns x ≡ None = none_below (suc low) x ns h (omega arith) in
    absurd (none_some name (sym none ∙ found))

later_is_nearest : (at : ℕ) (n e : NameView) (ns : List NameView) → AreFrom (suc n.address) ns → IsNearest (named ns) at (Some (e.name, at - e.address)) → IsNearest (named (n ∷ ns)) at (Some (e.name, at - e.address))
later_is_nearest at n e ns h near =
    let x = at - (at - e.address) in
    let above : n.address < x = at_or_past n.address x ns e.name (nat_lt n.address x) refl h near.1 in
    (near.0, past n ns x (λ s. omega (arith, s, above)) ∙ near.1, λ b low high. past n ns b (λ s. omega (arith, s, low, above)) ∙ near.2 b low high)

keeps : (at : ℕ) (n : NameView) (ns f : List NameView) → AreFrom (suc n.address) ns → n.address ≤ at → IsNearest (named ns) at (beside at (last_of f)) → IsNearest (named (n ∷ ns)) at (beside at (last_of (n ∷ f)))
keeps at n ns [] h le near = first_is_nearest at n ns le near
keeps at n ns (m ∷ ms) h le near =
    let last = some_last m ms in
    let lifted = later_is_nearest at n last.0 ns h (subst (λ (o : Option NameView). IsNearest (named ns) at (beside at o)) last.1 near) in
    subst (λ (o : Option NameView). IsNearest (named (n ∷ ns)) at (beside at o)) (sym last.1) lifted

near_by : (b : Bool) (low at : ℕ) (n : NameView) (ns : List NameView) → nat_lt at n.address ≡ b → AreFrom low (n ∷ ns) → IsNearest (named ns) at (at_or_below at ns)
    → IsNearest (named (n ∷ ns)) at (beside at (last_of (cond (not b) (n ∷ kept at ns) (kept at ns))))
near_by true low at n ns is h near =
    let lt : at < n.address = ltb-true _ _ is in
    let nothing : kept at ns ≡ [] = none_kept (suc n.address) at ns h.1 (omega arith) in
    rw nothing (λ b le. none_below n.address b (n ∷ ns) (omega arith, h.1) (omega (arith, le, lt)))
near_by false low at n ns is h near = keeps at n ns (kept at ns) h.1 (ltb-false _ _ is) near

near : (low at : ℕ) (t : List NameView) → AreFrom low t → IsNearest (named t) at (at_or_below at t)
near low at [] h = λ b le. refl
near low at (n ∷ ns) h = near_by (nat_lt at n.address) low at n ns refl h (near (suc n.address) at ns h.1)

same_nearest : (f g : ℕ → Option (List ℕ)) (at : ℕ) (o : Option (List ℕ × ℕ)) → ((b : ℕ) → f b ≡ g b) → IsNearest f at o → IsNearest g at o
same_nearest f g at None same h = λ b le. sym (same b) ∙ h b le
same_nearest f g at (Some found) same h = (h.0, sym (same (at - found.1)) ∙ h.1, λ b low high. sym (same b) ∙ h.2 b low high)

pub nearest_given : (ns : List NameView) (at : ℕ) → IsNearest (last_given ns) at (at_or_below at (table_of ns))
nearest_given ns at = same_nearest (named (table_of ns)) (last_given ns) at _ (λ b. last_counts ns b) (near 0 at (table_of ns) (names_from ns [] tt))
