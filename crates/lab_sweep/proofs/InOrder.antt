-- A scenario with one event at another count is in order.
use Rattle.std.proofs.Common.{◌≡◌, ℕ, zero, suc, ◌+◌, ◌≤◌, ◌<◌, List, [], ◌∷◌, ◌++◌, length, take, Bool, true, false, Option, Some, refl, sym, ap, ◌∙◌, subst, arith, add-one}
use Rattle.std.specs.Prelude.{nat_le, remove, slice_get, slice_index_or, IsTrue, if◌then◌else◌}
use Rattle.std.proofs.lemmas.Bool.Decides.{nat_tests}
use Rattle.hart_board.specs.Event.{AreEventsFrom, IsInput, is_free, last_count}
use Rattle.hart_board.specs.declared.event.Event.{Event}
use Rattle.lab_sweep.specs.Moved.{put_in}

-- from an earlier count on
pub from_earlier : (n a b : ℕ) (es : List Event) → a ≤ b → AreEventsFrom n b es → AreEventsFrom n a es
from_earlier n a b [] h p = tt
from_earlier n a b (e ∷ es) h p = let le : a ≤ e.at = omega (arith, h, p.0) in (le, p.1, p.2, p.3)

-- without one of them
pub without_one : (n c i : ℕ) (es : List Event) → AreEventsFrom n c es → AreEventsFrom n c (remove es i)
without_one n c zero [] p = tt
without_one n c (suc i) [] p = tt
without_one n c zero (e ∷ es) p = from_earlier n c e.at es p.0 p.3
without_one n c (suc i) (e ∷ es) p = (p.0, p.1, p.2, without_one n e.at i es p.3)

-- with one more, by whether the first is at or before it
put_by : (b : Bool) (n c : ℕ) (e x : Event) (xs : List Event) → nat_le x.at e.at ≡ b → c ≤ e.at → IsTrue (is_free n e.what) → IsInput e.what → AreEventsFrom n c (x ∷ xs)
    → (x.at ≤ e.at → AreEventsFrom n x.at (put_in e xs)) → AreEventsFrom n c (if b then x ∷ put_in e xs else e ∷ x ∷ xs)
put_by true n c e x xs t h f i p more = let le : x.at ≤ e.at = grind (arith, nat_tests) in (p.0, p.1, p.2, more le)
put_by false n c e x xs t h f i p more = let le : e.at ≤ x.at = grind (arith, nat_tests) in (h, f, i, (le, p.1, p.2, p.3))

pub with_one : (n c : ℕ) (e : Event) (es : List Event) → c ≤ e.at → IsTrue (is_free n e.what) → IsInput e.what → AreEventsFrom n c es → AreEventsFrom n c (put_in e es)
with_one n c e [] h f i p = (h, f, i, tt)
with_one n c e (x ∷ xs) h f i p =
    let by_test : AreEventsFrom n c (if nat_le x.at e.at then x ∷ put_in e xs else e ∷ x ∷ xs) = put_by (nat_le x.at e.at) n c e x xs refl h f i p (λ le. with_one n x.at e xs le f i p.3) in by_test

some_is : (x y : Event) → ◌≡◌ {A = Option Event} (Some x) (Some y) → x ≡ y
some_is x y e = cc

-- what comes with an event is in range
pub inputs_in : (n c i : ℕ) (es : List Event) (e : Event) → AreEventsFrom n c es → slice_get es i ≡ Some e → IsInput e.what
inputs_in n c zero [] e p s = cc
inputs_in n c (suc i) [] e p s = cc
inputs_in n c zero (x ∷ xs) e p s = subst (λ (y : Event). IsInput y.what) (some_is x e s) p.2
inputs_in n c (suc i) (x ∷ xs) e p s = inputs_in n x.at i xs e p.3 s

-- ---- one event after another

-- a front ends no later than what follows it
pub front_before : (n c k : ℕ) (es : List Event) (d : Event) → k < length es → AreEventsFrom n c es → last_count c (take k es) ≤ (slice_index_or es k d).at
front_before n c k [] d h p = let no : ⊥ = omega (arith, h) in absurd no
front_before n c zero (x ∷ xs) d h p = p.0
front_before n c (suc k) (x ∷ xs) d h p = front_before n x.at k xs d (omega (arith, h)) p.3

pub free_at : (n c k : ℕ) (es : List Event) (d : Event) → k < length es → AreEventsFrom n c es → IsTrue (is_free n (slice_index_or es k d).what)
free_at n c k [] d h p = let no : ⊥ = omega (arith, h) in absurd no
free_at n c zero (x ∷ xs) d h p = p.1
free_at n c (suc k) (x ∷ xs) d h p = free_at n x.at k xs d (omega (arith, h)) p.3

pub is_free_in : (n c k : ℕ) (es : List Event) (e : Event) → AreEventsFrom n c es → slice_get es k ≡ Some e → IsTrue (is_free n e.what)
is_free_in n c zero [] e p s = cc
is_free_in n c (suc k) [] e p s = cc
is_free_in n c zero (x ∷ xs) e p s = subst (λ (y : Event). IsTrue (is_free n y.what)) (some_is x e s) p.1
is_free_in n c (suc k) (x ∷ xs) e p s = is_free_in n x.at k xs e p.3 s

one_more : (k : ℕ) (es : List Event) (e : Event) → slice_get es k ≡ Some e → take k es ++ e ∷ [] ≡ take (suc k) es
one_more zero [] e s = cc
one_more (suc k) [] e s = cc
one_more zero (x ∷ xs) e s = ap (λ y. y ∷ []) (sym (some_is x e s))
one_more (suc k) (x ∷ xs) e s = ap (λ l. x ∷ l) (one_more k xs e s)

-- one event more
pub take_one_more : (k : ℕ) (es : List Event) (e : Event) → slice_get es k ≡ Some e → take k es ++ e ∷ [] ≡ take (k + 1) es
take_one_more k es e s = one_more k es e s ∙ sym (ap (λ n. take n es) (add-one k))

-- the scenario with one event at another count
pub moved_in_order : (n place count : ℕ) (es : List Event) (e : Event) → AreEventsFrom n 0 es → slice_get es place ≡ Some e → AreEventsFrom n 0 (put_in (record e { at = count }) (remove es place))
moved_in_order n place count es e p s =
    let least : 0 ≤ count = omega arith in
    with_one n 0 (record e { at = count }) (remove es place) least (is_free_in n 0 place es e p s) (inputs_in n 0 place es e p s) (without_one n 0 place es p)
