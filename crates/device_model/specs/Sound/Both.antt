-- Two devices side by side meet what a device meets.
use Rattle.std.proofs.Common.{◌≡◌, ℕ, ◌+◌, ◌*◌, ◌^◌, ◌<◌, ◌≤◌, List, ◌∷◌, ◌++◌, length, Option, None, Some, true, false, cond, arith, refl, ap, subst, ◌∙◌}
use Rattle.std.proofs.Math.Seq.{take-append_seam, drop-append_seam}
use Rattle.std.proofs.lemmas.List.{length-append}
use Rattle.std.proofs.lemmas.Bool.Decides.{nat_tests}
use Rattle.std.specs.Prelude.{nat_lt}
use Rattle.std.specs.Option.{option_map}
use Rattle.device_model.specs.declared.device.TheConstants.{MAX_LINES}
use Rattle.device_model.specs.Meanings.{Meanings, Keeps, IsInside, IsSound}
use Rattle.device_model.specs.Both.{joined, first_of, second_of, IsBoth, side_by_side}
use Rattle.device_model.specs.Sound.Window.{keeps_same}

-- two states that are joined are read back
pub first_joined : (xs ys : List ℕ) → first_of (length xs ∷ (xs ++ ys)) ≡ xs
unfolding first_of
first_joined xs ys = take-append_seam xs ys

pub second_joined : (xs ys : List ℕ) → second_of (length xs ∷ (xs ++ ys)) ≡ ys
unfolding second_of
second_joined xs ys = drop-append_seam xs ys

-- two states that can stand side by side do
pub joined_is_both : (a b : Meanings) (x y : List ℕ) → a.IsState x → b.IsState y → a.high x ≤ b.low y → length (a.lines x) + length (b.lines y) ≤ MAX_LINES → IsBoth a b (joined x y)
joined_is_both a b x y p q l n = record {
  listed = rw (first_joined x y, second_joined x y) refl;
  first = rw (first_joined x y) p;
  second = rw (second_joined x y) q;
  apart = rw (first_joined x y, second_joined x y) l;
  few = rw (first_joined x y, second_joined x y) n;
}

keeps_both : (a b : Meanings) (s x y : List ℕ) → IsBoth a b s → Keeps a (first_of s) x → Keeps b (second_of s) y → Keeps (side_by_side a b) s (joined x y)
keeps_both a b s x y st k l = record {
  is_state = joined_is_both a b x y k.is_state l.is_state (omega (arith, k.high, l.low, st.apart)) (omega (arith, k.line_count, l.line_count, st.few));
  low = ap a.low (first_joined x y) ∙ k.low;
  high = ap b.high (second_joined x y) ∙ l.high;
  line_count = rw (first_joined x y, second_joined x y) (length-append (a.lines x) (b.lines y) ∙ omega (arith, k.line_count, l.line_count, length-append (a.lines (first_of s)) (b.lines (second_of s))));
}

-- what is inside one of the devices is inside both together
first_inside : (a b : Meanings) → IsSound b → (s : List ℕ) (at : ℕ) → IsBoth a b s → IsInside a (first_of s) at → IsInside (side_by_side a b) s at
first_inside a b k s at st inside = record { not_below = inside.not_below; below = omega (arith, inside.below, k.in_order (second_of s) st.second, st.apart) }

second_inside : (a b : Meanings) → IsSound a → (s : List ℕ) (at : ℕ) → IsBoth a b s → IsInside b (second_of s) at → IsInside (side_by_side a b) s at
second_inside a b h s at st inside = record { not_below = omega (arith, inside.not_below, h.in_order (first_of s) st.first, st.apart); below = inside.below }

loaded_fits_both : (a b : Meanings) → IsSound a → IsSound b → (s : List ℕ) (at width value : ℕ) → IsBoth a b s → cond (nat_lt at (b.low (second_of s))) (a.loaded (first_of s) at width) (b.loaded (second_of s) at width) ≡ Some value → value < 2 ^ (8 * width)
loaded_fits_both a b h k s at width value st e = grind (arith, nat_tests, h.loaded_fits (first_of s) at width value st.first, k.loaded_fits (second_of s) at width value st.second)

loaded_inside_both : (a b : Meanings) → IsSound a → IsSound b → (s : List ℕ) (at width value : ℕ) → IsBoth a b s → cond (nat_lt at (b.low (second_of s))) (a.loaded (first_of s) at width) (b.loaded (second_of s) at width) ≡ Some value → IsInside (side_by_side a b) s at
loaded_inside_both a b h k s at width value st e = grind (arith, nat_tests, λ (e : a.loaded (first_of s) at width ≡ Some value). first_inside a b k s at st (h.loaded_inside (first_of s) at width value st.first e), λ (e : b.loaded (second_of s) at width ≡ Some value). second_inside a b h s at st (k.loaded_inside (second_of s) at width value st.second e))

not_loaded_both : (a b : Meanings) → IsSound a → IsSound b → (s : List ℕ) (at width : ℕ) → IsBoth a b s → cond (nat_lt at (b.low (second_of s))) (a.loaded (first_of s) at width) (b.loaded (second_of s) at width) ≡ None → (side_by_side a b).after_load s at width ≡ s
not_loaded_both a b h k s at width st e = grind (arith, nat_tests, h.not_loaded (first_of s) at width st.first, k.not_loaded (second_of s) at width st.second, st.listed)

load_keeps_both : (a b : Meanings) → IsSound a → IsSound b → (s : List ℕ) (at width : ℕ) → IsBoth a b s → Keeps (side_by_side a b) s ((side_by_side a b).after_load s at width)
load_keeps_both a b h k s at width st =
    let left : Keeps (side_by_side a b) s (joined (a.after_load (first_of s) at width) (second_of s)) = keeps_both a b s _ _ st (h.load_keeps (first_of s) at width st.first) (keeps_same b (second_of s) st.second) in
    let right : Keeps (side_by_side a b) s (joined (first_of s) (b.after_load (second_of s) at width)) = keeps_both a b s _ _ st (keeps_same a (first_of s) st.first) (k.load_keeps (second_of s) at width st.second) in
    elim (nat_lt at (b.low (second_of s))) as (λ t. Keeps (side_by_side a b) s (cond t (joined (a.after_load (first_of s) at width) (second_of s)) (joined (first_of s) (b.after_load (second_of s) at width)))) [ true ↦ left | false ↦ right ]

-- a store to one of the devices, by what that device makes of it
store_keeps_first : (a b : Meanings) (s new : List ℕ) (o : Option (List ℕ)) → IsBoth a b s → ((own : List ℕ) → o ≡ Some own → Keeps a (first_of s) own) → option_map (λ own. joined own (second_of s)) o ≡ Some new → Keeps (side_by_side a b) s new
store_keeps_first a b s new None st l e = cc
store_keeps_first a b s new (Some own) st l e =
    let same : joined own (second_of s) ≡ new = cc in
    subst (λ x. Keeps (side_by_side a b) s x) same (keeps_both a b s own (second_of s) st (l own refl) (keeps_same b (second_of s) st.second))

store_keeps_second : (a b : Meanings) (s new : List ℕ) (o : Option (List ℕ)) → IsBoth a b s → ((own : List ℕ) → o ≡ Some own → Keeps b (second_of s) own) → option_map (λ own. joined (first_of s) own) o ≡ Some new → Keeps (side_by_side a b) s new
store_keeps_second a b s new None st l e = cc
store_keeps_second a b s new (Some own) st l e =
    let same : joined (first_of s) own ≡ new = cc in
    subst (λ x. Keeps (side_by_side a b) s x) same (keeps_both a b s (first_of s) own st (keeps_same a (first_of s) st.first) (l own refl))

stored_inside_some : (P : Type 0) (f : List ℕ → List ℕ) (new : List ℕ) (o : Option (List ℕ)) → ((own : List ℕ) → o ≡ Some own → P) → option_map f o ≡ Some new → P
stored_inside_some P f new None l e = cc
stored_inside_some P f new (Some own) l e = l own refl

store_keeps_both : (a b : Meanings) → IsSound a → IsSound b → (s : List ℕ) (at width value : ℕ) (new : List ℕ) → IsBoth a b s → value < 2 ^ (8 * width) → (side_by_side a b).after_store s at width value ≡ Some new → Keeps (side_by_side a b) s new
store_keeps_both a b h k s at width value new st f =
    elim (nat_lt at (b.low (second_of s))) as (λ t. cond t (option_map (λ own. joined own (second_of s)) (a.after_store (first_of s) at width value)) (option_map (λ own. joined (first_of s) own) (b.after_store (second_of s) at width value)) ≡ Some new → Keeps (side_by_side a b) s new) [
      | true ↦ store_keeps_first a b s new _ st (λ own. h.store_keeps (first_of s) at width value own st.first f)
      | false ↦ store_keeps_second a b s new _ st (λ own. k.store_keeps (second_of s) at width value own st.second f)
    ]

stored_inside_both : (a b : Meanings) → IsSound a → IsSound b → (s : List ℕ) (at width value : ℕ) (new : List ℕ) → IsBoth a b s → value < 2 ^ (8 * width) → (side_by_side a b).after_store s at width value ≡ Some new → IsInside (side_by_side a b) s at
stored_inside_both a b h k s at width value new st f =
    elim (nat_lt at (b.low (second_of s))) as (λ t. cond t (option_map (λ own. joined own (second_of s)) (a.after_store (first_of s) at width value)) (option_map (λ own. joined (first_of s) own) (b.after_store (second_of s) at width value)) ≡ Some new → IsInside (side_by_side a b) s at) [
      | true ↦ stored_inside_some (IsInside (side_by_side a b) s at) (λ own. joined own (second_of s)) new _ (λ own e. first_inside a b k s at st (h.stored_inside (first_of s) at width value own st.first f e))
      | false ↦ stored_inside_some (IsInside (side_by_side a b) s at) (λ own. joined (first_of s) own) new _ (λ own e. second_inside a b h s at st (k.stored_inside (second_of s) at width value own st.second f e))
    ]

pub side_by_side_is_sound : (a b : Meanings) → IsSound a → IsSound b → IsSound (side_by_side a b)
side_by_side_is_sound a b h k = record {
  in_order = λ s st. omega (arith, h.in_order (first_of s) st.first, k.in_order (second_of s) st.second, st.apart);
  loaded_fits = loaded_fits_both a b h k;
  loaded_inside = loaded_inside_both a b h k;
  not_loaded = not_loaded_both a b h k;
  load_keeps = load_keeps_both a b h k;
  stored_inside = stored_inside_both a b h k;
  store_keeps = store_keeps_both a b h k;
  stimulus_keeps = λ s what st w. keeps_both a b s _ _ st (h.stimulus_keeps (first_of s) what st.first w) (k.stimulus_keeps (second_of s) what st.second w);
}
