-- A device that is moved up meets what a device meets.
use Rattle.std.proofs.Common.{◌≡◌, ℕ, ◌+◌, ◌-◌, ◌≤◌, List, ◌∷◌, Option, None, Some, arith, refl, ap, subst}
use Rattle.std.proofs.lemmas.Bool.Decides.{nat_tests}
use Rattle.std.specs.Option.{option_map}
use Rattle.device_model.specs.Meanings.{Meanings, Keeps, IsInside, IsSound}
use Rattle.device_model.specs.Window.{base_of, own_of, IsWindow, moved_up}

-- a change of the device's own state keeps what the moved device keeps
keeps-moved_up : (m : Meanings) (s own : List ℕ) → IsWindow m s → Keeps m (own_of s) own → Keeps (moved_up m) s (base_of s ∷ own)
keeps-moved_up m s own st k = record {
  is_state = record { listed = refl; own = k.is_state; multiple = st.multiple; ends = omega (arith, st.ends, k.high) };
  low = ap (λ n. base_of s + n) k.low;
  high = ap (λ n. base_of s + n) k.high;
  line_count = k.line_count;
}

pub keeps_same : (m : Meanings) (s : List ℕ) → m.IsState s → Keeps m s s
keeps_same m s st = record { is_state = st; low = refl; high = refl; line_count = refl }

store_keeps-moved_up : (m : Meanings) (s new : List ℕ) (o : Option (List ℕ)) → IsWindow m s → ((own : List ℕ) → o ≡ Some own → Keeps m (own_of s) own) → option_map (λ own. base_of s ∷ own) o ≡ Some new → Keeps (moved_up m) s new
store_keeps-moved_up m s new None st h e = cc
store_keeps-moved_up m s new (Some own) st h e =
    let same : base_of s ∷ own ≡ new = cc in
    subst (λ x. Keeps (moved_up m) s x) same (keeps-moved_up m s own st (h own refl))

stored_inside-moved_up : (m : Meanings) (s new : List ℕ) (at : ℕ) (o : Option (List ℕ)) → base_of s ≤ at → ((own : List ℕ) → o ≡ Some own → IsInside m (own_of s) (at - base_of s)) → option_map (λ own. base_of s ∷ own) o ≡ Some new → IsInside (moved_up m) s at
stored_inside-moved_up m s new at None l h e = cc
stored_inside-moved_up m s new at (Some own) l h e =
    let inside = h own refl in
    record { not_below = omega (arith, inside.not_below); below = omega (arith, inside.below) }

loaded_inside-moved_up : (m : Meanings) (s : List ℕ) (at : ℕ) → base_of s ≤ at → IsInside m (own_of s) (at - base_of s) → IsInside (moved_up m) s at
loaded_inside-moved_up m s at l inside = record { not_below = omega (arith, inside.not_below); below = omega (arith, inside.below) }

pub moved_up_is_sound : (m : Meanings) → IsSound m → IsSound (moved_up m)
moved_up_is_sound m h = record {
  in_order = λ s st. omega (arith, h.in_order (own_of s) st.own);
  loaded_fits = λ s at width value st e. grind (arith, nat_tests, h.loaded_fits (own_of s) (at - base_of s) width value st.own);
  loaded_inside = λ s at width value st e. grind (arith, nat_tests, h.loaded_inside (own_of s) (at - base_of s) width value st.own, loaded_inside-moved_up m s at);
  not_loaded = λ s at width st e. grind (arith, nat_tests, h.not_loaded (own_of s) (at - base_of s) width st.own, st.listed);
  load_keeps = λ s at width st. grind (arith, nat_tests, keeps_same (moved_up m) s st, keeps-moved_up m s (m.after_load (own_of s) (at - base_of s) width) st (h.load_keeps (own_of s) (at - base_of s) width st.own));
  stored_inside = λ s at width value new st f e. grind (arith, nat_tests, stored_inside-moved_up m s new at (m.after_store (own_of s) (at - base_of s) width value), λ (own : List ℕ). h.stored_inside (own_of s) (at - base_of s) width value own st.own f);
  store_keeps = λ s at width value new st f e. grind (arith, nat_tests, store_keeps-moved_up m s new (m.after_store (own_of s) (at - base_of s) width value) st, λ (own : List ℕ). h.store_keeps (own_of s) (at - base_of s) width value own st.own f);
  stimulus_keeps = λ s what st w. keeps-moved_up m s (m.after_stimulus (own_of s) what) st (h.stimulus_keeps (own_of s) what st.own w);
}
