-- Where a device stands within others.
use Rattle.std.proofs.Common.{◌≡◌, ℕ, ◌+◌, ◌-◌, ◌≤◌, List, ◌∷◌, Option, None, Some, arith, refl, ap, ◌∙◌}
use Rattle.std.proofs.lemmas.Bool.Decides.{nat_tests}
use Rattle.std.specs.Option.{option_map}
use Rattle.device_model.specs.Meanings.{Meanings}
use Rattle.device_model.specs.Window.{moved_up}
use Rattle.device_model.specs.Both.{joined, side_by_side}
use Rattle.device_model.specs.Laws.{StandsAt}
use Rattle.device_model.proofs.BothLaw.{side_by_side_law}

moved_loaded : (m : Meanings) (base : ℕ) (s : List ℕ) (at width : ℕ) → (moved_up m).loaded (base ∷ s) (base + at) width ≡ m.loaded s at width
moved_loaded m base s at width = let less : base + at - base ≡ at = omega arith in grind (arith, nat_tests)

moved_after_load : (m : Meanings) (base : ℕ) (s : List ℕ) (at width : ℕ) → (moved_up m).after_load (base ∷ s) (base + at) width ≡ base ∷ m.after_load s at width
moved_after_load m base s at width = let less : base + at - base ≡ at = omega arith in grind (arith, nat_tests)

moved_after_store : (m : Meanings) (base : ℕ) (s : List ℕ) (at width value : ℕ) → (moved_up m).after_store (base ∷ s) (base + at) width value ≡ option_map (λ own. base ∷ own) (m.after_store s at width value)
moved_after_store m base s at width value = let less : base + at - base ≡ at = omega arith in grind (arith, nat_tests)

-- a device that is moved up stands at the base
pub stands_moved_up : (m : Meanings) (base size : ℕ) → StandsAt (moved_up m) m base size (λ s. base ∷ s)
stands_moved_up m base size = record {
  loaded = λ s at width l. moved_loaded m base s at width;
  after_load = λ s at width l. moved_after_load m base s at width;
  after_store = λ s at width value l. moved_after_store m base s at width value;
}

map_twice : (f g : List ℕ → List ℕ) (o : Option (List ℕ)) → option_map g (option_map f o) ≡ option_map (λ s. g (f s)) o
map_twice f g None = refl
map_twice f g (Some s) = refl

-- what stands below the second of two devices stands within both
pub stands_first : (a b device : Meanings) (base size : ℕ) (whole : List ℕ → List ℕ) (y : List ℕ) → StandsAt a device base size whole → base + size ≤ b.low y → StandsAt (side_by_side a b) device base size (λ s. joined (whole s) y)
stands_first a b device base size whole y stands ends =
    record {
      loaded = λ s at width l. (side_by_side_law a b (whole s) y).loaded_below (base + at) width (omega arith) ∙ stands.loaded s at width l;
      after_load = λ s at width l. (side_by_side_law a b (whole s) y).after_load_below (base + at) width (omega arith) ∙ ap (λ x. joined x y) (stands.after_load s at width l);
      after_store = λ s at width value l. (side_by_side_law a b (whole s) y).after_store_below (base + at) width value (omega arith)
          ∙ ap (option_map (λ new. joined new y)) (stands.after_store s at width value l)
          ∙ map_twice whole (λ new. joined new y) (device.after_store s at width value);
    }

-- and so does what stands in the second
pub stands_second : (a b device : Meanings) (base size : ℕ) (whole : List ℕ → List ℕ) (x : List ℕ) → StandsAt b device base size whole → ((s : List ℕ) → b.low (whole s) ≤ base) → StandsAt (side_by_side a b) device base size (λ s. joined x (whole s))
stands_second a b device base size whole x stands begins =
    record {
      loaded = λ s at width l. (side_by_side_law a b x (whole s)).loaded_above (base + at) width (omega (arith, begins s)) ∙ stands.loaded s at width l;
      after_load = λ s at width l. (side_by_side_law a b x (whole s)).after_load_above (base + at) width (omega (arith, begins s)) ∙ ap (λ y. joined x y) (stands.after_load s at width l);
      after_store = λ s at width value l. (side_by_side_law a b x (whole s)).after_store_above (base + at) width value (omega (arith, begins s))
          ∙ ap (option_map (λ new. joined x new)) (stands.after_store s at width value l)
          ∙ map_twice whole (λ new. joined x new) (device.after_store s at width value);
    }
