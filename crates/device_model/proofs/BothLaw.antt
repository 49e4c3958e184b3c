-- Two devices side by side, in terms of the two devices.
use Rattle.std.proofs.Common.{◌≡◌, ℕ, List, Option, None, Some, IsSome, arith, refl, ap}
use Rattle.std.proofs.lemmas.Bool.Decides.{nat_tests}
use Rattle.std.specs.Option.{option_or}
use Rattle.device_model.specs.Meanings.{Meanings}
use Rattle.device_model.specs.Both.{side_by_side}
use Rattle.device_model.specs.Laws.{IsSideBySide}
use Rattle.device_model.specs.Sound.Both.{first_joined, second_joined}
use Rattle.device_model.proofs.Shown.{both_lines, both_output}

or_some : (o p : Option ℕ) → IsSome o → option_or o p ≡ o
or_some None p h = cc
or_some (Some code) p h = refl

pub side_by_side_law : (a b : Meanings) (x y : List ℕ) → IsSideBySide a b (side_by_side a b) x y
side_by_side_law a b x y = record {
  low = ap a.low (first_joined x y);
  high = ap b.high (second_joined x y);
  loaded_below = λ at width l. rw (first_joined x y, second_joined x y) (grind (arith, nat_tests));
  loaded_above = λ at width l. rw (first_joined x y, second_joined x y) (grind (arith, nat_tests));
  after_load_below = λ at width l. rw (first_joined x y, second_joined x y) (grind (arith, nat_tests));
  after_load_above = λ at width l. rw (first_joined x y, second_joined x y) (grind (arith, nat_tests));
  after_store_below = λ at width value l. rw (first_joined x y, second_joined x y) (grind (arith, nat_tests));
  after_store_above = λ at width value l. rw (first_joined x y, second_joined x y) (grind (arith, nat_tests));
  after_stimulus = λ what. rw (first_joined x y, second_joined x y) refl;
  lines = both_lines a b x y;
  first_halts = λ h. rw (first_joined x y, second_joined x y) (or_some (a.halted x) (b.halted y) h);
  second_halts = λ h. rw (first_joined x y, second_joined x y, h) refl;
  output = both_output a b x y;
}
