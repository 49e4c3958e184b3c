-- Two devices side by side. Their state is the length of the first one's state, and then both states.
use Rattle.std.specs.Prelude.{◌≡◌, ℕ, ◌+◌, ◌-◌, ◌^◌, ◌≤◌, List, [], ◌∷◌, ◌++◌, length, take, drop, if◌then◌else◌, nat_lt}
use Rattle.std.specs.Option.{option_map, option_or}
use Rattle.device_model.specs.declared.device.TheConstants.{MAX_LINES}
use Rattle.device_model.specs.Meanings.{Meanings}

-- the state of two devices, of the states of each
abbrev pub joined : List ℕ → List ℕ → List ℕ
joined first second = length first ∷ (first ++ second)

-- the first device's state, and the second's
unfoldable pub first_of : List ℕ → List ℕ
first_of [] = []
first_of (count ∷ states) = take count states

unfoldable pub second_of : List ℕ → List ℕ
second_of [] = []
second_of (count ∷ states) = drop count states

-- the first ends where the second begins at the latest, and together they have as many lines as the board takes
pub record IsBoth (a b : Meanings) (s : List ℕ) : Type 0 where
  pub listed : s ≡ joined (first_of s) (second_of s)
  pub first : a.IsState (first_of s)
  pub second : b.IsState (second_of s)
  pub apart : a.high (first_of s) ≤ b.low (second_of s)
  pub few : length (a.lines (first_of s)) + length (b.lines (second_of s)) ≤ MAX_LINES

-- an access goes to the first device where its offset is below the second's low, and else to the second
abbrev pub side_by_side : Meanings → Meanings → Meanings
side_by_side a b = record {
  IsState = IsBoth a b;
  low = λ s. a.low (first_of s);
  high = λ s. b.high (second_of s);
  loaded = λ s at width. if nat_lt at (b.low (second_of s))
      then a.loaded (first_of s) at width
      else b.loaded (second_of s) at width;
  after_load = λ s at width. if nat_lt at (b.low (second_of s))
      then joined (a.after_load (first_of s) at width) (second_of s)
      else joined (first_of s) (b.after_load (second_of s) at width);
  after_store = λ s at width value. if nat_lt at (b.low (second_of s))
      then option_map (λ own. joined own (second_of s)) (a.after_store (first_of s) at width value)
      else option_map (λ own. joined (first_of s) own) (b.after_store (second_of s) at width value);
  after_stimulus = λ s what. joined (a.after_stimulus (first_of s) what) (b.after_stimulus (second_of s) what);
  lines = λ s. a.lines (first_of s) ++ b.lines (second_of s);
  halted = λ s. option_or (a.halted (first_of s)) (b.halted (second_of s));
  output_of = λ s. take (2 ^ 32 - 1) (a.output_of (first_of s) ++ b.output_of (second_of s));
}
