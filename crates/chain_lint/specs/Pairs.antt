-- A word that tells inputs and their levels.
use Rattle.std.specs.Prelude.{◌≡◌, ℕ, zero, suc, ◌<◌, ◌≤◌, List, [], ◌∷◌, ◌++◌, length, nat_eq, Option, Some, None, if◌then◌else◌}
use Rattle.std.specs.List.{All}
use Rattle.hart_words.specs.Decimal.{decimal}
use Rattle.hart_words.specs.Cuts.{cut}
use Rattle.board_inputs.specs.Numbers.{number_upto}
use Rattle.chain_lint.specs.declared.pair.Pair.{Pair}

-- ---- which words do

-- at most so many pairs
abbrev pub most_pairs : ℕ
most_pairs = 1024

-- the numbers of a pair are in their ranges
pub record IsInRange (p : Pair) : Type 0 where
  pub input : p.input ≤ 1023
  pub some : 1 ≤ p.level
  pub level : p.level ≤ 255

-- the input, a colon and the level
abbrev pub pair_text : Pair → List ℕ
pair_text p = decimal p.input ++ 58 ∷ decimal p.level

-- the pairs, with a comma between two
unfoldable pub pairs_text : List Pair → List ℕ
pairs_text [] = []
pairs_text (p ∷ []) = pair_text p
pairs_text (p ∷ (q ∷ ps)) = pair_text p ++ 44 ∷ pairs_text (q ∷ ps)

-- the word spells the pairs
pub record SpellsPairs (word : List ℕ) (ps : List Pair) : Type 0 where
  pub some : 0 < length ps
  pub few : length ps ≤ most_pairs
  pub range : All IsInRange ps
  pub text : word ≡ pairs_text ps

-- ---- the same, read from the front

abbrev pub pair_with : ℕ → ℕ → Option Pair
pair_with input level = if nat_eq level 0 then None else Some (record { input = input; level = level })

abbrev pub pair_from : Option ℕ → Option ℕ → Option Pair
pair_from (Some input) (Some level) = pair_with input level
pair_from _ _ = None

abbrev pub pair_parts : List ℕ × Option (List ℕ) → Option Pair
pair_parts (input, None) = None
pair_parts (input, Some level) = pair_from (number_upto 1023 input) (number_upto 255 level)

-- the pair that a text spells
unfoldable pub pair_of : List ℕ → Option Pair
pair_of text = pair_parts (cut 58 text)

-- after a pair stands nothing, or a comma and what is left
abbrev pub with_pair : (List Pair → List ℕ → Option (List Pair)) → List Pair → Option Pair → Option (List ℕ) → Option (List Pair)
with_pair next before None rest = None
with_pair next before (Some p) None = Some (before ++ p ∷ [])
with_pair next before (Some p) (Some rest) = next (before ++ p ∷ []) rest

-- the pairs, where so many more may stand after these
unfoldable pub pairs_from : ℕ → List Pair → List ℕ → Option (List Pair)
pairs_from zero before text = None
pairs_from (suc n) before text = with_pair (λ ps rest. pairs_from n ps rest) before (pair_of (cut 44 text).0) (cut 44 text).1

-- the pairs that a word spells
unfoldable pub pairs_of : List ℕ → Option (List Pair)
pairs_of word = pairs_from most_pairs [] word
