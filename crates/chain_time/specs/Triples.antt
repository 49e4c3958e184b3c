-- A word that tells inputs, their levels, and how often each comes.
use Rattle.std.specs.Prelude.{◌≡◌, ℕ, zero, suc, ◌<◌, ◌≤◌, List, [], ◌∷◌, ◌++◌, length, nat_eq, Option, Some, None, if◌then◌else◌}
use Rattle.std.specs.List.{All}
use Rattle.hart_words.specs.Decimal.{decimal}
use Rattle.hart_words.specs.Cuts.{cut}
use Rattle.board_inputs.specs.Numbers.{number_upto}
use Rattle.chain_time.specs.declared.triple.Triple.{Triple}

-- ---- which words do

-- at most so many triples
abbrev pub most_triples : ℕ
most_triples = 1024

-- the numbers of a triple are in their ranges
pub record IsInRange (q : Triple) : Type 0 where
  pub input : q.input ≤ 1023
  pub some : 1 ≤ q.level
  pub level : q.level ≤ 255
  pub once : 1 ≤ q.count
  pub count : q.count ≤ 65535

-- the input, the level and how often it comes, with a colon between two
abbrev pub triple_text : Triple → List ℕ
triple_text q = decimal q.input ++ 58 ∷ (decimal q.level ++ 58 ∷ decimal q.count)

-- the triples, with a comma between two
unfoldable pub triples_text : List Triple → List ℕ
triples_text [] = []
triples_text (q ∷ []) = triple_text q
triples_text (q ∷ (r ∷ qs)) = triple_text q ++ 44 ∷ triples_text (r ∷ qs)

-- the word spells the triples
pub record SpellsTriples (word : List ℕ) (qs : List Triple) : Type 0 where
  pub some : 0 < length qs
  pub few : length qs ≤ most_triples
  pub range : All IsInRange qs
  pub text : word ≡ triples_text qs

-- ---- the same, read from the front

abbrev pub triple_with : ℕ → ℕ → ℕ → Option Triple
triple_with input level count = if nat_eq level 0 then None else (if nat_eq count 0 then None else Some (record { input = input; level = level; count = count }))

abbrev pub triple_from : Option ℕ → Option ℕ → Option ℕ → Option Triple
triple_from None level count = None
triple_from (Some input) None count = None
triple_from (Some input) (Some level) None = None
triple_from (Some input) (Some level) (Some count) = triple_with input level count

-- behind the input stand the level and how often it comes
abbrev pub triple_behind : List ℕ → List ℕ × Option (List ℕ) → Option Triple
triple_behind input (level, None) = None
triple_behind input (level, Some count) = triple_from (number_upto 1023 input) (number_upto 255 level) (number_upto 65535 count)

abbrev pub triple_parts : List ℕ × Option (List ℕ) → Option Triple
triple_parts (input, None) = None
triple_parts (input, Some rest) = triple_behind input (cut 58 rest)

-- the triple that a text spells
unfoldable pub triple_of : List ℕ → Option Triple
triple_of text = triple_parts (cut 58 text)

-- after a triple stands nothing, or a comma and what is left
abbrev pub with_triple : (List Triple → List ℕ → Option (List Triple)) → List Triple → Option Triple → Option (List ℕ) → Option (List Triple)
with_triple next before None rest = None
with_triple next before (Some q) None = Some (before ++ q ∷ [])
with_triple next before (Some q) (Some rest) = next (before ++ q ∷ []) rest

-- the triples, where so many more may stand after these
unfoldable pub triples_from : ℕ → List Triple → List ℕ → Option (List Triple)
triples_from zero before text = None
triples_from (suc n) before text = with_triple (λ qs rest. triples_from n qs rest) before (triple_of (cut 44 text).0) (cut 44 text).1

-- the triples that a word spells
unfoldable pub triples_of : List ℕ → Option (List Triple)
triples_of word = triples_from most_triples [] word
