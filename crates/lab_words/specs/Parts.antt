-- A word that tells a part of many.
use Rattle.std.specs.Prelude.{ℕ, List, nat_lt, Option, Some, None, if◌then◌else◌}
use Rattle.hart_words.specs.Cuts.{cut}
use Rattle.board_inputs.specs.Numbers.{number_upto}
use Rattle.lab_words.specs.declared.part.Part.{Part}

-- at most so many parts
abbrev pub most_parts : ℕ
most_parts = 1_000_000

-- numbers count from 0 on, so that a number is below the number of parts, of which there is then one
abbrev pub part_with : ℕ → ℕ → Option Part
part_with number parts = if nat_lt number parts then Some (record { number = number; parts = parts }) else None

abbrev pub part_from : Option ℕ → Option ℕ → Option Part
part_from (Some number) (Some parts) = part_with number parts
part_from _ _ = None

abbrev pub part_parts : List ℕ × Option (List ℕ) → Option Part
part_parts (first, None) = None
part_parts (first, Some rest) = part_from (number_upto most_parts first) (number_upto most_parts rest)

-- the part that a text spells: its number, a slash, and of how many, both in decimal without leading zeros
unfoldable pub part_of : List ℕ → Option Part
part_of text = part_parts (cut 47 text)

-- all, where no part is told
abbrev pub part_or_all : Option (List ℕ) → Option Part
part_or_all (Some text) = part_of text
part_or_all None = Some (record { number = 0; parts = 1 })
