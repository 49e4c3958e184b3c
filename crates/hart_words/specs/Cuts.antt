-- Texts that are cut at a separator.
use Rattle.std.specs.Prelude.{ℕ, ◌+◌, ◌==◌, Bool, not, List, take, drop, position, Option, Some, None}
use Rattle.std.specs.List.{list_all}

abbrev pub cut_there : Option ℕ → List ℕ → List ℕ × Option (List ℕ)
cut_there None text = (text, None)
cut_there (Some i) text = (take i text, Some (drop (i + 1) text))

-- a text up to the first separator, and what follows it where there is one
unfoldable pub cut : ℕ → List ℕ → List ℕ × Option (List ℕ)
cut separator text = cut_there (position (λ b. b == separator) text) text

-- the separator stands nowhere in the text
abbrev pub has_no : ℕ → List ℕ → Bool
has_no separator text = list_all (λ b. not (b == separator)) text
