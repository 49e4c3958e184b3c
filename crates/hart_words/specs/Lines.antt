-- The lines of a text.
use Rattle.std.specs.Prelude.{ℕ, ◌+◌, ◌==◌, Bool, List, [], length, Option, Some, None}
use Rattle.std.specs.List.{slice_split}

-- a line feed
abbrev pub is_feed : ℕ → Bool
is_feed b = b == 10

-- the lines are what stands before, between and behind the line feeds
abbrev pub lines_of : List ℕ → List (List ℕ)
lines_of text = slice_split is_feed text

-- the lines of what is left to read, where anything is
abbrev pub lines_left : Option (List ℕ) → List (List ℕ)
lines_left None = []
lines_left (Some text) = lines_of text

-- how much is left to read: an empty text is still a line
abbrev pub left : Option (List ℕ) → ℕ
left None = 0
left (Some text) = length text + 1
