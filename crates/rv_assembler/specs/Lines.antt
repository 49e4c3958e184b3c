-- The lines of a source.
use Rattle.std.specs.Prelude.{ℕ, ◌-◌, ◌==◌, Bool, ◌&&◌, nat_lt, cond, List, length, take, map, slice_index}
use Rattle.hart_words.specs.Lines.{lines_of as text_lines}

-- a carriage return at the end of a line is no part of it
abbrev pub ends_in_return : List ℕ → Bool
ends_in_return line = nat_lt 0 (length line) && (slice_index line (length line - 1) == 13)

unfoldable pub without_return : List ℕ → List ℕ
without_return line = cond (ends_in_return line) (take (length line - 1) line) line

-- what stands between line feeds, without the carriage returns
unfoldable pub lines_of : List ℕ → List (List ℕ)
lines_of source = map without_return (text_lines source)
