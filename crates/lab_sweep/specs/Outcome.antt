-- The outcome of a chain, by the text that it writes without a trace: how it ends, and its services.
use Rattle.std.specs.Prelude.{ℕ, ◌+◌, ◌==◌, Bool, List, [], ◌∷◌, ◌++◌, map, take, nat_eq, codes, if◌then◌else◌}
use Rattle.std.specs.List.{starts_with}
use Rattle.hart_words.specs.Lines.{lines_of}

-- ---- services

-- numbers are parted by colons
abbrev pub with_colon : ℕ → ℕ
with_colon b = if b == 32 then 58 else b

-- by the line's first letter: a chained service, a direct one, or none
abbrev pub word_by : ℕ → List ℕ → List ℕ
word_by mark numbers = if mark == 115 then 32 ∷ map with_colon numbers else (if mark == 100 then 32 ∷ 100 ∷ map with_colon numbers else [])

-- the word of a line: ` 3:127:1` of `s 3 127 1`, ` d20:255:1` of `d 20 255 1`
abbrev pub word_of : List ℕ → List ℕ
word_of [] = []
word_of (mark ∷ []) = []
word_of (mark ∷ space ∷ numbers) = word_by mark numbers

-- ---- the end

-- the line of the end is the first that begins with an e
abbrev pub is_end : List ℕ → Bool
is_end line = starts_with nat_eq line (codes "e")

-- where the last space stands, of a line that is read from a place on
abbrev pub last_space : ℕ → ℕ → List ℕ → ℕ
last_space last at [] = last
last_space last at (b ∷ bs) = last_space (if b == 32 then at else last) (at + 1) bs

-- the end without the count of bodies after which the convention was broken
abbrev pub timeless : List ℕ → List ℕ
timeless line = if starts_with nat_eq line (codes "end broken ") then take (last_space 0 0 line) line else line

-- ---- both

-- behind the end the words of the lines before it
abbrev pub outcome_from : List ℕ → List (List ℕ) → List ℕ
outcome_from words [] = words
outcome_from words (line ∷ lines) = if is_end line then timeless line ++ words else outcome_from (words ++ word_of line) lines

-- `end halt 00000000 3:127:1 5:127:2`: how the chain that wrote this text ended, and its services
unfoldable pub outcome : List ℕ → List ℕ
outcome text = outcome_from [] (lines_of text)
