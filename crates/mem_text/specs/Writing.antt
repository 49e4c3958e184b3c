-- The memory text that is written for an image.
use Rattle.std.specs.Prelude.{ℕ, ◌+◌, ◌%◌, ◌<◌, ◌||◌, ◌==◌, cond, List, [], ◌∷◌, ◌++◌, length}
use Rattle.std.specs.List.{All}
use Rattle.hart_words.specs.Hexadecimal.{hex2, hex8}
use Rattle.hart_memory.specs.Image.{SegmentView, ImageView}

-- behind byte k of count: a line feed where the line has 16 bytes or the segment ends, else a space
abbrev pub mark_behind : ℕ → ℕ → ℕ
mark_behind count k = cond ((k % 16 == 15) || (k + 1 == count)) 10 32

-- each byte as two digits, from byte k of count on
abbrev pub bytes_text : ℕ → ℕ → List ℕ → List ℕ
bytes_text count k [] = []
bytes_text count k (byte ∷ bytes) = hex2 byte ++ mark_behind count k ∷ bytes_text count (k + 1) bytes

-- the address in a line of its own, and the bytes
abbrev pub segment_text : SegmentView → List ℕ
segment_text s = (64 ∷ hex8 s.address ++ 10 ∷ []) ++ bytes_text (length s.content) 0 s.content

abbrev pub segments_text : List SegmentView → List ℕ
segments_text [] = []
segments_text (s ∷ ss) = segment_text s ++ segments_text ss

abbrev pub memory_text : ImageView → List ℕ
memory_text i = segments_text i.segments

-- each number is a byte
abbrev pub IsBytes : SegmentView → Type 0
IsBytes s = All (λ b. b < 256) s.content
