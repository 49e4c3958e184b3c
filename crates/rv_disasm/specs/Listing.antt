-- The listing of bytes, and the text of an image.
use Rattle.std.specs.Prelude.{ℕ, zero, suc, ◌+◌, ◌-◌, ◌*◌, ◌%◌, ◌==◌, Bool, true, false, cond, List, [], ◌∷◌, ◌++◌, Option, Some, None}
use Rattle.std.specs.List.{flat_map, AllByRecursion}
use Rattle.asm_text.specs.Pieces.{Piece, printed}
use Rattle.rv_encoding.specs.Rows.{spelled, canonical}
use Rattle.rvc_encoding.specs.Rows.{spelled16}
use Rattle.rv_encoding.specs.declared.instruction.Ins.{Ins}
use Rattle.rvc_encoding.specs.declared.compressed.Cins.{Cins}
use Rattle.hart_memory.specs.Image.{SegmentView, ImageView}
use Rattle.hart_memory.specs.Memory.{AreBytes}
use Rattle.rv_disasm.specs.Printing.{line_pieces}
use Rattle.rv_disasm.specs.declared.statement.Statement.{Statement}
use Rattle.rv_disasm.specs.declared.statement.Statement.TheVariants.{Entry, Org, Byte, Half, Word, Long, Short}

-- ---- what stands first in bytes

-- the instruction of a half-word, or the half-word where no row spells it
abbrev pub short_or : Option Cins → ℕ → Statement
short_or None h = Half h
short_or (Some c) h = Short c

-- the instruction of a word that is canonical, or the word
abbrev pub long_or : Bool → Option Ins → ℕ → Statement
long_or false i w = Word w
long_or true None w = Word w
long_or true (Some i) w = Long i

unfoldable pub word_statement : ℕ → Statement
word_statement w = long_or (canonical w) (spelled w) w

-- a half-word with the low bits 11, and what follows it
abbrev pub long_first : ℕ → List ℕ → Statement
long_first h [] = Half h
long_first h (c ∷ []) = Half h
long_first h (c ∷ d ∷ bs) = word_statement (h + 65536 * (c + 256 * d))

abbrev pub half_first : ℕ → List ℕ → Statement
half_first h bs = cond (h % 4 == 3) (long_first h bs) (short_or (spelled16 h) h)

-- what the byte a and those that follow it begin with
unfoldable pub first_statement : ℕ → List ℕ → Statement
first_statement a [] = Byte a
first_statement a (b ∷ bs) = half_first (a + 256 * b) bs

-- ---- the listing

-- how many bytes a line puts
abbrev pub size_of : Statement → ℕ
size_of (Entry e) = 0
size_of (Org p) = 0
size_of (Byte b) = 1
size_of (Half h) = 2
size_of (Word w) = 4
size_of (Long i) = 4
size_of (Short c) = 2

-- how many bytes follow its first
abbrev pub further : Statement → ℕ
further s = size_of s - 1

-- the statements of bytes, of which so many belong to the statement before
abbrev pub listed : ℕ → List ℕ → List Statement
listed skip [] = []
listed (suc skip) (b ∷ bs) = listed skip bs
listed zero (b ∷ bs) = first_statement b bs ∷ listed (further (first_statement b bs)) bs

abbrev pub line_text : List Piece → List ℕ
line_text ps = printed ps ++ 10 ∷ []

-- the place behind a line
abbrev pub behind : Statement → ℕ → ℕ
behind (Entry e) place = place
behind (Org p) place = p
behind s place = place + size_of s

-- the lines of statements from a place on
abbrev pub lines_from : ℕ → List Statement → List (List Piece)
lines_from place [] = []
lines_from place (s ∷ ss) = line_pieces place s ∷ lines_from (behind s place) ss

abbrev pub text_from : ℕ → List Statement → List ℕ
text_from place ss = flat_map line_text (lines_from place ss)

-- the listing of the bytes that stand from base on
unfoldable pub listing : ℕ → List ℕ → List ℕ
listing base bytes = text_from base (listed 0 bytes)

-- ---- whole sources

-- an `.entry` line
abbrev pub entry_text : ℕ → List ℕ
entry_text e = line_text (line_pieces 0 (Entry e))

-- an `.org` line
abbrev pub org_text : ℕ → List ℕ
org_text p = line_text (line_pieces 0 (Org p))

-- the `.entry` and the `.org` line of bytes from base on
unfoldable pub heading : ℕ → List ℕ
heading base = entry_text base ++ org_text base

-- a segment: its place and its listing
unfoldable pub segment_text : SegmentView → List ℕ
segment_text s = org_text s.address ++ listing s.address s.content

-- an image: its entry, and then its segments
unfoldable pub image_text : ImageView → List ℕ
image_text image = entry_text image.start ++ flat_map segment_text image.segments

-- ---- bytes

-- each segment holds bytes
abbrev pub AreAllBytes : List SegmentView → Type 0
AreAllBytes segments = AllByRecursion (λ s. AreBytes s.content) segments
