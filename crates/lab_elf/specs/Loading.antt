-- What an ELF file loads: the bytes of its sections, each at its load address.
use Rattle.std.specs.Prelude.{◌≡◌, ℕ, ◌+◌, ◌-◌, ◌^◌, ◌%◌, ◌<◌, ◌≤◌, Bool, true, not, ◌&&◌, ◌||◌, ◌==◌, nat_lt, nat_le, List, [], ◌∷◌, length, map, filter, take, drop, Option, Some, None, if◌then◌else◌, Result, Ok, ⊤}
use Rattle.std.specs.List.{list_any}
use Rattle.hart_words.specs.InTurn.{◌>>=◌}
use Rattle.hart_memory.specs.Place.{holds}
use Rattle.hart_memory.specs.Image.{SegmentView, ImageView}
use Rattle.hart_memory.specs.declared.image.TheConstants.{MAX_SEGMENTS}
use Rattle.lab_elf.specs.Fault.{Fault, at_place}
use Rattle.lab_elf.specs.Header.{entry, header_of, is_inside}
use Rattle.lab_elf.specs.Headers.{sections, programs, alloc, has_flags}
use Rattle.lab_elf.specs.declared.elf_why.ElfWhy.TheVariants.{Truncated, TooMany, Unplaced, OutsideMemory, Overlap}
use Rattle.lab_elf.specs.declared.section.Section.{Section}
use Rattle.lab_elf.specs.declared.program.Program.{Program}
use Rattle.lab_elf.specs.declared.piece.Piece.{Piece}

-- ---- which sections, and where

-- the section has bytes that memory is to have: not those that are no section (0) or have no bytes in the file (8)
abbrev pub is_loaded : Section → Bool
is_loaded s = has_flags alloc s && (not (s.kind == 0) && (not (s.kind == 8) && not (s.size == 0)))

-- so many bytes from a place on are among these
abbrev pub is_among : ℕ → ℕ → ℕ → ℕ → Bool
is_among at size first room = nat_le first at && nat_le (at + size) (first + room)

-- the section lies in the segment, in the file and in memory; segments that are loaded have kind 1
unfoldable pub has_section : Section → Program → Bool
has_section s p = p.kind == 1 && (is_among s.offset s.size p.offset p.file_size && is_among s.address s.size p.virtual_address p.memory_size)

-- its bytes go where the segment's go, modulo 2 ^ 32
abbrev pub load_address_in : Section → Program → ℕ
load_address_in s p = (p.physical_address + (s.offset - p.offset)) % 2 ^ 32

-- in the first segment that has it
abbrev pub load_address : Section → List Program → Option ℕ
load_address s [] = None
load_address s (p ∷ ps) = if has_section s p then Some (load_address_in s p) else load_address s ps

-- ---- in order of addresses

-- two pieces of memory have no address in common
abbrev pub are_apart : Piece → Piece → Bool
are_apart p q = nat_le (p.at + p.size) q.at || nat_le (q.at + q.size) p.at

abbrev pub meets_any : Piece → List Piece → Bool
meets_any p taken = list_any (λ q. not (are_apart p q)) taken

-- pieces in rising order, with one more
abbrev pub put_in : Piece → List Piece → List Piece
put_in p [] = p ∷ []
put_in p (q ∷ qs) = if nat_lt p.at q.at then p ∷ q ∷ qs else q ∷ put_in p qs

-- ---- what may be wrong with a section that is loaded, after the pieces of those before it

abbrev pub with_piece : ℕ → Piece → List Piece → Result (List Piece) Fault
with_piece place p taken =
    if not (holds p.at p.size) then at_place place OutsideMemory
    else (if meets_any p taken then at_place place Overlap
    else Ok (put_in p taken))

abbrev pub with_address : Section → Option ℕ → List Piece → Result (List Piece) Fault
with_address s None taken = at_place s.place Unplaced
with_address s (Some at) taken = with_piece s.place (record { at = at; offset = s.offset; size = s.size }) taken

unfoldable pub with_section : List ℕ → Section → List Piece → Result (List Piece) Fault
with_section bytes s taken =
    if nat_le MAX_SEGMENTS (length taken) then at_place s.place TooMany
    else (if not (is_inside s.offset s.size bytes) then at_place s.place Truncated
    else with_address s (load_address s (programs bytes)) taken)

-- the sections one after the other
unfoldable pub with_sections : List ℕ → List Section → List Piece → Result (List Piece) Fault
with_sections bytes [] taken = Ok taken
with_sections bytes (s ∷ ss) taken = with_section bytes s taken >>= λ next. with_sections bytes ss next

-- ---- the image

-- the bytes of a piece
abbrev pub segment_of : List ℕ → Piece → SegmentView
segment_of bytes p = record { address = p.at; content = take p.size (drop p.offset bytes) }

abbrev pub image_with : List ℕ → List Piece → ImageView
image_with bytes pieces = record { start = entry bytes; segments = map (segment_of bytes) pieces }

-- the image of an ELF file, or the first thing that is wrong
unfoldable pub image_of : List ℕ → Result ImageView Fault
image_of bytes = do
  header ← header_of bytes
  pieces ← with_sections bytes (filter is_loaded (sections bytes)) []
  Ok (image_with bytes pieces)

-- ---- what pieces of an image are

-- each has a byte, lies in the file and in one memory, and they rise from an address on
abbrev pub ArePiecesFrom : ℕ → List ℕ → List Piece → Type 0
ArePiecesFrom at bytes [] = ⊤
ArePiecesFrom at bytes (p ∷ ps) = (at ≤ p.at) × (0 < p.size) × (p.offset + p.size ≤ length bytes) × (holds p.at p.size ≡ true) × ArePiecesFrom (p.at + p.size) bytes ps

-- ---- the image in words

-- the piece has the section's bytes, all of which are in the file and in one memory, at its load address
pub record IsPieceOf (bytes : List ℕ) (s : Section) (p : Piece) : Type 0 where
  pub address : load_address s (programs bytes) ≡ Some p.at
  pub offset_is : p.offset ≡ s.offset
  pub size_is : p.size ≡ s.size
  pub inside : s.offset + s.size ≤ length bytes
  pub placed : holds p.at p.size ≡ true

-- each piece is that of a section, one after the other
abbrev pub ArePiecesOf : List ℕ → List Section → List Piece → Type 0
ArePiecesOf bytes [] ps = ps ≡ []
ArePiecesOf bytes (s ∷ ss) ps = (p : Piece) × (rest : List Piece) × (ps ≡ p ∷ rest) × IsPieceOf bytes s p × ArePiecesOf bytes ss rest

-- pieces in rising order, with these one after the other
abbrev pub put_all : List Piece → List Piece → List Piece
put_all [] taken = taken
put_all (p ∷ ps) taken = put_all ps (put_in p taken)

-- the image has the pieces of the sections that are loaded, in rising order, and the header's entry
pub record IsImageOf (bytes : List ℕ) (image : ImageView) : Type 0 where
  pub pieces : List Piece
  pub of_sections : ArePiecesOf bytes (filter is_loaded (sections bytes)) pieces
  pub image_is : image ≡ image_with bytes (put_all pieces [])

-- ---- the order of segments

-- each begins at or behind this address and ends before the next one begins
abbrev pub AreFrom : ℕ → List SegmentView → Type 0
AreFrom at [] = ⊤
AreFrom at (s ∷ ss) = (at ≤ s.address) × AreFrom (s.address + length s.content) ss

-- the segments stand in rising order of addresses
abbrev pub AreRising : List SegmentView → Type 0
AreRising segments = AreFrom 0 segments
