-- What the numbers and addresses so far have laid down.
use Rattle.std.specs.Prelude.{◌≡◌, ℕ, ◌+◌, ◌<◌, ◌^◌, List, [], ◌∷◌, ◌++◌, length, Bool, true, false, not, ◌&&◌, nat_lt, Option, Some, None}
use Rattle.hart_memory.specs.Place.{holds}
use Rattle.hart_memory.specs.Image.{SegmentView, ImageView, meets_any, AreSound}
use Rattle.hart_memory.specs.declared.image.TheConstants.{MAX_SEGMENTS}
use Rattle.mem_text.specs.Items.{segment_of}
use Rattle.mem_text.specs.declared.mem_why.MemWhy.{MemWhy}
use Rattle.mem_text.specs.declared.mem_why.MemWhy.TheVariants.{TooMany, OutsideMemory, Overlap}

-- the segments that are whole, and the bytes of the one that is being filled from an address on
pub record Laying : Type 0 where
  pub image : ImageView
  pub from : ℕ
  pub filled : List ℕ

-- nothing yet
abbrev pub nothing_laid : ℕ → Laying
nothing_laid entry = record { image = record { start = entry; segments = [] }; from = 0; filled = [] }

-- all segments, the one that is being filled among them
abbrev pub all_segments : Laying → List SegmentView
all_segments l = l.image.segments ++ segment_of l.from l.filled

abbrev pub whole_image : Laying → ImageView
whole_image l = record l.image { segments = all_segments l }

-- an address: what was being filled is a whole segment now
abbrev pub moved_to : ℕ → Laying → Laying
moved_to at l = record { image = whole_image l; from = at; filled = [] }

-- a number
abbrev pub with_byte : ℕ → Laying → Laying
with_byte byte l = record l { filled = l.filled ++ byte ∷ [] }

-- a number at the place would begin a segment too many
abbrev pub is_full : Laying → Bool
is_full l = not (nat_lt 0 (length l.filled)) && not (nat_lt (length l.image.segments) MAX_SEGMENTS)

abbrev pub why_by : Bool → Bool → Bool → Option MemWhy
why_by true inside meets = Some TooMany
why_by false false meets = Some OutsideMemory
why_by false true true = Some Overlap
why_by false true false = None

-- why no byte may stand at the place, which is as far behind the segment's address as it has bytes
unfoldable pub why_not : Laying → Option MemWhy
why_not l = why_by (is_full l) (holds (l.from + length l.filled) 1) (meets_any (l.from + length l.filled) 1 l.image.segments)

-- what is being filled may be added behind the whole segments
pub record Fits (l : Laying) : Type 0 where
  pub placed : holds l.from (length l.filled) ≡ true
  pub apart : meets_any l.from (length l.filled) l.image.segments ≡ false
  pub room : length l.image.segments < MAX_SEGMENTS

-- the address is one, the whole segments are an image's, and what is being filled may be added where it has a byte
pub record IsFit (l : Laying) : Type 0 where
  pub near : l.from < 2 ^ 32
  pub sound : AreSound l.image.segments
  pub fits : 0 < length l.filled → Fits l
