-- The file of an image: its fields one after the other, and nothing more. Numbers have four bytes, the lowest first.
use Rattle.std.specs.Prelude.{◌≡◌, ℕ, ◌<◌, ◌^◌, List, [], ◌∷◌, ◌++◌, length, codes}
use Rattle.byteorder.specs.Endian.{little_bytes}
use Rattle.hart_memory.specs.Image.{SegmentView, ImageView, AreSound}

-- a segment: its address, how many bytes it has, and these bytes
abbrev pub segment_text : SegmentView → List ℕ
segment_text s = little_bytes 4 s.address ++ (little_bytes 4 (length s.content) ++ s.content)

abbrev pub segments_text : List SegmentView → List ℕ
segments_text [] = []
segments_text (s ∷ ss) = segment_text s ++ segments_text ss

-- the letters CLC1, the entry, how many segments there are, and the segments
abbrev pub image_text : ImageView → List ℕ
image_text i = codes "CLC1" ++ (little_bytes 4 i.start ++ (little_bytes 4 (length i.segments) ++ segments_text i.segments))

-- the bytes are the file of this image, whose segments stand apart in memory
pub record IsImageFile (bytes : List ℕ) (i : ImageView) : Type 0 where
  pub entry : i.start < 2 ^ 32
  pub sound : AreSound i.segments
  pub text : bytes ≡ image_text i
