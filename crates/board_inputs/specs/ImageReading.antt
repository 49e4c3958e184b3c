-- What reading a file from the front gives: an image, or the first thing that is wrong, with its place.
use Rattle.std.specs.Prelude.{◌≡◌, ℕ, zero, suc, ◌+◌, List, [], ◌∷◌, ◌++◌, length, take, drop, nat_lt, nat_eq, not, Bool, ◌&&◌, if◌then◌else◌, Result, Ok, Err}
use Rattle.byteorder.specs.Endian.{little_number}
use Rattle.hart_memory.specs.Place.{holds}
use Rattle.hart_memory.specs.Image.{SegmentView, ImageView, meets_any}
use Rattle.hart_memory.specs.declared.image.TheConstants.{MAX_SEGMENTS}
use Rattle.hart_words.specs.InTurn.{◌>>=◌}
use Rattle.board_inputs.specs.declared.image_why.ImageWhy.{ImageWhy}
use Rattle.board_inputs.specs.declared.image_why.ImageWhy.TheVariants.{BadMagic, Truncated, OutsideMemory, Overlap, TooMany, Trailing}
use Rattle.board_inputs.specs.declared.image_error.ImageError.{ImageError}
use Rattle.board_inputs.specs.declared.image_error.ImageError.TheVariants.{Memory, Refused}

-- what is wrong, and where
pub record Fault : Type 0 where
  pub place : ℕ
  pub why : ImageWhy

abbrev pub at_place : {A : Type 0} → ℕ → ImageWhy → Result A Fault
at_place place why = Err (record { place = place; why = why })

-- the number in the four bytes at a place
abbrev pub field_at : ℕ → List ℕ → Result ℕ Fault
field_at place bytes = if nat_lt (length bytes) (place + 4) then at_place place Truncated else Ok (little_number 4 (drop place bytes))

-- the number that CLC1 is
abbrev pub magic : ℕ
magic = 0x31434C43

abbrev pub magic_at : List ℕ → Result ℕ Fault
magic_at bytes = field_at 0 bytes >>= λ m. if nat_eq m magic then Ok m else at_place 0 BadMagic

-- count bytes from an address on are at least one, and lie in one memory
abbrev pub is_placed : ℕ → ℕ → Bool
is_placed at count = nat_lt 0 count && holds at count

-- the segment whose address stands at a place, after those before it
unfoldable pub segment_at : ℕ → List SegmentView → List ℕ → Result SegmentView Fault
segment_at place before bytes = do
  at ← field_at place bytes
  count ← field_at (place + 4) bytes
  if not (is_placed at count) then at_place place OutsideMemory
      else (if meets_any at count before then at_place place Overlap
      else (if nat_lt (length bytes) (place + 8 + count) then at_place (place + 8) Truncated
      else Ok (record { address = at; content = take count (drop (place + 8) bytes) })))

-- the file ends at a place
abbrev pub end_at : ℕ → List ℕ → Result (Unit {0}) Fault
end_at place bytes = if nat_lt place (length bytes) then at_place place Trailing else Ok tt

-- so many segments from a place on, after those before them, and nothing behind them
unfoldable pub segments_from : ℕ → ℕ → List SegmentView → List ℕ → Result (List SegmentView) Fault
segments_from zero place before bytes = end_at place bytes >>= λ done. Ok before
segments_from (suc n) place before bytes = segment_at place before bytes >>= λ s. segments_from n (place + 8 + length s.content) (before ++ s ∷ []) bytes

-- the letters, the entry, the number of segments, the segments
unfoldable pub image_of : List ℕ → Result ImageView Fault
image_of bytes = do
  letters ← magic_at bytes
  entry ← field_at 4 bytes
  count ← field_at 8 bytes
  if nat_lt MAX_SEGMENTS count then at_place 8 TooMany
      else (segments_from count 12 [] bytes >>= λ ss. Ok (record { start = entry; segments = ss }))

-- ---- what a function answers

-- it refused what reading refuses, or memory was wanting
abbrev pub Fails : {A : Type 0} → ImageError → Result A Fault → Type 0
Fails Memory read = Unit {0}
Fails (Refused place why) read = read ≡ at_place place why

-- it answered what reading gives, unless memory was wanting
abbrev pub Gives : {X Y : Type 0} → (X → Y) → Result X ImageError → Result Y Fault → Type 0
Gives view (Ok x) read = read ≡ Ok (view x)
Gives view (Err e) read = Fails e read

-- after an Ok the segment that reading gives is added, and the answer is the place after it; after an Err the image is as it was
abbrev pub AddsSegment : ℕ → ImageView → ImageView → Result ℕ ImageError → Result SegmentView Fault → Type 0
AddsSegment place old new (Ok next) read =
    (s : SegmentView) × (read ≡ Ok s) × (next ≡ place + 8 + length s.content) × (new ≡ record old { segments = old.segments ++ s ∷ [] })
AddsSegment place old new (Err e) read = (new ≡ old) × Fails e read

abbrev pub AddsSegments : ImageView → ImageView → Result (Unit {0}) ImageError → Result (List SegmentView) Fault → Type 0
AddsSegments old new (Ok done) read = (read ≡ Ok new.segments) × (new.start ≡ old.start)
AddsSegments old new (Err e) read = Fails e read
