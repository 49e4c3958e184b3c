-- An image that is loaded into a board.
use Rattle.std.specs.Prelude.{◌≡◌, ℕ, ◌+◌, ◌-◌, ◌%◌, ◌<◌, false, List, [], ◌∷◌, length, slice_index, Some}
use Rattle.std.specs.List.{All}
use Rattle.hart_memory.specs.Memory.{Memory}
use Rattle.hart_memory.specs.Access.{byte_at, with_byte}
use Rattle.hart_memory.specs.Image.{SegmentView, ImageView, meets_any}
use Rattle.hart_board.specs.State.{State}

-- memory with bytes from an address on
unfoldable pub with_bytes : ℕ → List ℕ → Memory → Memory
with_bytes at [] m = m
with_bytes at (b ∷ bs) m = with_bytes (at + 1) bs (with_byte m at b)

-- memory with the bytes of segments
unfoldable pub with_segments : List SegmentView → Memory → Memory
with_segments [] m = m
with_segments (s ∷ ss) m = with_segments ss (with_bytes s.address s.content m)

-- the board with an image's segments, which goes on at its entry with bit 0 cleared
abbrev pub loaded : ImageView → State → State
loaded i s = record s { memory = with_segments i.segments s.memory; pc = i.start - i.start % 2 }

-- memory holds each byte of a segment at its address
abbrev pub Holds : Memory → SegmentView → Type 0
Holds m s = (k : ℕ) → k < length s.content → byte_at m (s.address + k) ≡ Some (slice_index s.content k)

-- the same, by what a reader of memory finds
pub record Loads (i : ImageView) (old new : State) : Type 0 where
  -- each byte of each segment stands at its address
  pub placed : All (Holds new.memory) i.segments
  -- an address that no segment has holds what it held
  pub others : (a : ℕ) → meets_any a 1 i.segments ≡ false → byte_at new.memory a ≡ byte_at old.memory a
  -- the entry, with bit 0 cleared
  pub entry : new.pc ≡ i.start - i.start % 2
  -- all else is as it was
  pub rest : new ≡ record old { memory = new.memory; pc = new.pc }
