-- The slot, which is the place of a dispatcher in ROM, and the frames that it makes.
use Rattle.std.specs.Prelude.{◌≡◌, ◌<◌, ◌≤◌, ℕ, Bool, true, false, nat_le, nat_lt, ◌&&◌, List, Option, Some, None}
use Rattle.hart_memory.specs.Image.{SegmentView, meets_any}

-- the slot's first address, where interrupts go
abbrev pub base : ℕ
base = 0x40

-- the address past the slot's last
abbrev pub slot_end : ℕ
slot_end = 0xC0

-- where a dispatcher calls a handler
abbrev pub call : ℕ
call = 0x70

-- where a handler returns
abbrev pub back : ℕ
back = 0x74

-- the bytes of a frame
abbrev pub frame_size : ℕ
frame_size = 32

abbrev pub in_slot : ℕ → Bool
in_slot at = nat_le base at && nat_lt at slot_end

-- a segment has a byte at the address
abbrev pub is_covered : List SegmentView → ℕ → Bool
is_covered segments at = meets_any at 1 segments

-- the least address of the slot that is covered; none where no address of the slot is
abbrev pub IsLeastTaken : List SegmentView → Option ℕ → Type 0
IsLeastTaken segments (Some at) = (in_slot at ≡ true) × (is_covered segments at ≡ true) × ((k : ℕ) → base ≤ k → k < at → is_covered segments k ≡ false)
IsLeastTaken segments None = (k : ℕ) → base ≤ k → k < slot_end → is_covered segments k ≡ false
