-- Dead bytes, and the bytes of live frames.
use Rattle.std.specs.Prelude.{ℕ, zero, suc, ◌+◌, ◌-◌, Bool, false, ◌&&◌, ◌||◌, nat_le, nat_lt, List, [], ◌∷◌, slice_index_or, slice_set}
use Rattle.hart_memory.specs.declared.address_map.TheConstants.{RAM_BASE}
use Rattle.hart_memory.specs.declared.place.Place.{Place}
use Rattle.hart_memory.specs.declared.place.Place.TheVariants.{InRom, InRam, Elsewhere}
use Rattle.chain_moves.specs.Slot.{in_slot, frame_size}
use Rattle.chain_moves.specs.declared.mark.Mark.{Mark}

-- the test holds of one of so many addresses from one on
unfoldable pub some_byte : (ℕ → Bool) → ℕ → ℕ → Bool
some_byte test at zero = false
some_byte test at (suc count) = test at || some_byte test (at + 1) count

-- the byte at a place of RAM is dead
abbrev pub is_dead_at : List Bool → ℕ → Bool
is_dead_at dead k = slice_index_or dead k false

abbrev pub is_dead : List Bool → ℕ → Bool
is_dead dead at = nat_le RAM_BASE at && is_dead_at dead (at - RAM_BASE)

-- no body may read the byte: it is in the slot, or dead
abbrev pub is_hidden : List Bool → ℕ → Bool
is_hidden dead at = in_slot at || is_dead dead at

-- the byte is in the frame at an address
abbrev pub in_frame : ℕ → ℕ → Bool
in_frame frame at = nat_le frame at && nat_lt at (frame + frame_size)

unfoldable pub in_live_frame : List Mark → ℕ → Bool
in_live_frame [] at = false
in_live_frame (v ∷ vs) at = in_frame v.frame at || in_live_frame vs at

-- the marks of count bytes from place k on are set
unfoldable pub marked : List Bool → ℕ → ℕ → Bool → List Bool
marked dead k zero mark = dead
marked dead k (suc count) mark = marked (slice_set dead k mark) (k + 1) count mark

-- after a store of so many bytes at a place none of them is dead
abbrev pub revived_at : Place → ℕ → List Bool → List Bool
revived_at (InRam k) width dead = marked dead k width false
revived_at (InRom k) width dead = dead
revived_at Elsewhere width dead = dead

-- a range of so many bytes has one in common with the frame at an address
abbrev pub overlaps : ℕ → ℕ → ℕ → Bool
overlaps at count frame = nat_lt at (frame + frame_size) && nat_lt frame (at + count)
