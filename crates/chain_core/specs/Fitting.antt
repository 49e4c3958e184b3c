-- The place that an Enter finds: one more service can be live, and its frame lies in RAM.
use Rattle.std.specs.Prelude.{◌≡◌, ℕ, ◌+◌, ◌<◌, ◌≤◌, length}
use Rattle.hart_memory.specs.declared.address_map.TheConstants.{RAM_BASE, BANK_LEN}
use Rattle.chain_moves.specs.Slot.{frame_size}
use Rattle.chain_moves.specs.Watched.{Watched}
use Rattle.chain_moves.specs.declared.watch.TheConstants.{MAX_LIVE}
use Rattle.chain_moves.specs.declared.entry.Entry.TheVariants.{Admitted}
use Rattle.chain_moves.specs.declared.turn.Turn.{Turn}
use Rattle.chain_moves.specs.declared.turn.Turn.TheVariants.{Enter, Fuse}

-- the service that begins has a place
abbrev pub HasPlace : Watched → ℕ → Type 0
HasPlace w frame = (length w.live < MAX_LIVE) × (RAM_BASE ≤ frame) × (frame + frame_size ≤ RAM_BASE + BANK_LEN)

-- it has one once the innermost service has ended
abbrev pub HasPlaceAfter : Watched → ℕ → Type 0
HasPlaceAfter w frame = (0 < length w.live) × (length w.live ≤ MAX_LIVE) × (RAM_BASE ≤ frame) × (frame + frame_size ≤ RAM_BASE + BANK_LEN)

-- where an Enter is due whose tests don't hold, it has its place
abbrev pub EntersFit : Watched → Turn → Type 0
EntersFit w turn = (frame : ℕ) → turn ≡ Enter (Admitted frame) → HasPlace w frame

-- and so where one is due that is fused with a Leave
abbrev pub FusesFit : Watched → Turn → Type 0
FusesFit w turn = (frame : ℕ) → turn ≡ Fuse (Admitted frame) → HasPlaceAfter w frame
