-- What a chain keeps beside the board.
use Rattle.std.specs.Prelude.{ℕ, Bool, true, List, [], ◌∷◌}
use Rattle.hart_memory.specs.declared.address_map.TheConstants.{BANK_LEN}
use Rattle.chain_moves.specs.Slot.{frame_size}
use Rattle.chain_moves.specs.Bytes.{marked}
use Rattle.chain_moves.specs.Servicing.{Servicing, marks}
use Rattle.chain_moves.specs.Start.{none_dead}
use Rattle.chain_moves.specs.declared.mark.Mark.{Mark}

-- the marks of the live services, innermost first, and for each byte of RAM whether it is dead
pub record Watched : Type 0 where
  pub live : List Mark
  pub dead : List Bool

-- what is kept beside the board of a servicing state
abbrev pub watched_of : Servicing → Watched
watched_of s = record { live = marks s.live; dead = s.dead }

-- no service is live, and no byte is dead
abbrev pub nothing_watched : Watched
nothing_watched = record { live = []; dead = none_dead BANK_LEN }

-- a service begins whose frame has that place in RAM
abbrev pub with_service : Watched → Mark → ℕ → Watched
with_service w mark place = record { live = mark ∷ w.live; dead = marked w.dead place frame_size true }

-- those outside the innermost one
abbrev pub outside_of : List Mark → List Mark
outside_of [] = []
outside_of (v ∷ vs) = vs

-- the innermost service ends, and its frame's bytes stay dead
abbrev pub without_service : Watched → Watched
without_service w = record w { live = outside_of w.live }
