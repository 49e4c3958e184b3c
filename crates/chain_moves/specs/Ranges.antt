-- States whose numbers are in their ranges.
use Rattle.std.specs.Prelude.{◌≡◌, ◌%◌, ◌^◌, ◌<◌, List, [], ◌∷◌, ⊤}
use Rattle.device_model.specs.Meanings.{Meanings}
use Rattle.hart_board.specs.Valid.{IsBoard}
use Rattle.chain_moves.specs.Servicing.{Live, Servicing}
use Rattle.chain_moves.specs.Body.{hart}

-- what a live service has suspended, and its level
pub record IsSuspended (v : Live) : Type 0 where
  pub pc : (v.pc % 2 ≡ 0) × (v.pc < 2 ^ 32)
  pub ra : v.ra < 2 ^ 32
  pub a0 : v.a0 < 2 ^ 32
  pub a1 : v.a1 < 2 ^ 32
  pub level : v.mark.level < 256

abbrev pub AreSuspended : List Live → Type 0
AreSuspended [] = ⊤
AreSuspended (v ∷ vs) = IsSuspended v × AreSuspended vs

-- the hart that a body sees is one that a board can have, and so is all that is suspended
pub record IsInRange (m : Meanings) (s : Servicing) : Type 0 where
  pub board : IsBoard m (hart s)
  pub live : AreSuspended s.live
