-- How much stack handlers at several levels use together.
use Rattle.std.specs.Prelude.{◌≤◌, ℕ, zero, suc, ◌+◌, ◌==◌, max, List, [], ◌∷◌, if◌then◌else◌}
use Rattle.chain_moves.specs.Slot.{frame_size}
pub use Rattle.chain_lint.specs.declared.uses.Use.{Use}

-- a frame with the greatest uses at a level, or 0 where the list has no such level
unfoldable pub level_cost : List Use → ℕ → ℕ
level_cost [] level = 0
level_cost (u ∷ us) level = if u.level == level then max (frame_size + u.uses) (level_cost us level) else level_cost us level

-- the sum over the levels below one
unfoldable pub bound_below : List Use → ℕ → ℕ
bound_below us zero = 0
bound_below us (suc level) = bound_below us level + level_cost us level

-- the sum over all levels
unfoldable pub bound : List Use → ℕ
bound us = bound_below us 256

-- what the checker may accept at a level of a service
pub record IsUse (u : Use) : Type 0 where
  pub level : 1 ≤ u.level
  pub uses : u.uses ≤ 4096
