-- What a chain with direct services keeps beside the board.
use Rattle.std.specs.Prelude.{ℕ, ◌+◌, Bool, List, Option, Some, None}
use Rattle.chain_moves.specs.Watched.{Watched, nothing_watched}

-- what is kept of the chained services, the registers as the direct service began that is live, where one is, and how many there were
pub record DirectWatched : Type 0 where
  pub chained : Watched
  pub kept : Option (List ℕ)
  pub begun : ℕ

-- no service was entered, and no byte is dead
abbrev pub nothing_direct : DirectWatched
nothing_direct = record { chained = nothing_watched; kept = None; begun = 0 }

-- a direct service begins with these registers
abbrev pub with_direct : DirectWatched → List ℕ → DirectWatched
with_direct w registers = record { chained = w.chained; kept = Some registers; begun = w.begun + 1 }

-- and ends
abbrev pub without_direct : DirectWatched → DirectWatched
without_direct w = record { chained = w.chained; kept = None; begun = w.begun }

-- bytes of RAM that are dead then
abbrev pub with_dead : DirectWatched → List Bool → DirectWatched
with_dead w dead = record { chained = record w.chained { dead = dead }; kept = w.kept; begun = w.begun }

-- a round of the chained services leaves the rest
abbrev pub with_chained : DirectWatched → Watched → DirectWatched
with_chained w chained = record { chained = chained; kept = w.kept; begun = w.begun }
