-- Segments that an image takes.
use Rattle.std.specs.Prelude.{◌≡◌, ℕ, ◌+◌, ◌<◌, ◌≤◌, true, false, List, [], ◌∷◌, ◌++◌, length}
use Rattle.hart_memory.specs.Place.{holds}
use Rattle.hart_memory.specs.declared.image.TheConstants.{MAX_SEGMENTS}
use Rattle.rv_assembler.specs.declared.stretch.Stretch.{Stretch}
use Rattle.rv_assembler.specs.Laying.{overlaps}

-- a segment that may follow these
pub record Follows (before : List Stretch) (s : Stretch) : Type 0 where
  pub some : 0 < s.size
  pub placed : holds s.base s.size ≡ true
  pub apart : overlaps s before ≡ false

-- each segment may follow those before it
abbrev pub AllFollow : List Stretch → List Stretch → Type 0
AllFollow before [] = Unit {0}
AllFollow before (s ∷ ss) = Follows before s × AllFollow (before ++ s ∷ []) ss

-- how many bytes the segments have
abbrev pub total : List Stretch → ℕ
total [] = 0
total (s ∷ ss) = s.size + total ss

-- the segments and the bytes make an image
pub record CanBeCut (stretches : List Stretch) (bytes : List ℕ) : Type 0 where
  pub few : length stretches ≤ MAX_SEGMENTS
  pub follow : AllFollow [] stretches
  pub whole : total stretches ≡ length bytes
