-- How many bytes a load or a store moves.
use Rattle.std.specs.Prelude.{◌≡◌, ℕ, ◌⊎◌}

-- one byte, two or four
abbrev pub IsWidth : ℕ → Type 0
IsWidth width = (width ≡ 1) ⊎ (width ≡ 2) ⊎ (width ≡ 4)
