-- The shape of a controller.
use Rattle.std.specs.Prelude.{ℕ, ◌≤◌, ◌&&◌, nat_le, Option, Some, None, if◌then◌else◌}

pub record ClicShape : Type 0 where
  -- how many inputs it has
  pub inputs : ℕ
  -- how many upper bits of a control byte can be written
  pub bits : ℕ

-- the shapes that there are
pub record IsShape (s : ClicShape) : Type 0 where
  pub least : 24 ≤ s.inputs
  pub most : s.inputs ≤ 1024
  pub bits : s.bits ≤ 8

-- the shape of so many inputs and bits, where there is one
abbrev pub shape_of : ℕ → ℕ → Option ClicShape
shape_of inputs bits =
    if nat_le 24 inputs && nat_le inputs 1024 && nat_le bits 8 then Some (record { inputs = inputs; bits = bits }) else None

-- the shape that is meant where none is named
abbrev pub plain_shape : ClicShape
plain_shape = record { inputs = 64; bits = 8 }
