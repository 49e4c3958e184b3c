-- The shape that a scenario says: by its first line that isn't passed over, or else the plain one.
use Rattle.std.specs.Prelude.{ℕ, List, [], ◌∷◌, Bool, true, nat_eq, Option, Some, None, if◌then◌else◌, codes}
use Rattle.std.specs.Str.{bytes_eq}
use Rattle.hart_words.specs.Cuts.{cut}
use Rattle.clic_regs.specs.Shape.{ClicShape, shape_of, plain_shape}
use Rattle.board_inputs.specs.Numbers.{number_upto}

abbrev pub shape_from : Option ℕ → Option ℕ → Option ClicShape
shape_from (Some inputs) (Some bits) = shape_of inputs bits
shape_from _ _ = None

-- the shape that a line says, by its name and the texts of its two numbers
unfoldable pub shape_named : List ℕ → List ℕ → List ℕ → Option ClicShape
shape_named name first second =
    if bytes_eq name (codes "clic") then shape_from (number_upto 1024 first) (number_upto 8 second) else None

abbrev pub shape_after : List ℕ → List ℕ × Option (List ℕ) → Option ClicShape
shape_after name (first, None) = None
shape_after name (first, Some second) = shape_named name first second

abbrev pub shape_parts : List ℕ × Option (List ℕ) → Option ClicShape
shape_parts (name, None) = None
shape_parts (name, Some numbers) = shape_after name (cut 32 numbers)

-- the shape that a line says, read from its front
unfoldable pub shape_in : List ℕ → Option ClicShape
shape_in line = shape_parts (cut 32 line)

-- an empty line and a comment are passed over
abbrev pub is_passed : List ℕ → Bool
is_passed [] = true
is_passed (c ∷ cs) = nat_eq c 35

-- the shape of a file, and its lines, of which the one that says the shape is left empty
pub record Opening : Type 0 where
  pub shape : ClicShape
  pub lines : List (List ℕ)

abbrev pub opening_by : Option ClicShape → List ℕ → List (List ℕ) → Opening
opening_by None line lines = record { shape = plain_shape; lines = line ∷ lines }
opening_by (Some s) line lines = record { shape = s; lines = [] ∷ lines }

-- only the first line that isn't passed over may say the shape
unfoldable pub opening_of : List (List ℕ) → Opening
opening_of [] = record { shape = plain_shape; lines = [] }
opening_of (line ∷ lines) =
    if is_passed line then record { shape = (opening_of lines).shape; lines = line ∷ (opening_of lines).lines }
    else opening_by (shape_in line) line lines
