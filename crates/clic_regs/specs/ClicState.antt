-- The state of the interrupt controller.
use Rattle.std.specs.Prelude.{◌≡◌, ℕ, ◌<◌, ◌≤◌, List, Bool, false, length, replicate, slice_index, slice_index_or}
use Rattle.clic_regs.specs.Attribute.{is_edge, is_active}
use Rattle.clic_regs.specs.Filled.{filled, IsFilled}
use Rattle.clic_regs.specs.Shape.{ClicShape, IsShape}

pub record ClicState : Type 0 where
  -- what never changes
  pub shape : ClicShape
  -- how many upper bits of a control byte are the level
  pub nlbits : ℕ
  -- by input: its line, whether it is pending, whether it is enabled, its attribute byte and its control byte
  pub line : List Bool
  pub pending : List Bool
  pub enable : List Bool
  pub attribute : List ℕ
  pub control : List ℕ

-- how many inputs there are
abbrev pub input_count : ClicState → ℕ
input_count c = c.shape.inputs

-- what the lists hold for input i
abbrev pub line_of : ClicState → ℕ → Bool
line_of c i = slice_index_or c.line i false

abbrev pub is_pending : ClicState → ℕ → Bool
is_pending c i = slice_index_or c.pending i false

abbrev pub is_enabled : ClicState → ℕ → Bool
is_enabled c i = slice_index_or c.enable i false

abbrev pub attribute_of : ClicState → ℕ → ℕ
attribute_of c i = slice_index c.attribute i

abbrev pub control_of : ClicState → ℕ → ℕ
control_of c i = slice_index c.control i

-- at reset
unfoldable pub reset_clic : ClicShape → ClicState
reset_clic s = record {
  shape = s;
  nlbits = 0;
  line = replicate s.inputs false;
  pending = replicate s.inputs false;
  enable = replicate s.inputs false;
  attribute = replicate s.inputs 0;
  control = replicate s.inputs (filled s.bits 0);
}

-- the states that are reached: each list has an entry for each input, the numbers are in range, the bits of a control byte
-- that can't be written are ones, and a level input is pending where its line is active
pub record IsClicState (c : ClicState) : Type 0 where
  pub shape : IsShape c.shape
  pub nlbits : c.nlbits ≤ 8
  pub line : length c.line ≡ input_count c
  pub pending : length c.pending ≡ input_count c
  pub enable : length c.enable ≡ input_count c
  pub attribute : length c.attribute ≡ input_count c
  pub control : length c.control ≡ input_count c
  pub attributes : (i : ℕ) → attribute_of c i < 8
  pub controls : (i : ℕ) → control_of c i < 256
  pub ones : (i : ℕ) → i < input_count c → IsFilled c.shape.bits (control_of c i)
  pub levels : (i : ℕ) → i < input_count c → is_edge (attribute_of c i) ≡ false → is_pending c i ≡ is_active (attribute_of c i) (line_of c i)
