-- How lines, attributes and claims make an input pending, and not.
use Rattle.std.specs.Prelude.{◌≡◌, ℕ, Bool, true, false, not, if◌then◌else◌, ◌&&◌, ◌||◌, slice_set}
use Rattle.clic_regs.specs.Attribute.{is_edge, is_active}
use Rattle.clic_regs.specs.ClicState.{ClicState, line_of, is_pending, attribute_of}

-- the line becomes active
abbrev pub is_awaited_edge : ℕ → Bool → Bool → Bool
is_awaited_edge attribute was high = not (is_active attribute was) && is_active attribute high

-- the pending bit once the line that was `was` is `high`: an edge is kept, a level is followed
abbrev pub pending_after : ℕ → Bool → Bool → Bool → Bool
pending_after attribute was pending high =
    if is_edge attribute then pending || is_awaited_edge attribute was high else is_active attribute high

-- what the draft says of that bit, case by case
pub record SeesLine (edge negative was before high now : Bool) : Type 0 where
  pub high_level : edge ≡ false → negative ≡ false → now ≡ high
  pub low_level : edge ≡ false → negative ≡ true → now ≡ not high
  pub rising : edge ≡ true → negative ≡ false → was ≡ false → high ≡ true → now ≡ true
  pub falling : edge ≡ true → negative ≡ true → was ≡ true → high ≡ false → now ≡ true
  pub other_edge : edge ≡ true → high ≡ negative → now ≡ before
  pub no_edge : edge ≡ true → was ≡ high → now ≡ before

-- the line of input i is set
unfoldable pub line_changed : ClicState → ℕ → Bool → ClicState
line_changed c i high = record c {
  line = slice_set c.line i high;
  pending = slice_set c.pending i (pending_after (attribute_of c i) (line_of c i) (is_pending c i) high);
}

-- the attribute of input i is set: an edge input keeps its pending bit, a level input follows its line
unfoldable pub attribute_changed : ClicState → ℕ → ℕ → ClicState
attribute_changed c i value = record c {
  attribute = slice_set c.attribute i value;
  pending = if is_edge value then c.pending else slice_set c.pending i (is_active value (line_of c i));
}

-- the pending bit of input i is set to a value, where the input is triggered by an edge
unfoldable pub pending_changed : ClicState → ℕ → Bool → ClicState
pending_changed c i value =
    if is_edge (attribute_of c i) then record c { pending = slice_set c.pending i value } else c

-- input i is claimed
abbrev pub claimed : ClicState → ℕ → ClicState
claimed c i = pending_changed c i false
