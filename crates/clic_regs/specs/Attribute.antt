-- The attribute byte of an input (CLIC draft, "CLIC Interrupt Attribute (clicintattr)").
use Rattle.std.specs.Prelude.{ℕ, ◌==◌, Bool, not, if◌then◌else◌}
use Rattle.hart_words.specs.Bits.{bits}

-- shv, bit 0: the hardware takes the handler's address from the table
abbrev pub is_hard_vectored : ℕ → Bool
is_hard_vectored attribute = bits attribute 0 1 == 1

-- the lower bit of trig, bit 1: the input is triggered by an edge, else by a level
abbrev pub is_edge : ℕ → Bool
is_edge attribute = bits attribute 1 1 == 1

-- the upper bit of trig, bit 2: the polarity is negative, else positive
abbrev pub is_negative : ℕ → Bool
is_negative attribute = bits attribute 2 1 == 1

-- a line as its polarity takes it: inverted where that is negative
abbrev pub is_active : ℕ → Bool → Bool
is_active attribute high = if is_negative attribute then not high else high
