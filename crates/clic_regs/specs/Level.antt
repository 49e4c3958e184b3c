-- Levels and priorities (CLIC draft, "Specifying Interrupt Level").
use Rattle.std.specs.Prelude.{ℕ, ◌-◌, ◌%◌, ◌^◌}
use Rattle.clic_regs.specs.Filled.{filled}
use Rattle.clic_regs.specs.ClicState.{ClicState, control_of}

-- the level of a control byte: its upper nlbits bits, with the bits below filled with ones
abbrev pub level : ℕ → ℕ → ℕ
level nlbits control = filled nlbits control

-- its priority: the bits below
abbrev pub priority : ℕ → ℕ → ℕ
priority nlbits control = control % 2 ^ (8 - nlbits)

-- those of input i
abbrev pub level_of : ClicState → ℕ → ℕ
level_of c i = level c.nlbits (control_of c i)

abbrev pub priority_of : ClicState → ℕ → ℕ
priority_of c i = priority c.nlbits (control_of c i)
