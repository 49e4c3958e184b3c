-- The registers x0 to x31, as a list of 32 words (Unprivileged ISA, "Programmers' Model for Base Integer ISA").
use Rattle.std.specs.Prelude.{◌≡◌, ℕ, ◌^◌, ◌<◌, List, length, if◌then◌else◌, nat_eq, replicate, slice_index, slice_set}

-- all registers are 0
abbrev pub zero_registers : List ℕ
zero_registers = replicate 32 0

-- register i
abbrev pub register : List ℕ → ℕ → ℕ
register registers i = slice_index registers i

-- after a write of register i; a write of register 0 changes nothing
abbrev pub with_register : List ℕ → ℕ → ℕ → List ℕ
with_register registers i value = if nat_eq i 0 then registers else slice_set registers i value

-- there are 32 registers, each holds a word, and register 0 holds 0
pub record AreRegisters (registers : List ℕ) : Type 0 where
  pub count : length registers ≡ 32
  pub words : (i : ℕ) → register registers i < 2 ^ 32
  pub zero : register registers 0 ≡ 0
