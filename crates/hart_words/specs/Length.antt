-- The length of an instruction (Unprivileged ISA, "Base Instruction-Length Encoding").
use Rattle.std.specs.Prelude.{ℕ, ◌%◌, ◌==◌, Bool}

-- the two lowest bits are 11: another half-word follows the first
abbrev pub is_long : ℕ → Bool
is_long half = half % 4 == 3
