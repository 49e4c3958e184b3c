-- What the bits of an instruction spell, whatever their length.
use Rattle.std.specs.Prelude.{ℕ, ◌%◌, ◌^◌, ◌==◌, if◌then◌else◌, Option}
use Rattle.std.specs.Option.{option_map}
use Rattle.rv_encoding.specs.declared.instruction.Ins.{Ins}
use Rattle.rv_encoding.specs.Rows.{spelled}
use Rattle.rvc_encoding.specs.Rows.{spelled16}
use Rattle.rvc_encoding.specs.Expansion.{expansion}

-- the instruction that bits of that length in bytes spell
abbrev pub decoded : ℕ → ℕ → Option Ins
decoded bits length = if length == 4 then spelled bits else option_map expansion (spelled16 (bits % 2 ^ 16))
