-- The parts of the table that the functions of this crate read.
use Rattle.std.specs.Prelude.{ℕ, Option, filter, bit_and, ◌==◌}
use Rattle.rv_encoding.specs.Formats.{r_type, i_type}
use Rattle.rv_encoding.specs.Rows.{rows, first_of}
use Rattle.rv_encoding.specs.declared.instruction.Ins.{Ins}
use Rattle.rv_encoding.specs.declared.instruction.Ins.TheVariants.{Imm, Fence}
use Rattle.rv_encoding.specs.declared.operations.ImmOp.{ImmOp}
use Rattle.rv_encoding.specs.declared.operations.ImmOp.TheVariants.{Slli, Srli, Srai}

-- the instruction that the word spells by the rows of this opcode
unfoldable pub part : ℕ → ℕ → Option Ins
part opcode w = first_of (filter (λ r. bit_and r.match 0x7F == opcode) rows) w

-- a shift has its amount where rs2 stands, and the others an immediate
abbrev pub imm_type : ImmOp → ℕ → Ins
imm_type Slli w = r_type (Imm Slli) w
imm_type Srli w = r_type (Imm Srli) w
imm_type Srai w = r_type (Imm Srai) w
imm_type op w = i_type (Imm op) w

-- the bits that the instruction's row ignores
abbrev pub ignored_of : Ins → ℕ
ignored_of (Fence pred succ) = 0xF00F8F80
ignored_of _ = 0
