-- Which instructions some word spells.
use Rattle.std.specs.Prelude.{ℕ, ◌%◌, ◌^◌, Bool, true, ◌&&◌, nat_lt, ◌==◌}
use Rattle.hart_words.specs.Sign.{sign_extended}
use Rattle.rv_encoding.specs.declared.instruction.Ins.{Ins}
use Rattle.rv_encoding.specs.declared.instruction.Ins.TheVariants.{Lui, Auipc, Jal, Jalr, Branch, Load, Store, Imm, Reg, Fence, Ecall, Ebreak, Mret, Wfi, Csr}
use Rattle.rv_encoding.specs.declared.operations.ImmOp.{ImmOp}
use Rattle.rv_encoding.specs.declared.operations.ImmOp.TheVariants.{Slli, Srli, Srai}

-- the number of a register
abbrev pub is_register : ℕ → Bool
is_register r = nat_lt r 32

-- the number is its own low b bits, sign-extended
abbrev pub is_signed : ℕ → ℕ → Bool
is_signed imm b = sign_extended (imm % 2 ^ b) b == imm

-- a word whose low 12 bits are 0
abbrev pub is_upper : ℕ → Bool
is_upper imm = nat_lt imm (2 ^ 32) && (imm % 2 ^ 12 == 0)

-- an offset of b bits to an even place
abbrev pub is_offset : ℕ → ℕ → Bool
is_offset offset b = is_signed offset b && (offset % 2 == 0)

-- the amount of a shift, or a signed number of 12 bits
abbrev pub is_operand : ImmOp → ℕ → Bool
is_operand Slli imm = nat_lt imm 32
is_operand Srli imm = nat_lt imm 32
is_operand Srai imm = nat_lt imm 32
is_operand _ imm = is_signed imm 12

-- each field holds its value, so that some word spells the instruction
abbrev pub can_be_spelled : Ins → Bool
can_be_spelled (Lui rd imm) = is_register rd && is_upper imm
can_be_spelled (Auipc rd imm) = is_register rd && is_upper imm
can_be_spelled (Jal rd offset) = is_register rd && is_offset offset 21
can_be_spelled (Jalr rd rs1 imm) = is_register rd && is_register rs1 && is_signed imm 12
can_be_spelled (Branch op rs1 rs2 offset) = is_register rs1 && is_register rs2 && is_offset offset 13
can_be_spelled (Load op rd rs1 imm) = is_register rd && is_register rs1 && is_signed imm 12
can_be_spelled (Store op rs1 rs2 imm) = is_register rs1 && is_register rs2 && is_signed imm 12
can_be_spelled (Imm op rd rs1 imm) = is_register rd && is_register rs1 && is_operand op imm
can_be_spelled (Reg op rd rs1 rs2) = is_register rd && is_register rs1 && is_register rs2
can_be_spelled (Fence pred succ) = nat_lt pred 16 && nat_lt succ 16
can_be_spelled Ecall = true
can_be_spelled Ebreak = true
can_be_spelled Mret = true
can_be_spelled Wfi = true
can_be_spelled (Csr op rd source csr) = is_register rd && nat_lt source 32 && nat_lt csr 4096
