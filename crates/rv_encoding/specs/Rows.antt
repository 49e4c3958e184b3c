-- The table of instructions: which words spell which (Unprivileged ISA, "RV32/64G Instruction Set Listings").
use Rattle.std.specs.Prelude.{◌≡◌, ℕ, List, [], ◌∷◌, ◌++◌, Option, Some, None, bit_and, ◌==◌, if◌then◌else◌, Any, Bool, ◌&&◌}
use Rattle.std.specs.List.{list_any}
use Rattle.rv_encoding.specs.Formats.{r_type, i_type, s_type, b_type, u_type, j_type, csr_type, fence, plain}
use Rattle.rv_encoding.specs.declared.instruction.Ins.{Ins}
use Rattle.rv_encoding.specs.declared.instruction.Ins.TheVariants.{Lui, Auipc, Jal, Jalr, Branch, Load, Store, Imm, Reg, Ecall, Ebreak, Mret, Wfi, Csr}
use Rattle.rv_encoding.specs.declared.operations.BranchOp.TheVariants.{Beq, Bne, Blt, Bge, Bltu, Bgeu}
use Rattle.rv_encoding.specs.declared.operations.LoadOp.TheVariants.{Lb, Lh, Lw, Lbu, Lhu}
use Rattle.rv_encoding.specs.declared.operations.StoreOp.TheVariants.{Sb, Sh, Sw}
use Rattle.rv_encoding.specs.declared.operations.ImmOp.TheVariants.{Addi, Slti, Sltiu, Xori, Ori, Andi, Slli, Srli, Srai}
use Rattle.rv_encoding.specs.declared.operations.RegOp.TheVariants.{Add, Sub, Sll, Slt, Sltu, Xor, Srl, Sra, Or, And, Mul, Mulh, Mulhsu, Mulhu, Div, Divu, Rem, Remu}
use Rattle.rv_encoding.specs.declared.operations.CsrOp.TheVariants.{Csrrw, Csrrs, Csrrc, Csrrwi, Csrrsi, Csrrci}

-- A word is of the row where its bits under the mask are the match. It then spells what the row makes of it, whatever its ignored bits are.
pub record Row : Type 0 where
  pub mask : ℕ
  pub match : ℕ
  pub ignored : ℕ
  pub makes : ℕ → Ins

abbrev pub row : ℕ → ℕ → (ℕ → Ins) → Row
row mask match makes = record { mask = mask; match = match; ignored = 0; makes = makes }

abbrev pub row_ignoring : ℕ → ℕ → ℕ → (ℕ → Ins) → Row
row_ignoring ignored mask match makes = record { mask = mask; match = match; ignored = ignored; makes = makes }

-- RV32I
abbrev pub rv32i : List Row
rv32i =
    row 0x0000007F 0x00000037 (u_type Lui)
    ∷ row 0x0000007F 0x00000017 (u_type Auipc)
    ∷ row 0x0000007F 0x0000006F (j_type Jal)
    ∷ row 0x0000707F 0x00000067 (i_type Jalr)
    ∷ row 0x0000707F 0x00000063 (b_type (Branch Beq))
    ∷ row 0x0000707F 0x00001063 (b_type (Branch Bne))
    ∷ row 0x0000707F 0x00004063 (b_type (Branch Blt))
    ∷ row 0x0000707F 0x00005063 (b_type (Branch Bge))
    ∷ row 0x0000707F 0x00006063 (b_type (Branch Bltu))
    ∷ row 0x0000707F 0x00007063 (b_type (Branch Bgeu))
    ∷ row 0x0000707F 0x00000003 (i_type (Load Lb))
    ∷ row 0x0000707F 0x00001003 (i_type (Load Lh))
    ∷ row 0x0000707F 0x00002003 (i_type (Load Lw))
    ∷ row 0x0000707F 0x00004003 (i_type (Load Lbu))
    ∷ row 0x0000707F 0x00005003 (i_type (Load Lhu))
    ∷ row 0x0000707F 0x00000023 (s_type (Store Sb))
    ∷ row 0x0000707F 0x00001023 (s_type (Store Sh))
    ∷ row 0x0000707F 0x00002023 (s_type (Store Sw))
    ∷ row 0x0000707F 0x00000013 (i_type (Imm Addi))
    ∷ row 0x0000707F 0x00002013 (i_type (Imm Slti))
    ∷ row 0x0000707F 0x00003013 (i_type (Imm Sltiu))
    ∷ row 0x0000707F 0x00004013 (i_type (Imm Xori))
    ∷ row 0x0000707F 0x00006013 (i_type (Imm Ori))
    ∷ row 0x0000707F 0x00007013 (i_type (Imm Andi))
    ∷ row 0xFE00707F 0x00001013 (r_type (Imm Slli))
    ∷ row 0xFE00707F 0x00005013 (r_type (Imm Srli))
    ∷ row 0xFE00707F 0x40005013 (r_type (Imm Srai))
    ∷ row 0xFE00707F 0x00000033 (r_type (Reg Add))
    ∷ row 0xFE00707F 0x40000033 (r_type (Reg Sub))
    ∷ row 0xFE00707F 0x00001033 (r_type (Reg Sll))
    ∷ row 0xFE00707F 0x00002033 (r_type (Reg Slt))
    ∷ row 0xFE00707F 0x00003033 (r_type (Reg Sltu))
    ∷ row 0xFE00707F 0x00004033 (r_type (Reg Xor))
    ∷ row 0xFE00707F 0x00005033 (r_type (Reg Srl))
    ∷ row 0xFE00707F 0x40005033 (r_type (Reg Sra))
    ∷ row 0xFE00707F 0x00006033 (r_type (Reg Or))
    ∷ row 0xFE00707F 0x00007033 (r_type (Reg And))
    ∷ row_ignoring 0xF00F8F80 0x0000707F 0x0000000F fence
    ∷ row 0xFFFFFFFF 0x00000073 (plain Ecall)
    ∷ row 0xFFFFFFFF 0x00100073 (plain Ebreak)
    ∷ []

-- Zicsr
abbrev pub zicsr : List Row
zicsr =
    row 0x0000707F 0x00001073 (csr_type (Csr Csrrw))
    ∷ row 0x0000707F 0x00002073 (csr_type (Csr Csrrs))
    ∷ row 0x0000707F 0x00003073 (csr_type (Csr Csrrc))
    ∷ row 0x0000707F 0x00005073 (csr_type (Csr Csrrwi))
    ∷ row 0x0000707F 0x00006073 (csr_type (Csr Csrrsi))
    ∷ row 0x0000707F 0x00007073 (csr_type (Csr Csrrci))
    ∷ []

-- RV32M
abbrev pub rv32m : List Row
rv32m =
    row 0xFE00707F 0x02000033 (r_type (Reg Mul))
    ∷ row 0xFE00707F 0x02001033 (r_type (Reg Mulh))
    ∷ row 0xFE00707F 0x02002033 (r_type (Reg Mulhsu))
    ∷ row 0xFE00707F 0x02003033 (r_type (Reg Mulhu))
    ∷ row 0xFE00707F 0x02004033 (r_type (Reg Div))
    ∷ row 0xFE00707F 0x02005033 (r_type (Reg Divu))
    ∷ row 0xFE00707F 0x02006033 (r_type (Reg Rem))
    ∷ row 0xFE00707F 0x02007033 (r_type (Reg Remu))
    ∷ []

-- trap return and interrupt management, of the privileged architecture
abbrev pub machine : List Row
machine =
    row 0xFFFFFFFF 0x30200073 (plain Mret)
    ∷ row 0xFFFFFFFF 0x10500073 (plain Wfi)
    ∷ []

-- all rows
unfoldable pub rows : List Row
rows = rv32i ++ zicsr ++ rv32m ++ machine

-- the word is of the row
abbrev pub IsOf : Row → ℕ → Type 0
IsOf r w = bit_and w r.mask ≡ r.match

-- no word is of both
abbrev pub AreApart : Row → Row → Type 0
AreApart r s = (w : ℕ) → IsOf r w → IsOf s w → ⊥

-- the word spells the instruction: it is of some row that makes the instruction of it
unfoldable pub Spells : ℕ → Ins → Type 0
Spells w i = Any (λ r. IsOf r w × (i ≡ r.makes w)) rows

-- the word is of some row, and that row's ignored bits are 0
unfoldable pub IsCanonical : ℕ → Type 0
IsCanonical w = Any (λ r. IsOf r w × (bit_and w r.ignored ≡ 0)) rows

-- the same, as a test
unfoldable pub canonical : ℕ → Bool
canonical w = list_any (λ r. (bit_and w r.mask == r.match) && (bit_and w r.ignored == 0)) rows

-- what the first of the rows makes that the word is of
abbrev pub first_of : List Row → ℕ → Option Ins
first_of [] w = None
first_of (r ∷ rs) w = if bit_and w r.mask == r.match then Some (r.makes w) else first_of rs w

-- the instruction that the word spells
unfoldable pub spelled : ℕ → Option Ins
spelled w = first_of rows w
