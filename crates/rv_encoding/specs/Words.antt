-- The word of each instruction: the match of its row, with its fields in their places.
use Rattle.std.specs.Prelude.{ℕ, ◌+◌, ◌*◌, ◌/◌, ◌^◌}
use Rattle.rv_encoding.specs.Fields.{spread, i_pieces, s_pieces, b_pieces, u_pieces, j_pieces}
use Rattle.rv_encoding.specs.declared.instruction.Ins.{Ins}
use Rattle.rv_encoding.specs.declared.instruction.Ins.TheVariants.{Lui, Auipc, Jal, Jalr, Branch, Load, Store, Imm, Reg, Fence, Ecall, Ebreak, Mret, Wfi, Csr}
use Rattle.rv_encoding.specs.declared.operations.BranchOp.{BranchOp}
use Rattle.rv_encoding.specs.declared.operations.BranchOp.TheVariants.{Beq, Bne, Blt, Bge, Bltu, Bgeu}
use Rattle.rv_encoding.specs.declared.operations.LoadOp.{LoadOp}
use Rattle.rv_encoding.specs.declared.operations.LoadOp.TheVariants.{Lb, Lh, Lw, Lbu, Lhu}
use Rattle.rv_encoding.specs.declared.operations.StoreOp.{StoreOp}
use Rattle.rv_encoding.specs.declared.operations.StoreOp.TheVariants.{Sb, Sh, Sw}
use Rattle.rv_encoding.specs.declared.operations.ImmOp.{ImmOp}
use Rattle.rv_encoding.specs.declared.operations.ImmOp.TheVariants.{Addi, Slti, Sltiu, Xori, Ori, Andi, Slli, Srli, Srai}
use Rattle.rv_encoding.specs.declared.operations.RegOp.{RegOp}
use Rattle.rv_encoding.specs.declared.operations.RegOp.TheVariants.{Add, Sub, Sll, Slt, Sltu, Xor, Srl, Sra, Or, And, Mul, Mulh, Mulhsu, Mulhu, Div, Divu, Rem, Remu}
use Rattle.rv_encoding.specs.declared.operations.CsrOp.{CsrOp}
use Rattle.rv_encoding.specs.declared.operations.CsrOp.TheVariants.{Csrrw, Csrrs, Csrrc, Csrrwi, Csrrsi, Csrrci}

-- ---- the formats

abbrev pub r_word : ℕ → ℕ → ℕ → ℕ → ℕ
r_word match rd rs1 rs2 = match + (rd * 2 ^ 7 + rs1 * 2 ^ 15 + rs2 * 2 ^ 20)

abbrev pub i_word : ℕ → ℕ → ℕ → ℕ → ℕ
i_word match rd rs1 imm = match + (rd * 2 ^ 7 + rs1 * 2 ^ 15 + spread i_pieces imm)

abbrev pub s_word : ℕ → ℕ → ℕ → ℕ → ℕ
s_word match rs1 rs2 imm = match + (rs1 * 2 ^ 15 + rs2 * 2 ^ 20 + spread s_pieces imm)

abbrev pub b_word : ℕ → ℕ → ℕ → ℕ → ℕ
b_word match rs1 rs2 offset = match + (rs1 * 2 ^ 15 + rs2 * 2 ^ 20 + spread b_pieces (offset / 2))

abbrev pub u_word : ℕ → ℕ → ℕ → ℕ
u_word match rd imm = match + (rd * 2 ^ 7 + spread u_pieces (imm / 2 ^ 12))

abbrev pub j_word : ℕ → ℕ → ℕ → ℕ
j_word match rd offset = match + (rd * 2 ^ 7 + spread j_pieces (offset / 2))

abbrev pub csr_word : ℕ → ℕ → ℕ → ℕ → ℕ
csr_word match rd source csr = match + (rd * 2 ^ 7 + source * 2 ^ 15 + csr * 2 ^ 20)

-- ---- the matches of the operations

abbrev pub branch_match : BranchOp → ℕ
branch_match Beq = 0x00000063
branch_match Bne = 0x00001063
branch_match Blt = 0x00004063
branch_match Bge = 0x00005063
branch_match Bltu = 0x00006063
branch_match Bgeu = 0x00007063

abbrev pub load_match : LoadOp → ℕ
load_match Lb = 0x00000003
load_match Lh = 0x00001003
load_match Lw = 0x00002003
load_match Lbu = 0x00004003
load_match Lhu = 0x00005003

abbrev pub store_match : StoreOp → ℕ
store_match Sb = 0x00000023
store_match Sh = 0x00001023
store_match Sw = 0x00002023

abbrev pub imm_match : ImmOp → ℕ
imm_match Addi = 0x00000013
imm_match Slti = 0x00002013
imm_match Sltiu = 0x00003013
imm_match Xori = 0x00004013
imm_match Ori = 0x00006013
imm_match Andi = 0x00007013
imm_match Slli = 0x00001013
imm_match Srli = 0x00005013
imm_match Srai = 0x40005013

abbrev pub reg_match : RegOp → ℕ
reg_match Add = 0x00000033
reg_match Sub = 0x40000033
reg_match Sll = 0x00001033
reg_match Slt = 0x00002033
reg_match Sltu = 0x00003033
reg_match Xor = 0x00004033
reg_match Srl = 0x00005033
reg_match Sra = 0x40005033
reg_match Or = 0x00006033
reg_match And = 0x00007033
reg_match Mul = 0x02000033
reg_match Mulh = 0x02001033
reg_match Mulhsu = 0x02002033
reg_match Mulhu = 0x02003033
reg_match Div = 0x02004033
reg_match Divu = 0x02005033
reg_match Rem = 0x02006033
reg_match Remu = 0x02007033

abbrev pub csr_match : CsrOp → ℕ
csr_match Csrrw = 0x00001073
csr_match Csrrs = 0x00002073
csr_match Csrrc = 0x00003073
csr_match Csrrwi = 0x00005073
csr_match Csrrsi = 0x00006073
csr_match Csrrci = 0x00007073

-- ---- the instructions

unfoldable pub word_of : Ins → ℕ
word_of (Lui rd imm) = u_word 0x00000037 rd imm
word_of (Auipc rd imm) = u_word 0x00000017 rd imm
word_of (Jal rd offset) = j_word 0x0000006F rd offset
word_of (Jalr rd rs1 imm) = i_word 0x00000067 rd rs1 imm
word_of (Branch op rs1 rs2 offset) = b_word (branch_match op) rs1 rs2 offset
word_of (Load op rd rs1 imm) = i_word (load_match op) rd rs1 imm
word_of (Store op rs1 rs2 imm) = s_word (store_match op) rs1 rs2 imm
word_of (Imm op rd rs1 imm) = i_word (imm_match op) rd rs1 imm
word_of (Reg op rd rs1 rs2) = r_word (reg_match op) rd rs1 rs2
word_of (Fence pred succ) = 0x0000000F + (pred * 2 ^ 24 + succ * 2 ^ 20)
word_of Ecall = 0x00000073
word_of Ebreak = 0x00100073
word_of Mret = 0x30200073
word_of Wfi = 0x10500073
word_of (Csr op rd source csr) = csr_word (csr_match op) rd source csr
