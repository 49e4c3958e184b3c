-- The table of directives, instructions and pseudo-instructions: the name, the operands, and what the line does (RISC-V
-- Unprivileged ISA, "RV32/64G Instruction Set Listings", "RVC Instruction Set Listings"; Assembly Programmer's Manual,
-- "pseudoinstructions"). What no operand gives is 0.
use Rattle.std.specs.Prelude.{ℕ, List, [], ◌∷◌, codes}
use Rattle.asm_text.specs.declared.token_kind.TokenKind.TheVariants.{Comma, Open, Close}
use Rattle.rv_encoding.specs.declared.instruction.Ins.TheVariants.{Ecall, Ebreak, Mret, Wfi, Fence as FenceIns, Jalr as JalrIns}
use Rattle.rv_encoding.specs.declared.operations.BranchOp.TheVariants.{Beq, Bne, Blt, Bge, Bltu, Bgeu}
use Rattle.rv_encoding.specs.declared.operations.LoadOp.TheVariants.{Lb, Lh, Lw, Lbu, Lhu}
use Rattle.rv_encoding.specs.declared.operations.StoreOp.TheVariants.{Sb, Sh, Sw}
use Rattle.rv_encoding.specs.declared.operations.ImmOp.TheVariants.{Addi, Slti, Sltiu, Xori, Ori, Andi, Slli, Srli, Srai}
use Rattle.rv_encoding.specs.declared.operations.RegOp.TheVariants.{Add, Sub, Sll, Slt, Sltu, Xor, Srl, Sra, Or, And, Mul, Mulh, Mulhsu, Mulhu, Div, Divu, Rem, Remu}
use Rattle.rv_encoding.specs.declared.operations.CsrOp.TheVariants.{Csrrw, Csrrs, Csrrc, Csrrwi, Csrrsi, Csrrci}
use Rattle.rvc_encoding.specs.declared.row.CRow.TheVariants.{Addi4spn as RowAddi4spn, Lw as RowLw, Sw as RowSw, Nop as RowNop, Addi as RowAddi, Jal as RowJal, Li as RowLi, Addi16sp as RowAddi16sp, Lui as RowLui, Srli as RowSrli, Srai as RowSrai, Andi as RowAndi, Sub as RowSub, Xor as RowXor, Or as RowOr, And as RowAnd, J as RowJ, Beqz as RowBeqz, Bnez as RowBnez, Slli as RowSlli, Lwsp as RowLwsp, Jr as RowJr, Mv as RowMv, Ebreak as RowEbreak, Jalr as RowJalr, Add as RowAdd, Swsp as RowSwsp}
use Rattle.asm_fields.specs.declared.field.Field.TheVariants.{Rd, Rs1, Rs2, Csr as CsrField, Source, Pred, Succ, Signed, Below, Digits, Upper, Amount, Word as AnyWord, Label, Address, Target}
use Rattle.asm_fields.specs.declared.item.Item.{Item}
use Rattle.asm_fields.specs.declared.item.Item.TheVariants.{Operand, Mark}
use Rattle.asm_forms.specs.declared.kind.Kind.{Kind}
use Rattle.asm_forms.specs.declared.kind.Kind.TheVariants.{Org, Entry, Byte, Half, Word, Zero, Lui, Auipc, Jal, Jalr, Branch, Load, Store, Imm, Reg, Fence, Csr, Fixed, Short, Pair}

-- a name, the operands that follow it, and what the line does
pub record Row : Type 0 where
  pub name : List ℕ
  pub items : List Item
  pub kind : Kind

abbrev pub form : List ℕ → List Item → Kind → Row
form name items kind = record { name = name; items = items; kind = kind }

abbrev pub amount : List Item
amount = Operand Amount ∷ []

abbrev pub address : List Item
address = Operand Address ∷ []

abbrev pub half_word : List Item
half_word = Operand (Digits 65536 4) ∷ []

abbrev pub byte : List Item
byte = Operand (Digits 256 2) ∷ []

abbrev pub upper : List Item
upper = Operand Rd ∷ Mark Comma ∷ Operand Upper ∷ []

abbrev pub rd_target : List Item
rd_target = Operand Rd ∷ Mark Comma ∷ Operand Target ∷ []

abbrev pub rd_memory : List Item
rd_memory = Operand Rd ∷ Mark Comma ∷ Operand (Signed 2048) ∷ Mark Open ∷ Operand Rs1 ∷ Mark Close ∷ []

abbrev pub branch : List Item
branch = Operand Rs1 ∷ Mark Comma ∷ Operand Rs2 ∷ Mark Comma ∷ Operand Target ∷ []

abbrev pub rs2_memory : List Item
rs2_memory = Operand Rs2 ∷ Mark Comma ∷ Operand (Signed 2048) ∷ Mark Open ∷ Operand Rs1 ∷ Mark Close ∷ []

abbrev pub rd_rs1_signed : List Item
rd_rs1_signed = Operand Rd ∷ Mark Comma ∷ Operand Rs1 ∷ Mark Comma ∷ Operand (Signed 2048) ∷ []

abbrev pub shift : List Item
shift = Operand Rd ∷ Mark Comma ∷ Operand Rs1 ∷ Mark Comma ∷ Operand (Below 32) ∷ []

abbrev pub rd_rs1_rs2 : List Item
rd_rs1_rs2 = Operand Rd ∷ Mark Comma ∷ Operand Rs1 ∷ Mark Comma ∷ Operand Rs2 ∷ []

abbrev pub nothing : List Item
nothing = []

abbrev pub sets : List Item
sets = Operand Pred ∷ Mark Comma ∷ Operand Succ ∷ []

abbrev pub rd_csr_rs1 : List Item
rd_csr_rs1 = Operand Rd ∷ Mark Comma ∷ Operand CsrField ∷ Mark Comma ∷ Operand Rs1 ∷ []

abbrev pub rd_csr_source : List Item
rd_csr_source = Operand Rd ∷ Mark Comma ∷ Operand CsrField ∷ Mark Comma ∷ Operand Source ∷ []

abbrev pub stack_sum : List Item
stack_sum = Operand Rd ∷ Mark Comma ∷ Operand Rs1 ∷ Mark Comma ∷ Operand (Below 1024) ∷ []

abbrev pub short_load : List Item
short_load = Operand Rd ∷ Mark Comma ∷ Operand (Below 128) ∷ Mark Open ∷ Operand Rs1 ∷ Mark Close ∷ []

abbrev pub short_store : List Item
short_store = Operand Rs1 ∷ Mark Comma ∷ Operand (Below 128) ∷ Mark Open ∷ Operand Rd ∷ Mark Close ∷ []

abbrev pub short_signed : List Item
short_signed = Operand (Signed 32) ∷ []

abbrev pub rd_short_signed : List Item
rd_short_signed = Operand Rd ∷ Mark Comma ∷ Operand (Signed 32) ∷ []

abbrev pub target : List Item
target = Operand Target ∷ []

abbrev pub stack_change : List Item
stack_change = Operand Rd ∷ Mark Comma ∷ Operand (Signed 512) ∷ []

abbrev pub short_shift : List Item
short_shift = Operand Rd ∷ Mark Comma ∷ Operand (Below 32) ∷ []

abbrev pub rd_rs1 : List Item
rd_rs1 = Operand Rd ∷ Mark Comma ∷ Operand Rs1 ∷ []

abbrev pub stack_load : List Item
stack_load = Operand Rd ∷ Mark Comma ∷ Operand (Below 256) ∷ Mark Open ∷ Operand Rs1 ∷ Mark Close ∷ []

abbrev pub rd : List Item
rd = Operand Rd ∷ []

abbrev pub stack_store : List Item
stack_store = Operand Rs1 ∷ Mark Comma ∷ Operand (Below 256) ∷ Mark Open ∷ Operand Rd ∷ Mark Close ∷ []

abbrev pub rd_signed : List Item
rd_signed = Operand Rd ∷ Mark Comma ∷ Operand (Signed 2048) ∷ []

abbrev pub rd_word : List Item
rd_word = Operand Rd ∷ Mark Comma ∷ Operand AnyWord ∷ []

abbrev pub rd_label : List Item
rd_label = Operand Rd ∷ Mark Comma ∷ Operand Label ∷ []

abbrev pub rs1 : List Item
rs1 = Operand Rs1 ∷ []

abbrev pub rs1_target : List Item
rs1_target = Operand Rs1 ∷ Mark Comma ∷ Operand Target ∷ []

abbrev pub rd_csr : List Item
rd_csr = Operand Rd ∷ Mark Comma ∷ Operand CsrField ∷ []

abbrev pub csr_rs1 : List Item
csr_rs1 = Operand CsrField ∷ Mark Comma ∷ Operand Rs1 ∷ []

abbrev pub csr_source : List Item
csr_source = Operand CsrField ∷ Mark Comma ∷ Operand Source ∷ []

-- of the rows of one name the first that a line fits counts
abbrev pub forms : List Row
forms =
    -- directives
    form (codes ".org") amount Org
    ∷ form (codes ".entry") address Entry
    ∷ form (codes ".word") address Word
    ∷ form (codes ".half") half_word Half
    ∷ form (codes ".byte") byte Byte
    ∷ form (codes ".zero") amount Zero
    -- RV32I
    ∷ form (codes "lui") upper Lui
    ∷ form (codes "auipc") upper Auipc
    ∷ form (codes "jal") rd_target Jal
    ∷ form (codes "jalr") rd_memory Jalr
    ∷ form (codes "beq") branch (Branch Beq)
    ∷ form (codes "bne") branch (Branch Bne)
    ∷ form (codes "blt") branch (Branch Blt)
    ∷ form (codes "bge") branch (Branch Bge)
    ∷ form (codes "bltu") branch (Branch Bltu)
    ∷ form (codes "bgeu") branch (Branch Bgeu)
    ∷ form (codes "lb") rd_memory (Load Lb)
    ∷ form (codes "lh") rd_memory (Load Lh)
    ∷ form (codes "lw") rd_memory (Load Lw)
    ∷ form (codes "lbu") rd_memory (Load Lbu)
    ∷ form (codes "lhu") rd_memory (Load Lhu)
    ∷ form (codes "sb") rs2_memory (Store Sb)
    ∷ form (codes "sh") rs2_memory (Store Sh)
    ∷ form (codes "sw") rs2_memory (Store Sw)
    ∷ form (codes "addi") rd_rs1_signed (Imm Addi)
    ∷ form (codes "slti") rd_rs1_signed (Imm Slti)
    ∷ form (codes "sltiu") rd_rs1_signed (Imm Sltiu)
    ∷ form (codes "xori") rd_rs1_signed (Imm Xori)
    ∷ form (codes "ori") rd_rs1_signed (Imm Ori)
    ∷ form (codes "andi") rd_rs1_signed (Imm Andi)
    ∷ form (codes "slli") shift (Imm Slli)
    ∷ form (codes "srli") shift (Imm Srli)
    ∷ form (codes "srai") shift (Imm Srai)
    ∷ form (codes "add") rd_rs1_rs2 (Reg Add)
    ∷ form (codes "sub") rd_rs1_rs2 (Reg Sub)
    ∷ form (codes "sll") rd_rs1_rs2 (Reg Sll)
    ∷ form (codes "slt") rd_rs1_rs2 (Reg Slt)
    ∷ form (codes "sltu") rd_rs1_rs2 (Reg Sltu)
    ∷ form (codes "xor") rd_rs1_rs2 (Reg Xor)
    ∷ form (codes "srl") rd_rs1_rs2 (Reg Srl)
    ∷ form (codes "sra") rd_rs1_rs2 (Reg Sra)
    ∷ form (codes "or") rd_rs1_rs2 (Reg Or)
    ∷ form (codes "and") rd_rs1_rs2 (Reg And)
    ∷ form (codes "fence") nothing (Fixed (FenceIns 15 15))
    ∷ form (codes "fence") sets Fence
    ∷ form (codes "ecall") nothing (Fixed Ecall)
    ∷ form (codes "ebreak") nothing (Fixed Ebreak)
    -- M
    ∷ form (codes "mul") rd_rs1_rs2 (Reg Mul)
    ∷ form (codes "mulh") rd_rs1_rs2 (Reg Mulh)
    ∷ form (codes "mulhsu") rd_rs1_rs2 (Reg Mulhsu)
    ∷ form (codes "mulhu") rd_rs1_rs2 (Reg Mulhu)
    ∷ form (codes "div") rd_rs1_rs2 (Reg Div)
    ∷ form (codes "divu") rd_rs1_rs2 (Reg Divu)
    ∷ form (codes "rem") rd_rs1_rs2 (Reg Rem)
    ∷ form (codes "remu") rd_rs1_rs2 (Reg Remu)
    -- the privileged instructions and Zicsr
    ∷ form (codes "mret") nothing (Fixed Mret)
    ∷ form (codes "wfi") nothing (Fixed Wfi)
    ∷ form (codes "csrrw") rd_csr_rs1 (Csr Csrrw)
    ∷ form (codes "csrrs") rd_csr_rs1 (Csr Csrrs)
    ∷ form (codes "csrrc") rd_csr_rs1 (Csr Csrrc)
    ∷ form (codes "csrrwi") rd_csr_source (Csr Csrrwi)
    ∷ form (codes "csrrsi") rd_csr_source (Csr Csrrsi)
    ∷ form (codes "csrrci") rd_csr_source (Csr Csrrci)
    -- C
    ∷ form (codes "c.addi4spn") stack_sum (Short RowAddi4spn)
    ∷ form (codes "c.lw") short_load (Short RowLw)
    ∷ form (codes "c.sw") short_store (Short RowSw)
    ∷ form (codes "c.nop") nothing (Short RowNop)
    ∷ form (codes "c.nop") short_signed (Short RowNop)
    ∷ form (codes "c.addi") rd_short_signed (Short RowAddi)
    ∷ form (codes "c.jal") target (Short RowJal)
    ∷ form (codes "c.li") rd_short_signed (Short RowLi)
    ∷ form (codes "c.addi16sp") stack_change (Short RowAddi16sp)
    ∷ form (codes "c.lui") upper (Short RowLui)
    ∷ form (codes "c.srli") short_shift (Short RowSrli)
    ∷ form (codes "c.srai") short_shift (Short RowSrai)
    ∷ form (codes "c.andi") rd_short_signed (Short RowAndi)
    ∷ form (codes "c.sub") rd_rs1 (Short RowSub)
    ∷ form (codes "c.xor") rd_rs1 (Short RowXor)
    ∷ form (codes "c.or") rd_rs1 (Short RowOr)
    ∷ form (codes "c.and") rd_rs1 (Short RowAnd)
    ∷ form (codes "c.j") target (Short RowJ)
    ∷ form (codes "c.beqz") rd_target (Short RowBeqz)
    ∷ form (codes "c.bnez") rd_target (Short RowBnez)
    ∷ form (codes "c.slli") short_shift (Short RowSlli)
    ∷ form (codes "c.lwsp") stack_load (Short RowLwsp)
    ∷ form (codes "c.jr") rd (Short RowJr)
    ∷ form (codes "c.mv") rd_rs1 (Short RowMv)
    ∷ form (codes "c.ebreak") nothing (Short RowEbreak)
    ∷ form (codes "c.jalr") rd (Short RowJalr)
    ∷ form (codes "c.add") rd_rs1 (Short RowAdd)
    ∷ form (codes "c.swsp") stack_store (Short RowSwsp)
    -- pseudo-instructions
    ∷ form (codes "nop") nothing (Imm Addi)
    ∷ form (codes "mv") rd_rs1 (Imm Addi)
    ∷ form (codes "li") rd_signed (Imm Addi)
    ∷ form (codes "li") rd_word Pair
    ∷ form (codes "la") rd_label Pair
    ∷ form (codes "j") target Jal
    ∷ form (codes "jr") rs1 Jalr
    ∷ form (codes "ret") nothing (Fixed (JalrIns 0 1 0))
    ∷ form (codes "beqz") rs1_target (Branch Beq)
    ∷ form (codes "bnez") rs1_target (Branch Bne)
    ∷ form (codes "csrr") rd_csr (Csr Csrrs)
    ∷ form (codes "csrw") csr_rs1 (Csr Csrrw)
    ∷ form (codes "csrsi") csr_source (Csr Csrrsi)
    ∷ form (codes "csrci") csr_source (Csr Csrrci)
    ∷ []
