-- Instructions in one flat form, and what such a form stands for.
use Rattle.std.specs.Prelude.{ℕ, ◌<◌, ◌%◌, ◌^◌, Option, Some, None}
use Rattle.rv_encoding.specs.declared.instruction.Ins.{Ins}
use Rattle.rv_encoding.specs.declared.instruction.Ins.TheVariants.{Lui, Auipc, Jal, Jalr, Branch, Load, Store, Imm, Reg, Fence, Ecall, Ebreak, Mret, Wfi, Csr}
use Rattle.rv_encoding.specs.declared.operations.BranchOp.{BranchOp}
use Rattle.rv_encoding.specs.declared.operations.BranchOp.TheVariants.{Beq, Bne, Blt, Bge, Bltu, Bgeu}
use Rattle.rv_encoding.specs.declared.operations.LoadOp.{LoadOp}
use Rattle.rv_encoding.specs.declared.operations.LoadOp.TheVariants.{Lb, Lh, Lw, Lbu, Lhu}
use Rattle.rv_encoding.specs.declared.operations.StoreOp.{StoreOp}
use Rattle.rv_encoding.specs.declared.operations.StoreOp.TheVariants.{Sb, Sh, Sw}
use Rattle.rv_encoding.specs.declared.operations.ImmOp.{ImmOp}
use Rattle.rv_encoding.specs.declared.operations.ImmOp.TheVariants.{Addi, Slti, Sltiu, Xori, Ori, Andi, Slli, Srli, Srai}
use Rattle.rv_encoding.specs.declared.operations.RegOp.{RegOp}
use Rattle.rv_encoding.specs.declared.operations.RegOp.TheVariants.{Add, Sub, Sll, Slt, Sltu, Xor, Srl, Sra, Or, And, Mul, Mulh, Mulhsu, Mulhu, Div, Divu, Rem, Remu}
use Rattle.rv_encoding.specs.declared.operations.CsrOp.{CsrOp}
use Rattle.rv_encoding.specs.declared.operations.CsrOp.TheVariants.{Csrrw, Csrrs, Csrrc, Csrrwi, Csrrsi, Csrrci}
use Rattle.hart_exec.specs.declared.operation.Kind.{Kind}
use Rattle.hart_exec.specs.declared.operation.Kind.TheVariants.{Unknown as UnknownKind, Lui as LuiKind, Auipc as AuipcKind, Jal as JalKind, Jalr as JalrKind, Beq as BeqKind, Bne as BneKind, Blt as BltKind, Bge as BgeKind, Bltu as BltuKind, Bgeu as BgeuKind, Lb as LbKind, Lh as LhKind, Lw as LwKind, Lbu as LbuKind, Lhu as LhuKind, Sb as SbKind, Sh as ShKind, Sw as SwKind, Addi as AddiKind, Slti as SltiKind, Sltiu as SltiuKind, Xori as XoriKind, Ori as OriKind, Andi as AndiKind, Slli as SlliKind, Srli as SrliKind, Srai as SraiKind, Add as AddKind, Sub as SubKind, Sll as SllKind, Slt as SltKind, Sltu as SltuKind, Xor as XorKind, Srl as SrlKind, Sra as SraKind, Or as OrKind, And as AndKind, Mul as MulKind, Mulh as MulhKind, Mulhsu as MulhsuKind, Mulhu as MulhuKind, Div as DivKind, Divu as DivuKind, Rem as RemKind, Remu as RemuKind, Fence as FenceKind, Ecall as EcallKind, Ebreak as EbreakKind, Mret as MretKind, Wfi as WfiKind, Csrrw as CsrrwKind, Csrrs as CsrrsKind, Csrrc as CsrrcKind, Csrrwi as CsrrwiKind, Csrrsi as CsrrsiKind, Csrrci as CsrrciKind}
use Rattle.hart_exec.specs.declared.operation.Operation.{Operation}

-- the instruction of a kind with these operands: none where it isn't known. A fence has its sets in place of registers, and one
-- on a control register the register's number in place of an immediate.
abbrev pub instruction_by : Kind → ℕ → ℕ → ℕ → ℕ → Option Ins
instruction_by UnknownKind rd rs1 rs2 imm = None
instruction_by LuiKind rd rs1 rs2 imm = Some (Lui rd imm)
instruction_by AuipcKind rd rs1 rs2 imm = Some (Auipc rd imm)
instruction_by JalKind rd rs1 rs2 imm = Some (Jal rd imm)
instruction_by JalrKind rd rs1 rs2 imm = Some (Jalr rd rs1 imm)
instruction_by BeqKind rd rs1 rs2 imm = Some (Branch Beq rs1 rs2 imm)
instruction_by BneKind rd rs1 rs2 imm = Some (Branch Bne rs1 rs2 imm)
instruction_by BltKind rd rs1 rs2 imm = Some (Branch Blt rs1 rs2 imm)
instruction_by BgeKind rd rs1 rs2 imm = Some (Branch Bge rs1 rs2 imm)
instruction_by BltuKind rd rs1 rs2 imm = Some (Branch Bltu rs1 rs2 imm)
instruction_by BgeuKind rd rs1 rs2 imm = Some (Branch Bgeu rs1 rs2 imm)
instruction_by LbKind rd rs1 rs2 imm = Some (Load Lb rd rs1 imm)
instruction_by LhKind rd rs1 rs2 imm = Some (Load Lh rd rs1 imm)
instruction_by LwKind rd rs1 rs2 imm = Some (Load Lw rd rs1 imm)
instruction_by LbuKind rd rs1 rs2 imm = Some (Load Lbu rd rs1 imm)
instruction_by LhuKind rd rs1 rs2 imm = Some (Load Lhu rd rs1 imm)
instruction_by SbKind rd rs1 rs2 imm = Some (Store Sb rs1 rs2 imm)
instruction_by ShKind rd rs1 rs2 imm = Some (Store Sh rs1 rs2 imm)
instruction_by SwKind rd rs1 rs2 imm = Some (Store Sw rs1 rs2 imm)
instruction_by AddiKind rd rs1 rs2 imm = Some (Imm Addi rd rs1 imm)
instruction_by SltiKind rd rs1 rs2 imm = Some (Imm Slti rd rs1 imm)
instruction_by SltiuKind rd rs1 rs2 imm = Some (Imm Sltiu rd rs1 imm)
instruction_by XoriKind rd rs1 rs2 imm = Some (Imm Xori rd rs1 imm)
instruction_by OriKind rd rs1 rs2 imm = Some (Imm Ori rd rs1 imm)
instruction_by AndiKind rd rs1 rs2 imm = Some (Imm Andi rd rs1 imm)
instruction_by SlliKind rd rs1 rs2 imm = Some (Imm Slli rd rs1 imm)
instruction_by SrliKind rd rs1 rs2 imm = Some (Imm Srli rd rs1 imm)
instruction_by SraiKind rd rs1 rs2 imm = Some (Imm Srai rd rs1 imm)
instruction_by AddKind rd rs1 rs2 imm = Some (Reg Add rd rs1 rs2)
instruction_by SubKind rd rs1 rs2 imm = Some (Reg Sub rd rs1 rs2)
instruction_by SllKind rd rs1 rs2 imm = Some (Reg Sll rd rs1 rs2)
instruction_by SltKind rd rs1 rs2 imm = Some (Reg Slt rd rs1 rs2)
instruction_by SltuKind rd rs1 rs2 imm = Some (Reg Sltu rd rs1 rs2)
instruction_by XorKind rd rs1 rs2 imm = Some (Reg Xor rd rs1 rs2)
instruction_by SrlKind rd rs1 rs2 imm = Some (Reg Srl rd rs1 rs2)
instruction_by SraKind rd rs1 rs2 imm = Some (Reg Sra rd rs1 rs2)
instruction_by OrKind rd rs1 rs2 imm = Some (Reg Or rd rs1 rs2)
instruction_by AndKind rd rs1 rs2 imm = Some (Reg And rd rs1 rs2)
instruction_by MulKind rd rs1 rs2 imm = Some (Reg Mul rd rs1 rs2)
instruction_by MulhKind rd rs1 rs2 imm = Some (Reg Mulh rd rs1 rs2)
instruction_by MulhsuKind rd rs1 rs2 imm = Some (Reg Mulhsu rd rs1 rs2)
instruction_by MulhuKind rd rs1 rs2 imm = Some (Reg Mulhu rd rs1 rs2)
instruction_by DivKind rd rs1 rs2 imm = Some (Reg Div rd rs1 rs2)
instruction_by DivuKind rd rs1 rs2 imm = Some (Reg Divu rd rs1 rs2)
instruction_by RemKind rd rs1 rs2 imm = Some (Reg Rem rd rs1 rs2)
instruction_by RemuKind rd rs1 rs2 imm = Some (Reg Remu rd rs1 rs2)
instruction_by FenceKind rd rs1 rs2 imm = Some (Fence rs1 rs2)
instruction_by EcallKind rd rs1 rs2 imm = Some Ecall
instruction_by EbreakKind rd rs1 rs2 imm = Some Ebreak
instruction_by MretKind rd rs1 rs2 imm = Some Mret
instruction_by WfiKind rd rs1 rs2 imm = Some Wfi
instruction_by CsrrwKind rd rs1 rs2 imm = Some (Csr Csrrw rd rs1 (imm % 2 ^ 16))
instruction_by CsrrsKind rd rs1 rs2 imm = Some (Csr Csrrs rd rs1 (imm % 2 ^ 16))
instruction_by CsrrcKind rd rs1 rs2 imm = Some (Csr Csrrc rd rs1 (imm % 2 ^ 16))
instruction_by CsrrwiKind rd rs1 rs2 imm = Some (Csr Csrrwi rd rs1 (imm % 2 ^ 16))
instruction_by CsrrsiKind rd rs1 rs2 imm = Some (Csr Csrrsi rd rs1 (imm % 2 ^ 16))
instruction_by CsrrciKind rd rs1 rs2 imm = Some (Csr Csrrci rd rs1 (imm % 2 ^ 16))

-- the instruction that an operation stands for
abbrev pub instruction : Operation → Option Ins
instruction op = instruction_by op.kind op.rd op.rs1 op.rs2 op.imm

-- what isn't known
abbrev pub unknown_operation : Operation
unknown_operation = record { kind = UnknownKind; rd = 0; rs1 = 0; rs2 = 0; imm = 0 }

abbrev pub kind_of_branch : BranchOp → Kind
kind_of_branch Beq = BeqKind
kind_of_branch Bne = BneKind
kind_of_branch Blt = BltKind
kind_of_branch Bge = BgeKind
kind_of_branch Bltu = BltuKind
kind_of_branch Bgeu = BgeuKind

abbrev pub kind_of_load : LoadOp → Kind
kind_of_load Lb = LbKind
kind_of_load Lh = LhKind
kind_of_load Lw = LwKind
kind_of_load Lbu = LbuKind
kind_of_load Lhu = LhuKind

abbrev pub kind_of_store : StoreOp → Kind
kind_of_store Sb = SbKind
kind_of_store Sh = ShKind
kind_of_store Sw = SwKind

abbrev pub kind_of_immediate : ImmOp → Kind
kind_of_immediate Addi = AddiKind
kind_of_immediate Slti = SltiKind
kind_of_immediate Sltiu = SltiuKind
kind_of_immediate Xori = XoriKind
kind_of_immediate Ori = OriKind
kind_of_immediate Andi = AndiKind
kind_of_immediate Slli = SlliKind
kind_of_immediate Srli = SrliKind
kind_of_immediate Srai = SraiKind

abbrev pub kind_of_register : RegOp → Kind
kind_of_register Add = AddKind
kind_of_register Sub = SubKind
kind_of_register Sll = SllKind
kind_of_register Slt = SltKind
kind_of_register Sltu = SltuKind
kind_of_register Xor = XorKind
kind_of_register Srl = SrlKind
kind_of_register Sra = SraKind
kind_of_register Or = OrKind
kind_of_register And = AndKind
kind_of_register Mul = MulKind
kind_of_register Mulh = MulhKind
kind_of_register Mulhsu = MulhsuKind
kind_of_register Mulhu = MulhuKind
kind_of_register Div = DivKind
kind_of_register Divu = DivuKind
kind_of_register Rem = RemKind
kind_of_register Remu = RemuKind

abbrev pub kind_of_csr : CsrOp → Kind
kind_of_csr Csrrw = CsrrwKind
kind_of_csr Csrrs = CsrrsKind
kind_of_csr Csrrc = CsrrcKind
kind_of_csr Csrrwi = CsrrwiKind
kind_of_csr Csrrsi = CsrrsiKind
kind_of_csr Csrrci = CsrrciKind

-- an instruction in the flat form
abbrev pub operation : Ins → Operation
operation (Lui rd imm) = record { kind = LuiKind; rd = rd; rs1 = 0; rs2 = 0; imm = imm }
operation (Auipc rd imm) = record { kind = AuipcKind; rd = rd; rs1 = 0; rs2 = 0; imm = imm }
operation (Jal rd offset) = record { kind = JalKind; rd = rd; rs1 = 0; rs2 = 0; imm = offset }
operation (Jalr rd rs1 imm) = record { kind = JalrKind; rd = rd; rs1 = rs1; rs2 = 0; imm = imm }
operation (Branch op rs1 rs2 offset) = record { kind = (kind_of_branch op); rd = 0; rs1 = rs1; rs2 = rs2; imm = offset }
operation (Load op rd rs1 imm) = record { kind = (kind_of_load op); rd = rd; rs1 = rs1; rs2 = 0; imm = imm }
operation (Store op rs1 rs2 imm) = record { kind = (kind_of_store op); rd = 0; rs1 = rs1; rs2 = rs2; imm = imm }
operation (Imm op rd rs1 imm) = record { kind = (kind_of_immediate op); rd = rd; rs1 = rs1; rs2 = 0; imm = imm }
operation (Reg op rd rs1 rs2) = record { kind = (kind_of_register op); rd = rd; rs1 = rs1; rs2 = rs2; imm = 0 }
operation (Fence pred succ) = record { kind = FenceKind; rd = 0; rs1 = pred; rs2 = succ; imm = 0 }
operation Ecall = record { kind = EcallKind; rd = 0; rs1 = 0; rs2 = 0; imm = 0 }
operation Ebreak = record { kind = EbreakKind; rd = 0; rs1 = 0; rs2 = 0; imm = 0 }
operation Mret = record { kind = MretKind; rd = 0; rs1 = 0; rs2 = 0; imm = 0 }
operation Wfi = record { kind = WfiKind; rd = 0; rs1 = 0; rs2 = 0; imm = 0 }
operation (Csr op rd source csr) = record { kind = (kind_of_csr op); rd = rd; rs1 = source; rs2 = 0; imm = csr }

-- the operands that are read are registers
pub record NamesRegisters (op : Operation) : Type 0 where
  pub first : op.rs1 < 32
  pub second : op.rs2 < 32
