-- The program's equality of kinds is that of the definitions.
use Rattle.std.proofs.Common.{◌≡◌, refl, ap}
use Rattle.std.specs.Prelude.{◌==◌, ◌&&◌}
use Rattle.rv_encoding.specs.Words.{branch_match, load_match, store_match, imm_match, reg_match, csr_match}
use Rattle.rv_encoding.specs.declared.operations.BranchOp.{BranchOp}
use Rattle.rv_encoding.specs.declared.operations.BranchOp.TheVariants.{Beq}
use Rattle.rv_encoding.specs.declared.operations.LoadOp.{LoadOp}
use Rattle.rv_encoding.specs.declared.operations.LoadOp.TheVariants.{Lb}
use Rattle.rv_encoding.specs.declared.operations.StoreOp.{StoreOp}
use Rattle.rv_encoding.specs.declared.operations.StoreOp.TheVariants.{Sb}
use Rattle.rv_encoding.specs.declared.operations.ImmOp.{ImmOp}
use Rattle.rv_encoding.specs.declared.operations.ImmOp.TheVariants.{Addi}
use Rattle.rv_encoding.specs.declared.operations.RegOp.{RegOp}
use Rattle.rv_encoding.specs.declared.operations.RegOp.TheVariants.{Add}
use Rattle.rv_encoding.specs.declared.operations.CsrOp.{CsrOp}
use Rattle.rv_encoding.specs.declared.operations.CsrOp.TheVariants.{Csrrw}
use Rattle.rv_encoding.specs.declared.instruction.Ins.{Ins}
use Rattle.rv_encoding.specs.declared.instruction.Ins.TheVariants.{Lui as LuiIns, Auipc as AuipcIns, Jal as JalIns, Jalr as JalrIns, Branch as BranchIns, Load as LoadIns, Store as StoreIns, Imm as ImmIns, Reg as RegIns, Fence as FenceIns, Ecall, Ebreak, Mret, Wfi, Csr as CsrIns}
use Rattle.rvc_encoding.specs.declared.row.CRow.{CRow}
use Rattle.rvc_encoding.specs.declared.row.CRow.TheVariants.{Addi4spn as CAddi4spn}
use Rattle.rv_encoding.specs.contracts.operations.BranchOpPartialEq.TheImpl as branches
use Rattle.rv_encoding.specs.contracts.operations.LoadOpPartialEq.TheImpl as loads
use Rattle.rv_encoding.specs.contracts.operations.StoreOpPartialEq.TheImpl as stores
use Rattle.rv_encoding.specs.contracts.operations.ImmOpPartialEq.TheImpl as imms
use Rattle.rv_encoding.specs.contracts.operations.RegOpPartialEq.TheImpl as regs
use Rattle.rv_encoding.specs.contracts.operations.CsrOpPartialEq.TheImpl as accesses
use Rattle.rv_encoding.specs.contracts.instruction.InsPartialEq.TheImpl as instructions
use Rattle.rvc_encoding.specs.contracts.row.CRowPartialEq.TheImpl as rows
use Rattle.asm_forms.specs.contracts.kind.KindPartialEq.TheImpl as kinds
use Rattle.asm_forms.specs.Kinds.{is_same_instruction, is_same_row, is_same_kind}
use Rattle.asm_forms.specs.declared.kind.Kind.{Kind}
use Rattle.asm_forms.specs.declared.kind.Kind.TheVariants.{Org, Entry, Byte, Half, Word, Zero, Lui, Auipc, Jal, Jalr, Branch, Load, Store, Imm, Reg, Fence, Csr, Fixed, Short, Pair}

-- The first two lines of a lemma make its cases those of both operations, and the last is one case for each pair.
same_branch : (a b : BranchOp) → branches.ghosts.eq a b ≡ (branch_match a == branch_match b)
same_branch Beq Beq = refl
same_branch _ Beq = refl
same_branch _ _ = refl

same_load : (a b : LoadOp) → loads.ghosts.eq a b ≡ (load_match a == load_match b)
same_load Lb Lb = refl
same_load _ Lb = refl
same_load _ _ = refl

same_store : (a b : StoreOp) → stores.ghosts.eq a b ≡ (store_match a == store_match b)
same_store Sb Sb = refl
same_store _ Sb = refl
same_store _ _ = refl

same_imm : (a b : ImmOp) → imms.ghosts.eq a b ≡ (imm_match a == imm_match b)
same_imm Addi Addi = refl
same_imm _ Addi = refl
same_imm _ _ = refl

same_reg : (a b : RegOp) → regs.ghosts.eq a b ≡ (reg_match a == reg_match b)
same_reg Add Add = refl
same_reg _ Add = refl
same_reg _ _ = refl

same_csr : (a b : CsrOp) → accesses.ghosts.eq a b ≡ (csr_match a == csr_match b)
same_csr Csrrw Csrrw = refl
same_csr _ Csrrw = refl
same_csr _ _ = refl

same_row : (a b : CRow) → rows.ghosts.eq a b ≡ is_same_row a b
same_row CAddi4spn CAddi4spn = refl
same_row _ CAddi4spn = refl
same_row _ _ = refl

same_instruction : (a b : Ins) → instructions.ghosts.eq a b ≡ is_same_instruction a b
same_instruction (LuiIns d i) (LuiIns e j) = refl
same_instruction (AuipcIns d i) (AuipcIns e j) = refl
same_instruction (JalIns d i) (JalIns e j) = refl
same_instruction (JalrIns d a i) (JalrIns e b j) = refl
same_instruction (BranchIns m a b i) (BranchIns n c d j) = ap (λ t. t && ((a == c) && ((b == d) && (i == j)))) (same_branch m n)
same_instruction (LoadIns m d a i) (LoadIns n e b j) = ap (λ t. t && ((d == e) && ((a == b) && (i == j)))) (same_load m n)
same_instruction (StoreIns m a b i) (StoreIns n c d j) = ap (λ t. t && ((a == c) && ((b == d) && (i == j)))) (same_store m n)
same_instruction (ImmIns m d a i) (ImmIns n e b j) = ap (λ t. t && ((d == e) && ((a == b) && (i == j)))) (same_imm m n)
same_instruction (RegIns m d a b) (RegIns n e f g) = ap (λ t. t && ((d == e) && ((a == f) && (b == g)))) (same_reg m n)
same_instruction (FenceIns p s) (FenceIns q t) = refl
same_instruction Ecall Ecall = refl
same_instruction Ebreak Ebreak = refl
same_instruction Mret Mret = refl
same_instruction Wfi Wfi = refl
same_instruction (CsrIns m d a c) (CsrIns n e b k) = ap (λ t. t && ((d == e) && ((a == b) && (c == k)))) (same_csr m n)
same_instruction _ _ = refl

pub same_kind : (a b : Kind) → kinds.ghosts.eq a b ≡ is_same_kind a b
same_kind Org Org = refl
same_kind Entry Entry = refl
same_kind Byte Byte = refl
same_kind Half Half = refl
same_kind Word Word = refl
same_kind Zero Zero = refl
same_kind Lui Lui = refl
same_kind Auipc Auipc = refl
same_kind Jal Jal = refl
same_kind Jalr Jalr = refl
same_kind (Branch m) (Branch n) = same_branch m n
same_kind (Load m) (Load n) = same_load m n
same_kind (Store m) (Store n) = same_store m n
same_kind (Imm m) (Imm n) = same_imm m n
same_kind (Reg m) (Reg n) = same_reg m n
same_kind Fence Fence = refl
same_kind (Csr m) (Csr n) = same_csr m n
same_kind (Fixed i) (Fixed j) = same_instruction i j
same_kind (Short r) (Short s) = same_row r s
same_kind Pair Pair = refl
same_kind _ _ = refl
