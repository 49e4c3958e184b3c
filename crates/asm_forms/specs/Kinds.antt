-- When two kinds are the same.
use Rattle.std.specs.Prelude.{◌==◌, Bool, true, false, ◌&&◌}
use Rattle.rv_encoding.specs.Words.{branch_match, load_match, store_match, imm_match, reg_match, csr_match}
use Rattle.rv_encoding.specs.declared.instruction.Ins.{Ins}
use Rattle.rv_encoding.specs.declared.instruction.Ins.TheVariants.{Lui as LuiIns, Auipc as AuipcIns, Jal as JalIns, Jalr as JalrIns, Branch as BranchIns, Load as LoadIns, Store as StoreIns, Imm as ImmIns, Reg as RegIns, Fence as FenceIns, Ecall, Ebreak, Mret, Wfi, Csr as CsrIns}
use Rattle.rvc_encoding.specs.Rows.{row_of}
use Rattle.rvc_encoding.specs.declared.row.CRow.{CRow}
use Rattle.asm_forms.specs.declared.kind.Kind.{Kind}
use Rattle.asm_forms.specs.declared.kind.Kind.TheVariants.{Org, Entry, Byte, Half, Word, Zero, Lui, Auipc, Jal, Jalr, Branch, Load, Store, Imm, Reg, Fence, Csr, Fixed, Short, Pair}

-- the same instruction with the same fields, where operations are told apart by their matches
abbrev pub is_same_instruction : Ins → Ins → Bool
is_same_instruction (LuiIns d i) (LuiIns e j) = (d == e) && (i == j)
is_same_instruction (AuipcIns d i) (AuipcIns e j) = (d == e) && (i == j)
is_same_instruction (JalIns d i) (JalIns e j) = (d == e) && (i == j)
is_same_instruction (JalrIns d a i) (JalrIns e b j) = (d == e) && ((a == b) && (i == j))
is_same_instruction (BranchIns m a b i) (BranchIns n c d j) = (branch_match m == branch_match n) && ((a == c) && ((b == d) && (i == j)))
is_same_instruction (LoadIns m d a i) (LoadIns n e b j) = (load_match m == load_match n) && ((d == e) && ((a == b) && (i == j)))
is_same_instruction (StoreIns m a b i) (StoreIns n c d j) = (store_match m == store_match n) && ((a == c) && ((b == d) && (i == j)))
is_same_instruction (ImmIns m d a i) (ImmIns n e b j) = (imm_match m == imm_match n) && ((d == e) && ((a == b) && (i == j)))
is_same_instruction (RegIns m d a b) (RegIns n e f g) = (reg_match m == reg_match n) && ((d == e) && ((a == f) && (b == g)))
is_same_instruction (FenceIns p s) (FenceIns q t) = (p == q) && (s == t)
is_same_instruction Ecall Ecall = true
is_same_instruction Ebreak Ebreak = true
is_same_instruction Mret Mret = true
is_same_instruction Wfi Wfi = true
is_same_instruction (CsrIns m d a c) (CsrIns n e b k) = (csr_match m == csr_match n) && ((d == e) && ((a == b) && (c == k)))
is_same_instruction _ _ = false

-- rows of the compressed table are told apart by their masks and matches
abbrev pub is_same_row : CRow → CRow → Bool
is_same_row r s = ((row_of r).mask == (row_of s).mask) && ((row_of r).match == (row_of s).match)

-- the same kind
abbrev pub is_same_kind : Kind → Kind → Bool
is_same_kind Org Org = true
is_same_kind Entry Entry = true
is_same_kind Byte Byte = true
is_same_kind Half Half = true
is_same_kind Word Word = true
is_same_kind Zero Zero = true
is_same_kind Lui Lui = true
is_same_kind Auipc Auipc = true
is_same_kind Jal Jal = true
is_same_kind Jalr Jalr = true
is_same_kind (Branch m) (Branch n) = branch_match m == branch_match n
is_same_kind (Load m) (Load n) = load_match m == load_match n
is_same_kind (Store m) (Store n) = store_match m == store_match n
is_same_kind (Imm m) (Imm n) = imm_match m == imm_match n
is_same_kind (Reg m) (Reg n) = reg_match m == reg_match n
is_same_kind Fence Fence = true
is_same_kind (Csr m) (Csr n) = csr_match m == csr_match n
is_same_kind (Fixed i) (Fixed j) = is_same_instruction i j
is_same_kind (Short r) (Short s) = is_same_row r s
is_same_kind Pair Pair = true
is_same_kind _ _ = false
