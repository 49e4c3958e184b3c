-- What a line does once its operands are known.
use Rattle.std.specs.Prelude.{ℕ, ◌+◌, ◌*◌, ◌/◌, ◌%◌, ◌^◌, Bool, true, ◌&&◌, nat_le, List, [], ◌∷◌, ◌++◌}
use Rattle.std.specs.Int.{to_le_bytes, w16, w32}
use Rattle.hart_words.specs.Sign.{sign_extended}
use Rattle.hart_memory.specs.Memory.{zeros}
use Rattle.rv_encoding.specs.Fits.{can_be_spelled}
use Rattle.rv_encoding.specs.Words.{word_of}
use Rattle.rvc_encoding.specs.Fits.{fits_row}
use Rattle.rvc_encoding.specs.Halves.{half_of}
use Rattle.rv_encoding.specs.declared.instruction.Ins.TheVariants.{Lui as LuiIns, Auipc as AuipcIns, Jal as JalIns, Jalr as JalrIns, Branch as BranchIns, Load as LoadIns, Store as StoreIns, Imm as ImmIns, Reg as RegIns, Fence as FenceIns, Csr as CsrIns}
use Rattle.rv_encoding.specs.declared.operations.ImmOp.TheVariants.{Addi}
use Rattle.asm_fields.specs.Operands.{Operands, Number, Given, Absolute, Near, NearLabel}
use Rattle.asm_forms.specs.declared.kind.Kind.{Kind}
use Rattle.asm_forms.specs.declared.kind.Kind.TheVariants.{Org, Entry, Byte, Half, Word, Zero, Lui, Auipc, Jal, Jalr, Branch, Load, Store, Imm, Reg, Fence, Csr, Fixed, Short, Pair}
use Rattle.asm_forms.specs.declared.operation.Operation.{Operation}
use Rattle.asm_forms.specs.declared.operation.Operation.TheVariants.{Org as OrgOperation, Entry as EntryOperation, PutsByte, PutsHalf, PutsWord, PutsZeros, Long, Twice, Compressed}
use Rattle.asm_forms.specs.declared.extent.Extent.{Extent}
use Rattle.asm_forms.specs.declared.extent.Extent.TheVariants.{Org as OrgExtent, Entry as EntryExtent, Takes}

-- the upper 20 bits of a number, raised where the lower 12 count as negative
abbrev pub upper_part : ℕ → ℕ
upper_part n = (n + 2048) / 4096 % 2 ^ 20 * 4096

-- the lower 12 bits, signed
abbrev pub lower_part : ℕ → ℕ
lower_part n = sign_extended (n % 4096) 12

-- what a line does, with its operands and its number
unfoldable pub made : Kind → Operands → ℕ → Operation
made Org o n = OrgOperation o.amount
made Entry o n = EntryOperation n
made Byte o n = PutsByte (n % 2 ^ 8)
made Half o n = PutsHalf (n % 2 ^ 16)
made Word o n = PutsWord n
made Zero o n = PutsZeros o.amount
made Lui o n = Long (LuiIns o.rd n)
made Auipc o n = Long (AuipcIns o.rd n)
made Jal o n = Long (JalIns o.rd n)
made Jalr o n = Long (JalrIns o.rd o.rs1 n)
made (Branch op) o n = Long (BranchIns op o.rs1 o.rs2 n)
made (Load op) o n = Long (LoadIns op o.rd o.rs1 n)
made (Store op) o n = Long (StoreIns op o.rs1 o.rs2 n)
made (Imm op) o n = Long (ImmIns op o.rd o.rs1 n)
made (Reg op) o n = Long (RegIns op o.rd o.rs1 o.rs2)
made Fence o n = Long (FenceIns o.rs1 o.rs2)
made (Csr op) o n = Long (CsrIns op o.rd o.rs1 o.csr)
made (Fixed i) o n = Long i
made (Short row) o n = Compressed (record { row = row; a = o.rd; b = o.rs1; imm = n })
made Pair o n = Twice (LuiIns o.rd (upper_part n)) (ImmIns Addi o.rd o.rd (lower_part n))

-- each field holds its value
unfoldable pub operation_fits : Operation → Bool
operation_fits (OrgOperation p) = true
operation_fits (EntryOperation e) = true
operation_fits (PutsByte b) = true
operation_fits (PutsHalf h) = true
operation_fits (PutsWord w) = true
operation_fits (PutsZeros n) = nat_le 1 n && nat_le n 65536
operation_fits (Long i) = can_be_spelled i
operation_fits (Twice i j) = can_be_spelled i && can_be_spelled j
operation_fits (Compressed c) = fits_row c

-- what a line does to the place: that is clear before any label is known
unfoldable pub extent_of : Kind → ℕ → Extent
extent_of Org a = OrgExtent a
extent_of Entry a = EntryExtent
extent_of Byte a = Takes 1
extent_of Half a = Takes 2
extent_of Zero a = Takes a
extent_of (Short row) a = Takes 2
extent_of Pair a = Takes 8
extent_of _ a = Takes 4

-- how many bytes that is
abbrev pub taken : Extent → ℕ
taken (OrgExtent p) = 0
taken EntryExtent = 0
taken (Takes n) = n

-- the bytes that it puts, the lowest first
unfoldable pub bytes_of : Operation → List ℕ
bytes_of (OrgOperation p) = []
bytes_of (EntryOperation e) = []
bytes_of (PutsByte b) = b ∷ []
bytes_of (PutsHalf h) = to_le_bytes w16 h
bytes_of (PutsWord w) = to_le_bytes w32 w
bytes_of (PutsZeros n) = zeros n
bytes_of (Long i) = to_le_bytes w32 (word_of i)
bytes_of (Twice i j) = to_le_bytes w32 (word_of i) ++ to_le_bytes w32 (word_of j)
bytes_of (Compressed c) = to_le_bytes w16 (half_of c)

-- before the labels are known: a distance and an address of 0
abbrev pub first_value : Number → ℕ
first_value (Given n) = n
first_value (Absolute t) = 0
first_value (Near a) = 0
first_value (NearLabel t) = 0
