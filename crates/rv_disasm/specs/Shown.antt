-- What a line of a listing shows: its row of the assembler's table, and the values of its operands.
use Rattle.std.specs.Prelude.{ℕ, zero, suc, Bool, true, false, ◌&&◌, cond, List, [], ◌∷◌, Option, Some, None, unwrap_or}
use Rattle.rv_encoding.specs.declared.instruction.Ins.{Ins}
use Rattle.rv_encoding.specs.declared.instruction.Ins.TheVariants.{Lui, Auipc, Jal, Jalr, Branch, Load, Store, Imm, Reg, Fence, Ecall, Ebreak, Mret, Wfi, Csr}
use Rattle.asm_forms.specs.Forms.{Row, form, forms}
use Rattle.asm_forms.specs.Kinds.{is_same_kind}
use Rattle.asm_fields.specs.declared.item.Item.{Item}
use Rattle.asm_forms.specs.declared.kind.Kind.{Kind}
use Rattle.asm_forms.specs.declared.kind.Kind.TheVariants.{Org as OrgKind, Entry as EntryKind, Byte as ByteKind, Half as HalfKind, Word as WordKind, Lui as LuiKind, Auipc as AuipcKind, Jal as JalKind, Jalr as JalrKind, Branch as BranchKind, Load as LoadKind, Store as StoreKind, Imm as ImmKind, Reg as RegKind, Fence as FenceKind, Csr as CsrKind, Fixed as FixedKind, Short as ShortKind}
use Rattle.rv_disasm.specs.declared.statement.Statement.{Statement}
use Rattle.rv_disasm.specs.declared.statement.Statement.TheVariants.{Entry, Org, Byte, Half, Word, Long, Short}
use Rattle.rv_disasm.specs.declared.values.Values.{Values}

-- ---- kinds and values

abbrev pub long_kind : Ins → Kind
long_kind (Lui rd imm) = LuiKind
long_kind (Auipc rd imm) = AuipcKind
long_kind (Jal rd offset) = JalKind
long_kind (Jalr rd rs1 imm) = JalrKind
long_kind (Branch op rs1 rs2 offset) = BranchKind op
long_kind (Load op rd rs1 imm) = LoadKind op
long_kind (Store op rs1 rs2 imm) = StoreKind op
long_kind (Imm op rd rs1 imm) = ImmKind op
long_kind (Reg op rd rs1 rs2) = RegKind op
long_kind (Fence pred succ) = FenceKind
long_kind Ecall = FixedKind Ecall
long_kind Ebreak = FixedKind Ebreak
long_kind Mret = FixedKind Mret
long_kind Wfi = FixedKind Wfi
long_kind (Csr op rd source csr) = CsrKind op

-- what the assembler calls what the line does
abbrev pub kind_of : Statement → Kind
kind_of (Entry e) = EntryKind
kind_of (Org p) = OrgKind
kind_of (Byte b) = ByteKind
kind_of (Half h) = HalfKind
kind_of (Word w) = WordKind
kind_of (Long i) = long_kind i
kind_of (Short c) = ShortKind c.row

abbrev pub values : ℕ → ℕ → ℕ → ℕ → ℕ → Values
values rd rs1 rs2 csr number = record { rd = rd; rs1 = rs1; rs2 = rs2; csr = csr; number = number }

abbrev pub long_values : Ins → Values
long_values (Lui rd imm) = values rd 0 0 0 imm
long_values (Auipc rd imm) = values rd 0 0 0 imm
long_values (Jal rd offset) = values rd 0 0 0 offset
long_values (Jalr rd rs1 imm) = values rd rs1 0 0 imm
long_values (Branch op rs1 rs2 offset) = values 0 rs1 rs2 0 offset
long_values (Load op rd rs1 imm) = values rd rs1 0 0 imm
long_values (Store op rs1 rs2 imm) = values 0 rs1 rs2 0 imm
long_values (Imm op rd rs1 imm) = values rd rs1 0 0 imm
long_values (Reg op rd rs1 rs2) = values rd rs1 rs2 0 0
long_values (Fence pred succ) = values 0 pred succ 0 0
long_values Ecall = values 0 0 0 0 0
long_values Ebreak = values 0 0 0 0 0
long_values Mret = values 0 0 0 0 0
long_values Wfi = values 0 0 0 0 0
long_values (Csr op rd source csr) = values rd source 0 csr 0

-- each field by the place that the assembler reads it into
abbrev pub values_of : Statement → Values
values_of (Entry e) = values 0 0 0 0 e
values_of (Org p) = values 0 0 0 0 p
values_of (Byte b) = values 0 0 0 0 b
values_of (Half h) = values 0 0 0 0 h
values_of (Word w) = values 0 0 0 0 w
values_of (Long i) = long_values i
values_of (Short c) = values c.a c.b 0 0 c.imm

-- ---- the row

-- a row without operands has a place for the number 0 alone
abbrev pub has_place : List Item → ℕ → Bool
has_place [] zero = true
has_place [] (suc n) = false
has_place (i ∷ is) number = true

-- the row is of the kind, and has a place for the number
abbrev pub prints : Row → Kind → ℕ → Bool
prints row kind number = is_same_kind row.kind kind && has_place row.items number

-- the first such row
abbrev pub row_in : List Row → Kind → ℕ → Option Row
row_in [] kind number = None
row_in (row ∷ rows) kind number = cond (prints row kind number) (Some row) (row_in rows kind number)

-- the pseudo-instructions come last in the table, so that none is printed
unfoldable pub row_for : Kind → ℕ → Row
row_for kind number = unwrap_or (row_in forms kind number) (form [] [] OrgKind)

abbrev pub row_of : Statement → Row
row_of s = row_for (kind_of s) (values_of s).number
