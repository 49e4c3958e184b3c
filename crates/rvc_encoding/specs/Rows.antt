-- The table of compressed instructions: which half-words spell which (Unprivileged ISA, "RVC Instruction Set Listings").
use Rattle.std.specs.Prelude.{◌≡◌, ℕ, List, [], ◌∷◌, Option, Some, None, bit_and, ◌==◌, if◌then◌else◌, Bool, true, ◌&&◌, not}
use Rattle.rv_encoding.specs.declared.instruction.Ins.{Ins}
use Rattle.rv_encoding.specs.declared.instruction.Ins.TheVariants.{Lui, Jal, Jalr, Branch, Load, Store, Imm, Reg, Ebreak}
use Rattle.rv_encoding.specs.declared.operations.BranchOp.TheVariants.{Beq, Bne}
use Rattle.rv_encoding.specs.declared.operations.LoadOp.TheVariants.{Lw}
use Rattle.rv_encoding.specs.declared.operations.StoreOp.TheVariants.{Sw}
use Rattle.rv_encoding.specs.declared.operations.ImmOp.TheVariants.{Addi, Andi, Slli, Srli, Srai}
use Rattle.rv_encoding.specs.declared.operations.RegOp.TheVariants.{Add, Sub, Xor, Or, And}
use Rattle.rvc_encoding.specs.declared.compressed.Cins.{Cins}
use Rattle.rvc_encoding.specs.declared.row.CRow.{CRow}
use Rattle.rvc_encoding.specs.declared.row.CRow.TheVariants.{Addi4spn as CAddi4spn, Lw as CLw, Sw as CSw, Nop as CNop, Addi as CAddi, Jal as CJal, Li as CLi, Addi16sp as CAddi16sp, Lui as CLui, Srli as CSrli, Srai as CSrai, Andi as CAndi, Sub as CSub, Xor as CXor, Or as COr, And as CAnd, J as CJ, Beqz as CBeqz, Bnez as CBnez, Slli as CSlli, Lwsp as CLwsp, Jr as CJr, Mv as CMv, Ebreak as CEbreak, Jalr as CJalr, Add as CAdd, Swsp as CSwsp}
use Rattle.rvc_encoding.specs.Fields.{Register, Full, Short, Always, register_in, Immediate, immediate_in, none, number, amount, stack_sum, word_offset, jump, branch, stack_change, upper, stack_load, stack_store}

-- what a row asks of its fields a, b and imm
abbrev pub any : ℕ → ℕ → ℕ → Bool
any a b imm = true

abbrev pub some_imm : ℕ → ℕ → ℕ → Bool
some_imm a b imm = not (imm == 0)

abbrev pub some_a : ℕ → ℕ → ℕ → Bool
some_a a b imm = not (a == 0)

abbrev pub some_b : ℕ → ℕ → ℕ → Bool
some_b a b imm = not (b == 0)

abbrev pub a_not_sp_some_imm : ℕ → ℕ → ℕ → Bool
a_not_sp_some_imm a b imm = not (a == 2) && not (imm == 0)

-- A half-word is of the row where its bits under the mask are the match and the row allows its fields. The mask has the
-- quadrant, bits 1 and 0, the function, bits 15 to 13, and what else is fixed. A row expands to a 32-bit instruction.
pub record Row : Type 0 where
  pub mask : ℕ
  pub match : ℕ
  pub first : Register
  pub second : Register
  pub immediate : Immediate
  pub allows : ℕ → ℕ → ℕ → Bool
  pub expands : ℕ → ℕ → ℕ → Ins

abbrev pub row : ℕ → ℕ → Register → Register → Immediate → (ℕ → ℕ → ℕ → Bool) → (ℕ → ℕ → ℕ → Ins) → Row
row mask match first second immediate allows expands =
    record { mask = mask; match = match; first = first; second = second; immediate = immediate; allows = allows; expands = expands }

-- no register
abbrev pub nil : Register
nil = Always 0

-- the stack pointer
abbrev pub sp : Register
sp = Always 2

-- the table, by quadrant and function
abbrev pub row_of : CRow → Row
row_of CAddi4spn = row 0xE003 0x0000 (Short 2) sp stack_sum some_imm (λ a b imm. Imm Addi a b imm)
row_of CLw = row 0xE003 0x4000 (Short 2) (Short 7) word_offset any (λ a b imm. Load Lw a b imm)
row_of CSw = row 0xE003 0xC000 (Short 7) (Short 2) word_offset any (λ a b imm. Store Sw a b imm)
row_of CNop = row 0xEF83 0x0001 nil nil number any (λ a b imm. Imm Addi 0 0 imm)
row_of CAddi = row 0xE003 0x0001 (Full 7) nil number some_a (λ a b imm. Imm Addi a a imm)
row_of CJal = row 0xE003 0x2001 nil nil jump any (λ a b imm. Jal 1 imm)
row_of CLi = row 0xE003 0x4001 (Full 7) nil number any (λ a b imm. Imm Addi a 0 imm)
row_of CAddi16sp = row 0xEF83 0x6101 sp nil stack_change some_imm (λ a b imm. Imm Addi a a imm)
row_of CLui = row 0xE003 0x6001 (Full 7) nil upper a_not_sp_some_imm (λ a b imm. Lui a imm)
row_of CSrli = row 0xFC03 0x8001 (Short 7) nil amount any (λ a b imm. Imm Srli a a imm)
row_of CSrai = row 0xFC03 0x8401 (Short 7) nil amount any (λ a b imm. Imm Srai a a imm)
row_of CAndi = row 0xEC03 0x8801 (Short 7) nil number any (λ a b imm. Imm Andi a a imm)
row_of CSub = row 0xFC63 0x8C01 (Short 7) (Short 2) none any (λ a b imm. Reg Sub a a b)
row_of CXor = row 0xFC63 0x8C21 (Short 7) (Short 2) none any (λ a b imm. Reg Xor a a b)
row_of COr = row 0xFC63 0x8C41 (Short 7) (Short 2) none any (λ a b imm. Reg Or a a b)
row_of CAnd = row 0xFC63 0x8C61 (Short 7) (Short 2) none any (λ a b imm. Reg And a a b)
row_of CJ = row 0xE003 0xA001 nil nil jump any (λ a b imm. Jal 0 imm)
row_of CBeqz = row 0xE003 0xC001 (Short 7) nil branch any (λ a b imm. Branch Beq a 0 imm)
row_of CBnez = row 0xE003 0xE001 (Short 7) nil branch any (λ a b imm. Branch Bne a 0 imm)
row_of CSlli = row 0xF003 0x0002 (Full 7) nil amount any (λ a b imm. Imm Slli a a imm)
row_of CLwsp = row 0xE003 0x4002 (Full 7) sp stack_load some_a (λ a b imm. Load Lw a b imm)
row_of CJr = row 0xF07F 0x8002 (Full 7) nil none some_a (λ a b imm. Jalr 0 a 0)
row_of CMv = row 0xF003 0x8002 (Full 7) (Full 2) none some_b (λ a b imm. Reg Add a 0 b)
row_of CEbreak = row 0xFFFF 0x9002 nil nil none any (λ a b imm. Ebreak)
row_of CJalr = row 0xF07F 0x9002 (Full 7) nil none some_a (λ a b imm. Jalr 1 a 0)
row_of CAdd = row 0xF003 0x9002 (Full 7) (Full 2) none some_b (λ a b imm. Reg Add a a b)
row_of CSwsp = row 0xE003 0xC002 sp (Full 2) stack_store any (λ a b imm. Store Sw a b imm)

abbrev pub all_rows : List CRow
all_rows =
    CAddi4spn ∷ CLw ∷ CSw
    ∷ CNop ∷ CAddi ∷ CJal ∷ CLi ∷ CAddi16sp ∷ CLui ∷ CSrli ∷ CSrai ∷ CAndi ∷ CSub ∷ CXor ∷ COr ∷ CAnd ∷ CJ ∷ CBeqz ∷ CBnez
    ∷ CSlli ∷ CLwsp ∷ CJr ∷ CMv ∷ CEbreak ∷ CJalr ∷ CAdd ∷ CSwsp ∷ []

-- what a row makes of a half-word
abbrev pub made : CRow → ℕ → Cins
made n h = record { row = n; a = register_in (row_of n).first h; b = register_in (row_of n).second h; imm = immediate_in (row_of n).immediate h }

-- the row allows the fields
abbrev pub allowed : Cins → Bool
allowed c = (row_of c.row).allows c.a c.b c.imm

-- the half-word is of the row
abbrev pub is_of : CRow → ℕ → Bool
is_of n h = (bit_and h (row_of n).mask == (row_of n).match) && allowed (made n h)

-- the half-word spells the instruction: it is of its row, which makes the instruction of it
unfoldable pub Spells16 : ℕ → Cins → Type 0
Spells16 h c = (is_of c.row h ≡ true) × (c ≡ made c.row h)

-- what the first of the rows makes that the half-word is of
abbrev pub first_of : List CRow → ℕ → Option Cins
first_of [] h = None
first_of (n ∷ ns) h = if is_of n h then Some (made n h) else first_of ns h

-- the instruction that the half-word spells
unfoldable pub spelled16 : ℕ → Option Cins
spelled16 h = first_of all_rows h
