-- The rows that statements are printed by, one by one.
use Rattle.std.proofs.Common.{◌≡◌, ℕ, zero, suc, ◌+◌, ◌^◌, ◌<◌, List, [], ◌∷◌, length, Bool, true, false, cond, refl, sym, subst, arith}
use Rattle.std.specs.Prelude.{nat_lt, nat_le, ◌&&◌, codes}
use Rattle.std.specs.declared.result.Result.{Result}
use Rattle.std.specs.declared.result.Result.TheVariants.{Err}
use Rattle.asm_text.specs.Words.{Word}
use Rattle.asm_text.specs.Pieces.{is_name}
use Rattle.rv_encoding.specs.Fits.{is_register, is_signed, can_be_spelled}
use Rattle.rv_encoding.specs.declared.instruction.Ins.{Ins}
use Rattle.rv_encoding.specs.declared.instruction.Ins.TheVariants.{Lui, Auipc, Jal, Jalr, Branch, Load, Store, Imm, Reg, Fence, Ecall, Ebreak, Mret, Wfi, Csr}
use Rattle.rv_encoding.specs.declared.operations.BranchOp.{BranchOp}
use Rattle.rv_encoding.specs.declared.operations.BranchOp.TheVariants.{Beq}
use Rattle.rv_encoding.specs.declared.operations.LoadOp.{LoadOp}
use Rattle.rv_encoding.specs.declared.operations.LoadOp.TheVariants.{Lb}
use Rattle.rv_encoding.specs.declared.operations.StoreOp.{StoreOp}
use Rattle.rv_encoding.specs.declared.operations.StoreOp.TheVariants.{Sb}
use Rattle.rv_encoding.specs.declared.operations.ImmOp.{ImmOp}
use Rattle.rv_encoding.specs.declared.operations.ImmOp.TheVariants.{Addi, Slli, Srli, Srai}
use Rattle.rv_encoding.specs.declared.operations.RegOp.{RegOp}
use Rattle.rv_encoding.specs.declared.operations.RegOp.TheVariants.{Add}
use Rattle.rv_encoding.specs.declared.operations.CsrOp.{CsrOp}
use Rattle.rv_encoding.specs.declared.operations.CsrOp.TheVariants.{Csrrw, Csrrwi, Csrrsi, Csrrci}
use Rattle.rvc_encoding.specs.declared.row.CRow.{CRow}
use Rattle.rvc_encoding.specs.declared.row.CRow.TheVariants.{Nop as CNop, Ebreak as CEbreak}
use Rattle.asm_forms.specs.Forms.{Row, form, short_signed}
use Rattle.asm_forms.specs.Statements.{Task, read_form, task_named, task_or}
use Rattle.asm_forms.specs.declared.asm_why.AsmWhy.{AsmWhy}
use Rattle.asm_forms.specs.declared.asm_why.AsmWhy.TheVariants.{BadOperands}
use Rattle.asm_fields.specs.declared.field.Field.{Field}
use Rattle.asm_fields.specs.declared.field.Field.TheVariants.{Rd, Rs1, Rs2, Csr as CsrField, Source, Pred, Succ, Signed, Below, Digits, Upper, Amount, Word as AnyWord, Label, Address, Target}
use Rattle.asm_fields.specs.declared.item.Item.{Item}
use Rattle.asm_fields.specs.declared.item.Item.TheVariants.{Operand, Mark}
use Rattle.asm_forms.specs.declared.kind.Kind.{Kind}
use Rattle.asm_forms.specs.declared.kind.Kind.TheVariants.{Org as OrgKind, Entry as EntryKind, Byte as ByteKind, Half as HalfKind, Word as WordKind, Lui as LuiKind, Auipc as AuipcKind, Jal as JalKind, Jalr as JalrKind, Branch as BranchKind, Load as LoadKind, Store as StoreKind, Imm as ImmKind, Reg as RegKind, Fence as FenceKind, Csr as CsrKind, Fixed as FixedKind, Short as ShortKind}
use Rattle.asm_forms.specs.declared.operation.Operation.TheVariants.{Long as LongOperation}
use Rattle.asm_forms.specs.declared.extent.Extent.TheVariants.{Takes}
use Rattle.rv_disasm.specs.Shown.{long_kind, long_values, row_for}
use Rattle.rv_disasm.specs.Fitting.{room_for}
use Rattle.rvc_encoding.specs.Fits.{fits_row}
use Rattle.rv_disasm.proofs.Again.{three}
use Rattle.rv_disasm.proofs.Halves.{cins, holds, no_number}
use Rattle.rv_disasm.proofs.Shapes.{Makes, makes_lui, makes_auipc, makes_jal, makes_jalr, makes_branch, makes_load, makes_store, makes_imm, makes_shift, makes_reg, makes_fence, makes_csr, makes_csr_number, makes_fixed}

-- ---- what the table keeps

-- the greatest length of an operand's text
abbrev pub field_bound : Field → ℕ
field_bound Rd = 4
field_bound Rs1 = 4
field_bound Rs2 = 4
field_bound CsrField = 12
field_bound Source = 2
field_bound Pred = 4
field_bound Succ = 4
field_bound (Signed half) = cond (nat_le half 99) 3 (cond (nat_le half 9999) 5 11)
field_bound (Below limit) = cond (nat_le limit 100) 2 (cond (nat_le limit 10000) 4 10)
field_bound (Digits limit digits) = digits + 2
field_bound Upper = 7
field_bound Amount = 10
field_bound AnyWord = 10
field_bound Label = 10
field_bound Address = 10
field_bound Target = 10

abbrev pub items_bound : List Item → ℕ
items_bound [] = 0
items_bound (Operand f ∷ is) = field_bound f + items_bound is
items_bound (Mark k ∷ is) = 2 + items_bound is

-- of a line, with a space and its end
abbrev pub line_bound : Row → ℕ
line_bound row = length row.name + 2 + items_bound row.items

-- no mark stands first
abbrev pub starts_plain : List Item → Bool
starts_plain [] = true
starts_plain (Operand f ∷ is) = true
starts_plain (Mark k ∷ is) = false

-- the name is one, there is room for the line and its words, and the text has at most 15 bytes for each byte
abbrev pub is_sound : Row → ℕ → Bool
is_sound row most = is_name row.name && nat_le (length row.name) 11 && nat_le (room_for row.items) 69 && nat_le (length row.items) 15 && starts_plain row.items && nat_le (line_bound row) most

-- where the form has operands, words stand for them
abbrev pub HaveWords : List Item → List Word → Type 0
HaveWords [] ws = Unit {0}
HaveWords (i ∷ is) ws = 0 < length ws

-- the row is sound, and what is named as it is read by it
pub record IsRow (row : Row) (kind : Kind) (most : ℕ) : Type 0 where
  pub same : row.kind ≡ kind
  pub sound : is_sound row most ≡ true
  pub rest : List Word → Result Task AsmWhy
  pub named : (ws : List Word) → HaveWords row.items ws → task_named row.name ws ≡ task_or (read_form row ws) (rest ws)

-- ---- directives

pub entry_row : (n : ℕ) → IsRow (row_for EntryKind n) EntryKind 60
unfolding row_for task_named
entry_row n = record { same = refl; sound = refl; rest = λ ws. Err BadOperands; named = λ ws h. refl }

pub org_row : (n : ℕ) → IsRow (row_for OrgKind n) OrgKind 60
unfolding row_for task_named
org_row n = record { same = refl; sound = refl; rest = λ ws. Err BadOperands; named = λ ws h. refl }

pub byte_row : (n : ℕ) → IsRow (row_for ByteKind n) ByteKind 15
unfolding row_for task_named
byte_row n = record { same = refl; sound = refl; rest = λ ws. Err BadOperands; named = λ ws h. refl }

pub half_row : (n : ℕ) → IsRow (row_for HalfKind n) HalfKind 30
unfolding row_for task_named
half_row n = record { same = refl; sound = refl; rest = λ ws. Err BadOperands; named = λ ws h. refl }

pub word_row : (n : ℕ) → IsRow (row_for WordKind n) WordKind 60
unfolding row_for task_named
word_row n = record { same = refl; sound = refl; rest = λ ws. Err BadOperands; named = λ ws h. refl }

-- ---- instructions of 32 bits, operation by operation: the last line of a lemma is one case for each of the others

branch_row : (op : BranchOp) (n : ℕ) → IsRow (row_for (BranchKind op) n) (BranchKind op) 60
unfolding row_for task_named
branch_row Beq n = record { same = refl; sound = refl; rest = λ ws. Err BadOperands; named = λ ws h. refl }
branch_row _ n = record { same = refl; sound = refl; rest = λ ws. Err BadOperands; named = λ ws h. refl }

load_row : (op : LoadOp) (n : ℕ) → IsRow (row_for (LoadKind op) n) (LoadKind op) 60
unfolding row_for task_named
load_row Lb n = record { same = refl; sound = refl; rest = λ ws. Err BadOperands; named = λ ws h. refl }
load_row _ n = record { same = refl; sound = refl; rest = λ ws. Err BadOperands; named = λ ws h. refl }

store_row : (op : StoreOp) (n : ℕ) → IsRow (row_for (StoreKind op) n) (StoreKind op) 60
unfolding row_for task_named
store_row Sb n = record { same = refl; sound = refl; rest = λ ws. Err BadOperands; named = λ ws h. refl }
store_row _ n = record { same = refl; sound = refl; rest = λ ws. Err BadOperands; named = λ ws h. refl }

imm_row : (op : ImmOp) (n : ℕ) → IsRow (row_for (ImmKind op) n) (ImmKind op) 60
unfolding row_for task_named
imm_row Addi n = record { same = refl; sound = refl; rest = λ ws. Err BadOperands; named = λ ws h. refl }
imm_row _ n = record { same = refl; sound = refl; rest = λ ws. Err BadOperands; named = λ ws h. refl }

reg_row : (op : RegOp) (n : ℕ) → IsRow (row_for (RegKind op) n) (RegKind op) 60
unfolding row_for task_named
reg_row Add n = record { same = refl; sound = refl; rest = λ ws. Err BadOperands; named = λ ws h. refl }
reg_row _ n = record { same = refl; sound = refl; rest = λ ws. Err BadOperands; named = λ ws h. refl }

csr_row : (op : CsrOp) (n : ℕ) → IsRow (row_for (CsrKind op) n) (CsrKind op) 60
unfolding row_for task_named
csr_row Csrrw n = record { same = refl; sound = refl; rest = λ ws. Err BadOperands; named = λ ws h. refl }
csr_row _ n = record { same = refl; sound = refl; rest = λ ws. Err BadOperands; named = λ ws h. refl }

lui_row : (n : ℕ) → IsRow (row_for LuiKind n) LuiKind 60
unfolding row_for task_named
lui_row n = record { same = refl; sound = refl; rest = λ ws. Err BadOperands; named = λ ws h. refl }

auipc_row : (n : ℕ) → IsRow (row_for AuipcKind n) AuipcKind 60
unfolding row_for task_named
auipc_row n = record { same = refl; sound = refl; rest = λ ws. Err BadOperands; named = λ ws h. refl }

jal_row : (n : ℕ) → IsRow (row_for JalKind n) JalKind 60
unfolding row_for task_named
jal_row n = record { same = refl; sound = refl; rest = λ ws. Err BadOperands; named = λ ws h. refl }

jalr_row : (n : ℕ) → IsRow (row_for JalrKind n) JalrKind 60
unfolding row_for task_named
jalr_row n = record { same = refl; sound = refl; rest = λ ws. Err BadOperands; named = λ ws h. refl }

-- the words aren't those of the row without sets
named_sets : (n : ℕ) (ws : List Word) → 0 < length ws → task_named (row_for FenceKind n).name ws ≡ task_or (read_form (row_for FenceKind n) ws) (Err BadOperands)
unfolding row_for task_named read_form
named_sets n [] h = absurd (omega arith)
named_sets n (w ∷ ws) h = refl

fence_row : (n : ℕ) → IsRow (row_for FenceKind n) FenceKind 60
unfolding row_for task_named
fence_row n = record { same = refl; sound = refl; rest = λ ws. Err BadOperands; named = λ ws h. named_sets n ws h }

ecall_row : IsRow (row_for (FixedKind Ecall) 0) (FixedKind Ecall) 60
unfolding row_for task_named
ecall_row = record { same = refl; sound = refl; rest = λ ws. Err BadOperands; named = λ ws h. refl }

ebreak_row : IsRow (row_for (FixedKind Ebreak) 0) (FixedKind Ebreak) 60
unfolding row_for task_named
ebreak_row = record { same = refl; sound = refl; rest = λ ws. Err BadOperands; named = λ ws h. refl }

mret_row : IsRow (row_for (FixedKind Mret) 0) (FixedKind Mret) 60
unfolding row_for task_named
mret_row = record { same = refl; sound = refl; rest = λ ws. Err BadOperands; named = λ ws h. refl }

wfi_row : IsRow (row_for (FixedKind Wfi) 0) (FixedKind Wfi) 60
unfolding row_for task_named
wfi_row = record { same = refl; sound = refl; rest = λ ws. Err BadOperands; named = λ ws h. refl }

pub long_row : (i : Ins) → IsRow (row_for (long_kind i) (long_values i).number) (long_kind i) 60
long_row (Lui rd imm) = lui_row imm
long_row (Auipc rd imm) = auipc_row imm
long_row (Jal rd offset) = jal_row offset
long_row (Jalr rd rs1 imm) = jalr_row imm
long_row (Branch op rs1 rs2 offset) = branch_row op offset
long_row (Load op rd rs1 imm) = load_row op imm
long_row (Store op rs1 rs2 imm) = store_row op imm
long_row (Imm op rd rs1 imm) = imm_row op imm
long_row (Reg op rd rs1 rs2) = reg_row op 0
long_row (Fence pred succ) = fence_row 0
long_row Ecall = ecall_row
long_row Ebreak = ebreak_row
long_row Mret = mret_row
long_row Wfi = wfi_row
long_row (Csr op rd source csr) = csr_row op 0

abbrev MakesLong : ℕ → Ins → Type 0
MakesLong p i = Makes p (row_for (long_kind i) (long_values i).number).items (long_kind i) (long_values i) (LongOperation i) (Takes 4)

long_branch : (op : BranchOp) (rs1 rs2 offset p : ℕ) → p < 2 ^ 32 → can_be_spelled (Branch op rs1 rs2 offset) ≡ true → MakesLong p (Branch op rs1 rs2 offset)
unfolding row_for
long_branch Beq rs1 rs2 offset p l h = makes_branch Beq rs1 rs2 offset p l h
long_branch op rs1 rs2 offset p l h = makes_branch op rs1 rs2 offset p l h

long_load : (op : LoadOp) (rd rs1 imm p : ℕ) → p < 2 ^ 32 → can_be_spelled (Load op rd rs1 imm) ≡ true → MakesLong p (Load op rd rs1 imm)
unfolding row_for
long_load Lb rd rs1 imm p l h = makes_load Lb rd rs1 imm p h
long_load op rd rs1 imm p l h = makes_load op rd rs1 imm p h

long_store : (op : StoreOp) (rs1 rs2 imm p : ℕ) → p < 2 ^ 32 → can_be_spelled (Store op rs1 rs2 imm) ≡ true → MakesLong p (Store op rs1 rs2 imm)
unfolding row_for
long_store Sb rs1 rs2 imm p l h = makes_store Sb rs1 rs2 imm p h
long_store op rs1 rs2 imm p l h = makes_store op rs1 rs2 imm p h

long_imm : (op : ImmOp) (rd rs1 imm p : ℕ) → p < 2 ^ 32 → can_be_spelled (Imm op rd rs1 imm) ≡ true → MakesLong p (Imm op rd rs1 imm)
unfolding row_for
long_imm Slli rd rs1 imm p l h = let t = three (is_register rd) (is_register rs1) (nat_lt imm 32) h in makes_shift Slli rd rs1 imm p h t.0 t.1 t.2
long_imm Srli rd rs1 imm p l h = let t = three (is_register rd) (is_register rs1) (nat_lt imm 32) h in makes_shift Srli rd rs1 imm p h t.0 t.1 t.2
long_imm Srai rd rs1 imm p l h = let t = three (is_register rd) (is_register rs1) (nat_lt imm 32) h in makes_shift Srai rd rs1 imm p h t.0 t.1 t.2
long_imm op rd rs1 imm p l h = let t = three (is_register rd) (is_register rs1) (is_signed imm 12) h in makes_imm op rd rs1 imm p h t.0 t.1 t.2

long_reg : (op : RegOp) (rd rs1 rs2 p : ℕ) → p < 2 ^ 32 → can_be_spelled (Reg op rd rs1 rs2) ≡ true → MakesLong p (Reg op rd rs1 rs2)
unfolding row_for
long_reg Add rd rs1 rs2 p l h = makes_reg Add rd rs1 rs2 p h
long_reg op rd rs1 rs2 p l h = makes_reg op rd rs1 rs2 p h

long_csr : (op : CsrOp) (rd source csr p : ℕ) → p < 2 ^ 32 → can_be_spelled (Csr op rd source csr) ≡ true → MakesLong p (Csr op rd source csr)
unfolding row_for
long_csr Csrrwi rd source csr p l h = makes_csr_number Csrrwi rd source csr p h
long_csr Csrrsi rd source csr p l h = makes_csr_number Csrrsi rd source csr p h
long_csr Csrrci rd source csr p l h = makes_csr_number Csrrci rd source csr p h
long_csr op rd source csr p l h = makes_csr op rd source csr p h

pub long : (i : Ins) (p : ℕ) → p < 2 ^ 32 → can_be_spelled i ≡ true → MakesLong p i
unfolding row_for
long (Lui rd imm) p l h = makes_lui rd imm p h
long (Auipc rd imm) p l h = makes_auipc rd imm p h
long (Jal rd offset) p l h = makes_jal rd offset p l h
long (Jalr rd rs1 imm) p l h = makes_jalr rd rs1 imm p h
long (Branch op rs1 rs2 offset) p l h = long_branch op rs1 rs2 offset p l h
long (Load op rd rs1 imm) p l h = long_load op rd rs1 imm p l h
long (Store op rs1 rs2 imm) p l h = long_store op rs1 rs2 imm p l h
long (Imm op rd rs1 imm) p l h = long_imm op rd rs1 imm p l h
long (Reg op rd rs1 rs2) p l h = long_reg op rd rs1 rs2 p l h
long (Fence pred succ) p l h = makes_fence pred succ p h
long Ecall p l h = makes_fixed Ecall p h
long Ebreak p l h = makes_fixed Ebreak p h
long Mret p l h = makes_fixed Mret p h
long Wfi p l h = makes_fixed Wfi p h
long (Csr op rd source csr) p l h = long_csr op rd source csr p l h

-- ---- compressed instructions

named_number : (n : ℕ) (ws : List Word) → 0 < length ws → task_named (row_for (ShortKind CNop) (suc n)).name ws ≡ task_or (read_form (row_for (ShortKind CNop) (suc n)) ws) (Err BadOperands)
unfolding row_for task_named read_form
named_number n [] h = absurd (omega arith)
named_number n (w ∷ ws) h = refl

-- without operands the number is 0
stop_row : IsRow (row_for (ShortKind CEbreak) 0) (ShortKind CEbreak) 30
unfolding row_for task_named
stop_row = record { same = refl; sound = refl; rest = λ ws. Err BadOperands; named = λ ws k. refl }

pub short_row : (row : CRow) (a b n : ℕ) → fits_row (cins row a b n) ≡ true → IsRow (row_for (ShortKind row) n) (ShortKind row) 30
unfolding row_for task_named
short_row CNop a b zero h = record { same = refl; sound = refl; rest = λ ws. task_or (read_form (form (codes "c.nop") short_signed (ShortKind CNop)) ws) (Err BadOperands); named = λ ws k. refl }
short_row CNop a b (suc n) h = record { same = refl; sound = refl; rest = λ ws. Err BadOperands; named = λ ws k. named_number n ws k }
short_row CEbreak a b n h = subst (λ (k : ℕ). IsRow (row_for (ShortKind CEbreak) k) (ShortKind CEbreak) 30) (sym (no_number n (holds CEbreak a b n h).immediate)) stop_row
short_row _ a b n h = record { same = refl; sound = refl; rest = λ ws. Err BadOperands; named = λ ws k. refl }
