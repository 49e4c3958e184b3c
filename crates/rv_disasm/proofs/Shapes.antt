-- What an instruction's operands make, by their shapes.
use Rattle.std.proofs.Common.{◌≡◌, ℕ, ◌+◌, ◌*◌, ◌/◌, ◌%◌, ◌^◌, ◌<◌, List, true, refl, ap, ◌∙◌, arith}
use Rattle.std.specs.Prelude.{nat_lt}
use Rattle.std.specs.declared.result.Result.TheVariants.{Ok}
use Rattle.std.proofs.lemmas.Bool.{and_parts, ltb-true, eqb-true}
use Rattle.std.proofs.lemmas.Bool.Decides.{nat_tests}
use Rattle.rv_encoding.specs.Fits.{is_register, is_signed, is_upper, is_offset, can_be_spelled}
use Rattle.rv_encoding.specs.declared.instruction.Ins.{Ins}
use Rattle.rv_encoding.specs.declared.instruction.Ins.TheVariants.{Lui, Auipc, Jal, Jalr, Branch, Load, Store, Imm, Reg, Fence, Csr}
use Rattle.rv_encoding.specs.declared.operations.BranchOp.{BranchOp}
use Rattle.rv_encoding.specs.declared.operations.LoadOp.{LoadOp}
use Rattle.rv_encoding.specs.declared.operations.StoreOp.{StoreOp}
use Rattle.rv_encoding.specs.declared.operations.ImmOp.{ImmOp}
use Rattle.rv_encoding.specs.declared.operations.RegOp.{RegOp}
use Rattle.rv_encoding.specs.declared.operations.CsrOp.{CsrOp}
use Rattle.asm_fields.specs.Operands.{Operands, no_operands}
use Rattle.asm_forms.specs.Operations.{made, operation_fits, extent_of, first_value}
use Rattle.rv_assembler.specs.Source.{resolved, distance}
use Rattle.rv_assembler.specs.Symbols.{Symbol}
use Rattle.asm_forms.specs.Forms.{upper, rd_target, rd_memory, branch, rs2_memory, rd_rs1_signed, shift, rd_rs1_rs2, sets, rd_csr_rs1, rd_csr_source, nothing, address, amount, half_word, byte}
use Rattle.asm_fields.specs.declared.item.Item.{Item}
use Rattle.asm_forms.specs.declared.kind.Kind.{Kind}
use Rattle.asm_forms.specs.declared.kind.Kind.TheVariants.{Org as OrgKind, Entry as EntryKind, Byte as ByteKind, Half as HalfKind, Word as WordKind, Lui as LuiKind, Auipc as AuipcKind, Jal as JalKind, Jalr as JalrKind, Branch as BranchKind, Load as LoadKind, Store as StoreKind, Imm as ImmKind, Reg as RegKind, Fence as FenceKind, Csr as CsrKind, Fixed as FixedKind}
use Rattle.asm_forms.specs.declared.operation.Operation.{Operation}
use Rattle.asm_forms.specs.declared.operation.Operation.TheVariants.{Org as OrgOperation, Entry as EntryOperation, PutsByte, PutsHalf, PutsWord, Long}
use Rattle.asm_forms.specs.declared.extent.Extent.{Extent}
use Rattle.asm_forms.specs.declared.extent.Extent.TheVariants.{Org as OrgExtent, Entry as EntryExtent, Takes}
use Rattle.rv_disasm.specs.Shown.{values}
use Rattle.rv_disasm.specs.Fitting.{is_word, is_near_zero, items_fit}
use Rattle.rv_disasm.specs.declared.values.Values.{Values}
use Rattle.rv_disasm.proofs.Again.{three, given_items}

abbrev pub given : List Item → Values → ℕ → Operands
given is v p = given_items is v p no_operands

-- operands that are printed at a place make this operation again, which does this to the place
pub record Makes (p : ℕ) (items : List Item) (kind : Kind) (v : Values) (op : Operation) (x : Extent) : Type 0 where
  pub fit : items_fit items v ≡ true
  pub extent : extent_of kind (given items v p).amount ≡ x
  pub first : operation_fits (made kind (given items v p) (first_value (given items v p).number)) ≡ true
  pub number : ℕ
  pub resolved : (symbols : List Symbol) → resolved symbols p (given items v p).number ≡ Ok number
  pub made : made kind (given items v p) number ≡ op
  pub fits : operation_fits op ≡ true

-- ---- numbers

pub near_by_12 : (imm : ℕ) → is_signed imm 12 ≡ true → is_near_zero 2048 imm ≡ true
near_by_12 imm h = grind (arith, nat_tests)

pub upper_back : (imm : ℕ) → is_upper imm ≡ true → imm / 4096 * 4096 ≡ imm
upper_back imm h = let t = and_parts (nat_lt imm (2 ^ 32)) _ h in let e = eqb-true (imm % 2 ^ 12) 0 t.1 in omega arith

pub distance_back : (p n : ℕ) → p < 2 ^ 32 → n < 2 ^ 32 → distance p ((p + n) % 2 ^ 32) ≡ n
distance_back p n h l = omega arith

offset_13 : (offset : ℕ) → is_offset offset 13 ≡ true → is_word offset ≡ true
offset_13 offset h = grind (arith, nat_tests)

offset_21 : (offset : ℕ) → is_offset offset 21 ≡ true → is_word offset ≡ true
offset_21 offset h = grind (arith, nat_tests)

-- ---- directives

pub makes_entry : (e p : ℕ) → is_word e ≡ true → Makes p address EntryKind (values 0 0 0 0 e) (EntryOperation e) EntryExtent
unfolding made extent_of operation_fits resolved
makes_entry e p h = record { fit = simp h; extent = refl; first = refl; number = e; resolved = λ s. refl; made = refl; fits = refl }

pub makes_org : (a p : ℕ) → is_word a ≡ true → Makes p amount OrgKind (values 0 0 0 0 a) (OrgOperation a) (OrgExtent a)
unfolding made extent_of operation_fits resolved
makes_org a p h = record { fit = simp h; extent = refl; first = refl; number = 0; resolved = λ s. refl; made = refl; fits = refl }

pub makes_word : (w p : ℕ) → is_word w ≡ true → Makes p address WordKind (values 0 0 0 0 w) (PutsWord w) (Takes 4)
unfolding made extent_of operation_fits resolved
makes_word w p h = record { fit = simp h; extent = refl; first = refl; number = w; resolved = λ s. refl; made = refl; fits = refl }

pub makes_half : (n p : ℕ) → nat_lt n 65536 ≡ true → Makes p half_word HalfKind (values 0 0 0 0 n) (PutsHalf n) (Takes 2)
unfolding made extent_of operation_fits resolved
makes_half n p h =
    let l = ltb-true n 65536 h in
    record { fit = simp h; extent = refl; first = refl; number = n; resolved = λ s. refl; made = ap PutsHalf (let e : n % 2 ^ 16 ≡ n = omega arith in e); fits = refl }

pub makes_byte : (n p : ℕ) → nat_lt n 256 ≡ true → Makes p byte ByteKind (values 0 0 0 0 n) (PutsByte n) (Takes 1)
unfolding made extent_of operation_fits resolved
makes_byte n p h =
    let l = ltb-true n 256 h in
    record { fit = simp h; extent = refl; first = refl; number = n; resolved = λ s. refl; made = ap PutsByte (let e : n % 2 ^ 8 ≡ n = omega arith in e); fits = refl }

-- ---- instructions of 32 bits

pub makes_lui : (rd imm p : ℕ) → can_be_spelled (Lui rd imm) ≡ true → Makes p upper LuiKind (values rd 0 0 0 imm) (Long (Lui rd imm)) (Takes 4)
unfolding made extent_of operation_fits resolved
makes_lui rd imm p h =
    let t = and_parts (is_register rd) (is_upper imm) h in
    let back = upper_back imm t.1 in
    record { fit = simp (t.0, t.1); extent = refl; first = ap (λ n. can_be_spelled (Lui rd n)) back ∙ h; number = imm; resolved = λ s. ap Ok back; made = refl; fits = h }

pub makes_auipc : (rd imm p : ℕ) → can_be_spelled (Auipc rd imm) ≡ true → Makes p upper AuipcKind (values rd 0 0 0 imm) (Long (Auipc rd imm)) (Takes 4)
unfolding made extent_of operation_fits resolved
makes_auipc rd imm p h =
    let t = and_parts (is_register rd) (is_upper imm) h in
    let back = upper_back imm t.1 in
    record { fit = simp (t.0, t.1); extent = refl; first = ap (λ n. can_be_spelled (Auipc rd n)) back ∙ h; number = imm; resolved = λ s. ap Ok back; made = refl; fits = h }

pub makes_jal : (rd offset p : ℕ) → p < 2 ^ 32 → can_be_spelled (Jal rd offset) ≡ true → Makes p rd_target JalKind (values rd 0 0 0 offset) (Long (Jal rd offset)) (Takes 4)
unfolding made extent_of operation_fits resolved
makes_jal rd offset p l h =
    let t = and_parts (is_register rd) (is_offset offset 21) h in
    let w = offset_21 offset t.1 in
    record { fit = simp (t.0, w); extent = refl; first = simp t.0; number = offset; resolved = λ s. ap Ok (distance_back p offset l (ltb-true offset (2 ^ 32) w)); made = refl; fits = h }

pub makes_jalr : (rd rs1 imm p : ℕ) → can_be_spelled (Jalr rd rs1 imm) ≡ true → Makes p rd_memory JalrKind (values rd rs1 0 0 imm) (Long (Jalr rd rs1 imm)) (Takes 4)
unfolding made extent_of operation_fits resolved
makes_jalr rd rs1 imm p h =
    let t = three (is_register rd) (is_register rs1) (is_signed imm 12) h in
    let near = near_by_12 imm t.2 in
    record { fit = simp (t.0, t.1, near); extent = refl; first = h; number = imm; resolved = λ s. refl; made = refl; fits = h }

pub makes_branch : (op : BranchOp) (rs1 rs2 offset p : ℕ) → p < 2 ^ 32 → can_be_spelled (Branch op rs1 rs2 offset) ≡ true → Makes p branch (BranchKind op) (values 0 rs1 rs2 0 offset) (Long (Branch op rs1 rs2 offset)) (Takes 4)
unfolding made extent_of operation_fits resolved
makes_branch op rs1 rs2 offset p l h =
    let t = three (is_register rs1) (is_register rs2) (is_offset offset 13) h in
    let w = offset_13 offset t.2 in
    record { fit = simp (t.0, t.1, w); extent = refl; first = simp (t.0, t.1); number = offset; resolved = λ s. ap Ok (distance_back p offset l (ltb-true offset (2 ^ 32) w)); made = refl; fits = h }

pub makes_load : (op : LoadOp) (rd rs1 imm p : ℕ) → can_be_spelled (Load op rd rs1 imm) ≡ true → Makes p rd_memory (LoadKind op) (values rd rs1 0 0 imm) (Long (Load op rd rs1 imm)) (Takes 4)
unfolding made extent_of operation_fits resolved
makes_load op rd rs1 imm p h =
    let t = three (is_register rd) (is_register rs1) (is_signed imm 12) h in
    let near = near_by_12 imm t.2 in
    record { fit = simp (t.0, t.1, near); extent = refl; first = h; number = imm; resolved = λ s. refl; made = refl; fits = h }

pub makes_store : (op : StoreOp) (rs1 rs2 imm p : ℕ) → can_be_spelled (Store op rs1 rs2 imm) ≡ true → Makes p rs2_memory (StoreKind op) (values 0 rs1 rs2 0 imm) (Long (Store op rs1 rs2 imm)) (Takes 4)
unfolding made extent_of operation_fits resolved
makes_store op rs1 rs2 imm p h =
    let t = three (is_register rs1) (is_register rs2) (is_signed imm 12) h in
    let near = near_by_12 imm t.2 in
    record { fit = simp (t.0, t.1, near); extent = refl; first = h; number = imm; resolved = λ s. refl; made = refl; fits = h }

-- an operation on a number of 12 bits
pub makes_imm : (op : ImmOp) (rd rs1 imm p : ℕ) → can_be_spelled (Imm op rd rs1 imm) ≡ true → is_register rd ≡ true → is_register rs1 ≡ true → is_signed imm 12 ≡ true → Makes p rd_rs1_signed (ImmKind op) (values rd rs1 0 0 imm) (Long (Imm op rd rs1 imm)) (Takes 4)
unfolding made extent_of operation_fits resolved
makes_imm op rd rs1 imm p h d s i =
    let near = near_by_12 imm i in
    record { fit = simp (d, s, near); extent = refl; first = h; number = imm; resolved = λ s. refl; made = refl; fits = h }

pub makes_shift : (op : ImmOp) (rd rs1 imm p : ℕ) → can_be_spelled (Imm op rd rs1 imm) ≡ true → is_register rd ≡ true → is_register rs1 ≡ true → nat_lt imm 32 ≡ true → Makes p shift (ImmKind op) (values rd rs1 0 0 imm) (Long (Imm op rd rs1 imm)) (Takes 4)
unfolding made extent_of operation_fits resolved
makes_shift op rd rs1 imm p h d s i = record { fit = simp (d, s, i); extent = refl; first = h; number = imm; resolved = λ s. refl; made = refl; fits = h }

pub makes_reg : (op : RegOp) (rd rs1 rs2 p : ℕ) → can_be_spelled (Reg op rd rs1 rs2) ≡ true → Makes p rd_rs1_rs2 (RegKind op) (values rd rs1 rs2 0 0) (Long (Reg op rd rs1 rs2)) (Takes 4)
unfolding made extent_of operation_fits resolved
makes_reg op rd rs1 rs2 p h =
    let t = three (is_register rd) (is_register rs1) (is_register rs2) h in
    record { fit = simp (t.0, t.1, t.2); extent = refl; first = h; number = 0; resolved = λ s. refl; made = refl; fits = h }

pub makes_fence : (pred succ p : ℕ) → can_be_spelled (Fence pred succ) ≡ true → Makes p sets FenceKind (values 0 pred succ 0 0) (Long (Fence pred succ)) (Takes 4)
unfolding made extent_of operation_fits resolved
makes_fence pred succ p h =
    let t = and_parts (nat_lt pred 16) (nat_lt succ 16) h in
    record { fit = simp (t.0, t.1); extent = refl; first = h; number = 0; resolved = λ s. refl; made = refl; fits = h }

pub makes_csr : (op : CsrOp) (rd source csr p : ℕ) → can_be_spelled (Csr op rd source csr) ≡ true → Makes p rd_csr_rs1 (CsrKind op) (values rd source 0 csr 0) (Long (Csr op rd source csr)) (Takes 4)
unfolding made extent_of operation_fits resolved
makes_csr op rd source csr p h =
    let t = three (is_register rd) (nat_lt source 32) (nat_lt csr 4096) h in
    record { fit = simp (t.0, t.1, t.2); extent = refl; first = h; number = 0; resolved = λ s. refl; made = refl; fits = h }

pub makes_csr_number : (op : CsrOp) (rd source csr p : ℕ) → can_be_spelled (Csr op rd source csr) ≡ true → Makes p rd_csr_source (CsrKind op) (values rd source 0 csr 0) (Long (Csr op rd source csr)) (Takes 4)
unfolding made extent_of operation_fits resolved
makes_csr_number op rd source csr p h =
    let t = three (is_register rd) (nat_lt source 32) (nat_lt csr 4096) h in
    record { fit = simp (t.0, t.1, t.2); extent = refl; first = h; number = 0; resolved = λ s. refl; made = refl; fits = h }

pub makes_fixed : (i : Ins) (p : ℕ) → can_be_spelled i ≡ true → Makes p nothing (FixedKind i) (values 0 0 0 0 0) (Long i) (Takes 4)
unfolding made extent_of operation_fits resolved
makes_fixed i p h = record { fit = refl; extent = refl; first = h; number = 0; resolved = λ s. refl; made = refl; fits = h }
