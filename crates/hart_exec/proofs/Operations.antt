-- What operations stand for.
use Rattle.std.proofs.Common.{◌≡◌, ℕ, ◌<◌, ◌%◌, ◌^◌, refl, ap, Bool, true, Some, arith, ◌&&◌}
use Rattle.std.specs.Prelude.{nat_lt}
use Rattle.std.proofs.lemmas.Bool.{and_parts, ltb-true}
use Rattle.rv_encoding.specs.Fits.{can_be_spelled, is_register, is_signed, is_offset, is_operand}
use Rattle.rv_encoding.specs.declared.operations.CsrOp.TheVariants.{Csrrw, Csrrs, Csrrc, Csrrwi, Csrrsi, Csrrci}
use Rattle.rv_encoding.specs.declared.instruction.Ins.{Ins}
use Rattle.rv_encoding.specs.declared.instruction.Ins.TheVariants.{Lui, Auipc, Jal, Jalr, Branch, Load, Store, Imm, Reg, Fence, Ecall, Ebreak, Mret, Wfi, Csr}
use Rattle.rv_encoding.specs.declared.operations.BranchOp.TheVariants.{Beq, Bne, Blt, Bge, Bltu, Bgeu}
use Rattle.rv_encoding.specs.declared.operations.LoadOp.TheVariants.{Lb, Lh, Lw, Lbu, Lhu}
use Rattle.rv_encoding.specs.declared.operations.StoreOp.TheVariants.{Sb, Sh, Sw}
use Rattle.rv_encoding.specs.declared.operations.ImmOp.TheVariants.{Addi, Slti, Sltiu, Xori, Ori, Andi, Slli, Srli, Srai}
use Rattle.rv_encoding.specs.declared.operations.RegOp.TheVariants.{Add, Sub, Sll, Slt, Sltu, Xor, Srl, Sra, Or, And, Mul, Mulh, Mulhsu, Mulhu, Div, Divu, Rem, Remu}
use Rattle.hart_exec.specs.Operation.{instruction, operation, NamesRegisters}

csr_kept : (rd source csr : ℕ) → (is_register rd && nat_lt source 32 && nat_lt csr 4096) ≡ true → csr % 2 ^ 16 ≡ csr
csr_kept rd source csr fits =
    let l : csr < 4096 = ltb-true csr 4096 (and_parts (is_register rd && nat_lt source 32) (nat_lt csr 4096) fits).1 in
    omega arith

-- what an instruction's operation stands for is that instruction
pub same_instruction : (i : Ins) → can_be_spelled i ≡ true → instruction (operation i) ≡ Some i
same_instruction (Lui rd imm) fits = refl
same_instruction (Auipc rd imm) fits = refl
same_instruction (Jal rd offset) fits = refl
same_instruction (Jalr rd rs1 imm) fits = refl
same_instruction (Branch Beq rs1 rs2 offset) fits = refl
same_instruction (Branch Bne rs1 rs2 offset) fits = refl
same_instruction (Branch Blt rs1 rs2 offset) fits = refl
same_instruction (Branch Bge rs1 rs2 offset) fits = refl
same_instruction (Branch Bltu rs1 rs2 offset) fits = refl
same_instruction (Branch Bgeu rs1 rs2 offset) fits = refl
same_instruction (Load Lb rd rs1 imm) fits = refl
same_instruction (Load Lh rd rs1 imm) fits = refl
same_instruction (Load Lw rd rs1 imm) fits = refl
same_instruction (Load Lbu rd rs1 imm) fits = refl
same_instruction (Load Lhu rd rs1 imm) fits = refl
same_instruction (Store Sb rs1 rs2 imm) fits = refl
same_instruction (Store Sh rs1 rs2 imm) fits = refl
same_instruction (Store Sw rs1 rs2 imm) fits = refl
same_instruction (Imm Addi rd rs1 imm) fits = refl
same_instruction (Imm Slti rd rs1 imm) fits = refl
same_instruction (Imm Sltiu rd rs1 imm) fits = refl
same_instruction (Imm Xori rd rs1 imm) fits = refl
same_instruction (Imm Ori rd rs1 imm) fits = refl
same_instruction (Imm Andi rd rs1 imm) fits = refl
same_instruction (Imm Slli rd rs1 imm) fits = refl
same_instruction (Imm Srli rd rs1 imm) fits = refl
same_instruction (Imm Srai rd rs1 imm) fits = refl
same_instruction (Reg Add rd rs1 rs2) fits = refl
same_instruction (Reg Sub rd rs1 rs2) fits = refl
same_instruction (Reg Sll rd rs1 rs2) fits = refl
same_instruction (Reg Slt rd rs1 rs2) fits = refl
same_instruction (Reg Sltu rd rs1 rs2) fits = refl
same_instruction (Reg Xor rd rs1 rs2) fits = refl
same_instruction (Reg Srl rd rs1 rs2) fits = refl
same_instruction (Reg Sra rd rs1 rs2) fits = refl
same_instruction (Reg Or rd rs1 rs2) fits = refl
same_instruction (Reg And rd rs1 rs2) fits = refl
same_instruction (Reg Mul rd rs1 rs2) fits = refl
same_instruction (Reg Mulh rd rs1 rs2) fits = refl
same_instruction (Reg Mulhsu rd rs1 rs2) fits = refl
same_instruction (Reg Mulhu rd rs1 rs2) fits = refl
same_instruction (Reg Div rd rs1 rs2) fits = refl
same_instruction (Reg Divu rd rs1 rs2) fits = refl
same_instruction (Reg Rem rd rs1 rs2) fits = refl
same_instruction (Reg Remu rd rs1 rs2) fits = refl
same_instruction (Fence pred succ) fits = refl
same_instruction Ecall fits = refl
same_instruction Ebreak fits = refl
same_instruction Mret fits = refl
same_instruction Wfi fits = refl
same_instruction (Csr Csrrw rd source csr) fits = ap (λ (n : ℕ). Some (Csr Csrrw rd source n)) (csr_kept rd source csr fits)
same_instruction (Csr Csrrs rd source csr) fits = ap (λ (n : ℕ). Some (Csr Csrrs rd source n)) (csr_kept rd source csr fits)
same_instruction (Csr Csrrc rd source csr) fits = ap (λ (n : ℕ). Some (Csr Csrrc rd source n)) (csr_kept rd source csr fits)
same_instruction (Csr Csrrwi rd source csr) fits = ap (λ (n : ℕ). Some (Csr Csrrwi rd source n)) (csr_kept rd source csr fits)
same_instruction (Csr Csrrsi rd source csr) fits = ap (λ (n : ℕ). Some (Csr Csrrsi rd source n)) (csr_kept rd source csr fits)
same_instruction (Csr Csrrci rd source csr) fits = ap (λ (n : ℕ). Some (Csr Csrrci rd source n)) (csr_kept rd source csr fits)

first_of_three : (a b c : Bool) → (a && b && c) ≡ true → a ≡ true
first_of_three a b c all = (and_parts a b (and_parts (a && b) c all).0).0

second_of_three : (a b c : Bool) → (a && b && c) ≡ true → b ≡ true
second_of_three a b c all = (and_parts a b (and_parts (a && b) c all).0).1

third_of_three : (a b c : Bool) → (a && b && c) ≡ true → c ≡ true
third_of_three a b c all = (and_parts (a && b) c all).1

zero_named : 0 < 32
zero_named = omega arith

below_16 : (n : ℕ) → n < 16 → n < 32
below_16 n l = omega (arith, l)

-- the operands that are read are registers
pub names : (i : Ins) → can_be_spelled i ≡ true → NamesRegisters (operation i)
names (Lui rd imm) fits = record { first = zero_named; second = zero_named }
names (Auipc rd imm) fits = record { first = zero_named; second = zero_named }
names (Jal rd offset) fits = record { first = zero_named; second = zero_named }
names (Jalr rd rs1 imm) fits = record { first = ltb-true rs1 32 (second_of_three (is_register rd) (is_register rs1) (is_signed imm 12) fits); second = zero_named }
names (Branch op rs1 rs2 offset) fits = record {
  first = ltb-true rs1 32 (first_of_three (is_register rs1) (is_register rs2) (is_offset offset 13) fits);
  second = ltb-true rs2 32 (second_of_three (is_register rs1) (is_register rs2) (is_offset offset 13) fits);
}
names (Load op rd rs1 imm) fits = record { first = ltb-true rs1 32 (second_of_three (is_register rd) (is_register rs1) (is_signed imm 12) fits); second = zero_named }
names (Store op rs1 rs2 imm) fits = record {
  first = ltb-true rs1 32 (first_of_three (is_register rs1) (is_register rs2) (is_signed imm 12) fits);
  second = ltb-true rs2 32 (second_of_three (is_register rs1) (is_register rs2) (is_signed imm 12) fits);
}
names (Imm op rd rs1 imm) fits = record { first = ltb-true rs1 32 (second_of_three (is_register rd) (is_register rs1) (is_operand op imm) fits); second = zero_named }
names (Reg op rd rs1 rs2) fits = record {
  first = ltb-true rs1 32 (second_of_three (is_register rd) (is_register rs1) (is_register rs2) fits);
  second = ltb-true rs2 32 (third_of_three (is_register rd) (is_register rs1) (is_register rs2) fits);
}
names (Fence pred succ) fits = record {
  first = below_16 pred (ltb-true pred 16 (and_parts (nat_lt pred 16) (nat_lt succ 16) fits).0);
  second = below_16 succ (ltb-true succ 16 (and_parts (nat_lt pred 16) (nat_lt succ 16) fits).1);
}
names Ecall fits = record { first = zero_named; second = zero_named }
names Ebreak fits = record { first = zero_named; second = zero_named }
names Mret fits = record { first = zero_named; second = zero_named }
names Wfi fits = record { first = zero_named; second = zero_named }
names (Csr op rd source csr) fits = record {
  first = ltb-true source 32 (second_of_three (is_register rd) (nat_lt source 32) (nat_lt csr 4096) fits);
  second = zero_named;
}
