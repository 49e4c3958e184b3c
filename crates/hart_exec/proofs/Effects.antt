-- What holds of every effect.
use Rattle.std.proofs.Common.{◌≡◌, ℕ, ◌+◌, ◌*◌, ◌%◌, ◌^◌, ◌<◌, inl, inr, refl, List, Bool, true, false, cond, arith, ◌&&◌, ◌==◌, ◌↔◌}
use Rattle.std.proofs.lemmas.Bool.{and_parts, eqb-true, ltb-true}
use Rattle.std.proofs.lemmas.Nat.{mod_below, pow_pos}
use Rattle.hart_words.specs.Registers.{register}
use Rattle.rv_encoding.specs.Fits.{can_be_spelled, is_register, is_upper, is_signed, is_offset, is_operand}
use Rattle.rv_encoding.specs.declared.instruction.Ins.{Ins}
use Rattle.rv_encoding.specs.declared.instruction.Ins.TheVariants.{Lui, Auipc, Jal, Jalr, Branch, Load, Store, Imm, Reg, Fence, Ecall, Ebreak, Mret, Wfi, Csr}
use Rattle.rv_encoding.specs.declared.operations.LoadOp.{LoadOp}
use Rattle.rv_encoding.specs.declared.operations.LoadOp.TheVariants.{Lb, Lh, Lw, Lbu, Lhu}
use Rattle.rv_encoding.specs.declared.operations.StoreOp.{StoreOp}
use Rattle.rv_encoding.specs.declared.operations.StoreOp.TheVariants.{Sb, Sh, Sw}
use Rattle.hart_exec.specs.Access.{IsWidth, load_width, store_width}
use Rattle.hart_exec.specs.Bounds.{IsInBounds, HasWidth, StaysEven, is_system}
use Rattle.hart_exec.specs.Branches.{branch_taken}
use Rattle.hart_exec.specs.Effect.{effect}
use Rattle.hart_exec.specs.declared.effect.Effect.TheVariants.{System}

load_has_width : (op : LoadOp) → IsWidth (load_width op)
load_has_width Lb = inl refl
load_has_width Lh = inr (inl refl)
load_has_width Lw = inr (inr refl)
load_has_width Lbu = inl refl
load_has_width Lhu = inr (inl refl)

store_has_width : (op : StoreOp) → IsWidth (store_width op)
store_has_width Sb = inl refl
store_has_width Sh = inr (inl refl)
store_has_width Sw = inr (inr refl)

-- whatever the fields hold
pub effect_has_width : (i : Ins) (length : ℕ) (regs : List ℕ) (pc : ℕ) → HasWidth (effect i length regs pc)
unfolding effect
effect_has_width (Lui rd imm) length regs pc = tt
effect_has_width (Auipc rd imm) length regs pc = tt
effect_has_width (Jal rd offset) length regs pc = tt
effect_has_width (Jalr rd rs1 imm) length regs pc = tt
effect_has_width (Branch op rs1 rs2 offset) length regs pc = tt
effect_has_width (Load op rd rs1 imm) length regs pc = load_has_width op
effect_has_width (Store op rs1 rs2 imm) length regs pc = store_has_width op
effect_has_width (Imm op rd rs1 imm) length regs pc = tt
effect_has_width (Reg op rd rs1 rs2) length regs pc = tt
effect_has_width (Fence pred succ) length regs pc = tt
effect_has_width Ecall length regs pc = tt
effect_has_width Ebreak length regs pc = tt
effect_has_width Mret length regs pc = tt
effect_has_width Wfi length regs pc = tt
effect_has_width (Csr op rd source csr) length regs pc = tt

-- the first of several tests that all pass
first_of_two : (a b : Bool) → (a && b) ≡ true → a ≡ true
first_of_two a b all = (and_parts a b all).0

first_of_three : (a b c : Bool) → (a && b && c) ≡ true → a ≡ true
first_of_three a b c all = (and_parts a b (and_parts (a && b) c all).0).0

below_word : (n : ℕ) → n % 2 ^ 32 < 2 ^ 32
below_word n = omega arith

chosen_below : (b : Bool) (m n : ℕ) → cond b (m % 2 ^ 32) (n % 2 ^ 32) < 2 ^ 32
chosen_below true m n = omega arith
chosen_below false m n = omega arith

pub effect_in_bounds : (i : Ins) (length : ℕ) (regs : List ℕ) (pc : ℕ) → can_be_spelled i ≡ true → IsInBounds (effect i length regs pc)
unfolding effect
effect_in_bounds (Lui rd imm) length regs pc fits = (ltb-true rd 32 (first_of_two (is_register rd) (is_upper imm) fits), below_word (pc + length))
effect_in_bounds (Auipc rd imm) length regs pc fits = (ltb-true rd 32 (first_of_two (is_register rd) (is_upper imm) fits), below_word (pc + length))
effect_in_bounds (Jal rd offset) length regs pc fits = (ltb-true rd 32 (first_of_two (is_register rd) (is_offset offset 21) fits), below_word (pc + offset))
effect_in_bounds (Jalr rd rs1 imm) length regs pc fits = (ltb-true rd 32 (first_of_three (is_register rd) (is_register rs1) (is_signed imm 12) fits), omega arith)
effect_in_bounds (Branch op rs1 rs2 offset) length regs pc fits = (omega arith, chosen_below (branch_taken op (register regs rs1) (register regs rs2)) (pc + offset) (pc + length))
effect_in_bounds (Load op rd rs1 imm) length regs pc fits =
    (ltb-true rd 32 (first_of_three (is_register rd) (is_register rs1) (is_signed imm 12) fits), below_word (register regs rs1 + imm), load_has_width op)
effect_in_bounds (Store op rs1 rs2 imm) length regs pc fits =
    (below_word (register regs rs1 + imm), store_has_width op, mod_below (register regs rs2) (2 ^ (8 * store_width op)) (pow_pos (8 * store_width op)))
effect_in_bounds (Imm op rd rs1 imm) length regs pc fits = (ltb-true rd 32 (first_of_three (is_register rd) (is_register rs1) (is_operand op imm) fits), below_word (pc + length))
effect_in_bounds (Reg op rd rs1 rs2) length regs pc fits = (ltb-true rd 32 (first_of_three (is_register rd) (is_register rs1) (is_register rs2) fits), below_word (pc + length))
effect_in_bounds (Fence pred succ) length regs pc fits = (omega arith, below_word (pc + length))
effect_in_bounds Ecall length regs pc fits = tt
effect_in_bounds Ebreak length regs pc fits = tt
effect_in_bounds Mret length regs pc fits = tt
effect_in_bounds Wfi length regs pc fits = tt
effect_in_bounds (Csr op rd source csr) length regs pc fits = tt

offset_even : (offset b : ℕ) → is_offset offset b ≡ true → offset % 2 ≡ 0
offset_even offset b here = eqb-true _ _ (and_parts (is_signed offset b) (offset % 2 == 0) here).1

sum_even : (m n : ℕ) → m % 2 ≡ 0 → n % 2 ≡ 0 → (m + n) % 2 ^ 32 % 2 ≡ 0
sum_even m n p q = omega arith

chosen_even : (b : Bool) (m n : ℕ) → m % 2 ≡ 0 → n % 2 ≡ 0 → cond b m n % 2 ≡ 0
chosen_even true m n p q = p
chosen_even false m n p q = q

pub effect_stays_even : (i : Ins) (length : ℕ) (regs : List ℕ) (pc : ℕ) → can_be_spelled i ≡ true → length % 2 ≡ 0 → pc % 2 ≡ 0 → StaysEven (effect i length regs pc)
unfolding effect
effect_stays_even (Lui rd imm) length regs pc fits l p = sum_even pc length p l
effect_stays_even (Auipc rd imm) length regs pc fits l p = sum_even pc length p l
effect_stays_even (Jal rd offset) length regs pc fits l p = sum_even pc offset p (offset_even offset 21 (and_parts (is_register rd) (is_offset offset 21) fits).1)
effect_stays_even (Jalr rd rs1 imm) length regs pc fits l p = omega arith
effect_stays_even (Branch op rs1 rs2 offset) length regs pc fits l p =
    chosen_even (branch_taken op (register regs rs1) (register regs rs2)) ((pc + offset) % 2 ^ 32) ((pc + length) % 2 ^ 32)
    (sum_even pc offset p (offset_even offset 13 (and_parts (is_register rs1 && is_register rs2) (is_offset offset 13) fits).1)) (sum_even pc length p l)
effect_stays_even (Load op rd rs1 imm) length regs pc fits l p = tt
effect_stays_even (Store op rs1 rs2 imm) length regs pc fits l p = tt
effect_stays_even (Imm op rd rs1 imm) length regs pc fits l p = sum_even pc length p l
effect_stays_even (Reg op rd rs1 rs2) length regs pc fits l p = sum_even pc length p l
effect_stays_even (Fence pred succ) length regs pc fits l p = sum_even pc length p l
effect_stays_even Ecall length regs pc fits l p = tt
effect_stays_even Ebreak length regs pc fits l p = tt
effect_stays_even Mret length regs pc fits l p = tt
effect_stays_even Wfi length regs pc fits l p = tt
effect_stays_even (Csr op rd source csr) length regs pc fits l p = tt

pub effect_is_system : (i : Ins) (length : ℕ) (regs : List ℕ) (pc : ℕ) → (effect i length regs pc ≡ System) ↔ (is_system i ≡ true)
unfolding effect
effect_is_system Ecall length regs pc = (λ _. refl, λ _. refl)
effect_is_system Ebreak length regs pc = (λ _. refl, λ _. refl)
effect_is_system Mret length regs pc = (λ _. refl, λ _. refl)
effect_is_system Wfi length regs pc = (λ _. refl, λ _. refl)
effect_is_system (Csr op rd source csr) length regs pc = (λ _. refl, λ _. refl)
effect_is_system i length regs pc = (λ h. cc, λ h. cc)
