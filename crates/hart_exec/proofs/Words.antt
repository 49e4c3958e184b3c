-- What instructions put into registers are words.
use Rattle.std.proofs.Common.{◌≡◌, ℕ, ◌+◌, ◌-◌, ◌*◌, ◌/◌, ◌%◌, ◌^◌, ◌<◌, ◌≤◌, Bool, true, false, cond, List, subst, arith, ℤ, pos, negsuc}
use Rattle.std.specs.Prelude.{◌==◌, ◌&&◌, nat_lt, ◌*ℤ◌, int_lt, int_div, int_rem, bit_and}
use Rattle.std.specs.Int.{int_shr}
use Rattle.std.proofs.lemmas.Nat.{or_of_32, xor_of_32, and_le_l}
use Rattle.std.proofs.Math.Nat.{div-le_self}
use Rattle.std.proofs.lemmas.Bool.{and_parts, eqb-true, ltb-true}
use Rattle.hart_words.specs.TwosComplement.{word, wrapped, signed_value}
use Rattle.hart_words.specs.Registers.{register}
use Rattle.hart_words.specs.Sign.{sign_extended}
use Rattle.rv_encoding.specs.Fits.{can_be_spelled, is_register, is_upper, is_signed, is_operand}
use Rattle.rv_encoding.specs.declared.instruction.Ins.{Ins}
use Rattle.rv_encoding.specs.declared.instruction.Ins.TheVariants.{Lui, Auipc, Jal, Jalr, Branch, Load, Store, Imm, Reg, Fence, Ecall, Ebreak, Mret, Wfi, Csr}
use Rattle.rv_encoding.specs.declared.operations.RegOp.{RegOp}
use Rattle.rv_encoding.specs.declared.operations.RegOp.TheVariants.{Add, Sub, Sll, Slt, Sltu, Xor, Srl, Sra, Or, And, Mul, Mulh, Mulhsu, Mulhu, Div, Divu, Rem, Remu}
use Rattle.rv_encoding.specs.declared.operations.ImmOp.{ImmOp}
use Rattle.rv_encoding.specs.declared.operations.ImmOp.TheVariants.{Addi, Slti, Sltiu, Xori, Ori, Andi, Slli, Srli, Srai}
use Rattle.hart_exec.specs.Arithmetic.{register_result, on_registers}
use Rattle.hart_exec.specs.Access.{extended}
use Rattle.hart_exec.specs.Bounds.{AreWords, HasWord}
use Rattle.hart_exec.specs.Effect.{effect}

word-lt : (n : ℕ) → word n < 2 ^ 32
word-lt n = omega arith

low-lt : (a : ℕ) → 2 ^ 32 - 1 - a % 2 ^ 32 < 2 ^ 32
low-lt a = omega arith

wrapped-lt : (z : ℤ) → wrapped z < 2 ^ 32
wrapped-lt (pos a) = word-lt a
wrapped-lt (negsuc a) = low-lt a

below : (a b n : ℕ) → a ≤ b → b < n → a < n
below a b n l h = omega arith

mod-le : (x y : ℕ) → x % y ≤ x
mod-le x y = omega arith

chosen-lt : (b : Bool) (x y n : ℕ) → x < n → y < n → cond b x y < n
chosen-lt true x y n l h = l
chosen-lt false x y n l h = h

ones : 2 ^ 32 - 1 < 2 ^ 32
ones = omega arith

bit-lt : (b : Bool) → cond b 1 0 < 2 ^ 32
bit-lt b = chosen-lt b 1 0 (2 ^ 32) (omega arith) (omega arith)

pub result-lt : (op : RegOp) (x y : ℕ) → x < 2 ^ 32 → y < 2 ^ 32 → register_result op x y < 2 ^ 32
result-lt Add x y l h = word-lt (x + y)
result-lt Sub x y l h = word-lt (x + 2 ^ 32 - y)
result-lt Sll x y l h = word-lt (x * 2 ^ (y % 32))
result-lt Slt x y l h = bit-lt (int_lt (signed_value x) (signed_value y))
result-lt Sltu x y l h = bit-lt (nat_lt x y)
result-lt Xor x y l h = xor_of_32 x y l h
result-lt Srl x y l h = below (x / 2 ^ (y % 32)) x (2 ^ 32) (div-le_self x (2 ^ (y % 32))) l
result-lt Sra x y l h = wrapped-lt (int_shr (signed_value x) (y % 32))
result-lt Or x y l h = or_of_32 x y l h
result-lt And x y l h = below (bit_and x y) x (2 ^ 32) (and_le_l x y) l
result-lt Mul x y l h = word-lt (x * y)
result-lt Mulh x y l h = wrapped-lt (int_shr (signed_value x *ℤ signed_value y) 32)
result-lt Mulhsu x y l h = wrapped-lt (int_shr (signed_value x *ℤ pos y) 32)
result-lt Mulhu x y l h = wrapped-lt (int_shr (pos x *ℤ pos y) 32)
result-lt Div x y l h = chosen-lt (y == 0) (2 ^ 32 - 1) (wrapped (int_div (signed_value x) (signed_value y))) (2 ^ 32) ones (wrapped-lt (int_div (signed_value x) (signed_value y)))
result-lt Divu x y l h = chosen-lt (y == 0) (2 ^ 32 - 1) (x / y) (2 ^ 32) ones (below (x / y) x (2 ^ 32) (div-le_self x y) l)
result-lt Rem x y l h = chosen-lt (y == 0) x (wrapped (int_rem (signed_value x) (signed_value y))) (2 ^ 32) l (wrapped-lt (int_rem (signed_value x) (signed_value y)))
result-lt Remu x y l h = chosen-lt (y == 0) x (x % y) (2 ^ 32) l (below (x % y) x (2 ^ 32) (mod-le x y) l)

-- what a load puts into its register
pub extended-lt : (value width : ℕ) (signed : Bool) → value < 2 ^ 32 → extended value width signed < 2 ^ 32
extended-lt v width false l = l
extended-lt v width true l = chosen-lt (nat_lt v (2 ^ (8 * width - 1))) v ((v + 2 ^ 32 - 2 ^ (8 * width)) % 2 ^ 32) (2 ^ 32) l (word-lt (v + 2 ^ 32 - 2 ^ (8 * width)))

-- ---- immediates that can be spelled
low_12-lt : (v : ℕ) → v % 2 ^ 12 < 2 ^ 32
low_12-lt v = omega arith

signed-lt : (imm : ℕ) → is_signed imm 12 ≡ true → imm < 2 ^ 32
signed-lt imm e =
    let is : sign_extended (imm % 2 ^ 12) 12 ≡ imm = eqb-true (sign_extended (imm % 2 ^ 12) 12) imm e in
    subst (λ x. x < 2 ^ 32) is (chosen-lt (nat_lt (imm % 2 ^ 12) (2 ^ 11)) (imm % 2 ^ 12) ((imm % 2 ^ 12 + 2 ^ 32 - 2 ^ 12) % 2 ^ 32) (2 ^ 32) (low_12-lt imm) (word-lt (imm % 2 ^ 12 + 2 ^ 32 - 2 ^ 12)))

shift-lt : (imm : ℕ) → nat_lt imm 32 ≡ true → imm < 2 ^ 32
shift-lt imm e = let l = ltb-true imm 32 e in omega arith

pub operand-lt : (op : ImmOp) (imm : ℕ) → is_operand op imm ≡ true → imm < 2 ^ 32
operand-lt Addi imm e = signed-lt imm e
operand-lt Slti imm e = signed-lt imm e
operand-lt Sltiu imm e = signed-lt imm e
operand-lt Xori imm e = signed-lt imm e
operand-lt Ori imm e = signed-lt imm e
operand-lt Andi imm e = signed-lt imm e
operand-lt Slli imm e = shift-lt imm e
operand-lt Srli imm e = shift-lt imm e
operand-lt Srai imm e = shift-lt imm e

-- ---- the value of an effect
pub effect_has_word : (i : Ins) (length : ℕ) (regs : List ℕ) (pc : ℕ) → can_be_spelled i ≡ true → AreWords regs → HasWord (effect i length regs pc)
unfolding effect
effect_has_word (Lui rd imm) length regs pc fits w = ltb-true imm (2 ^ 32) (and_parts (nat_lt imm (2 ^ 32)) (imm % 2 ^ 12 == 0) (and_parts (is_register rd) (is_upper imm) fits).1).0
effect_has_word (Auipc rd imm) length regs pc fits w = word-lt (pc + imm)
effect_has_word (Jal rd offset) length regs pc fits w = word-lt (pc + length)
effect_has_word (Jalr rd rs1 imm) length regs pc fits w = word-lt (pc + length)
effect_has_word (Branch op rs1 rs2 offset) length regs pc fits w = omega arith
effect_has_word (Load op rd rs1 imm) length regs pc fits w = tt
effect_has_word (Store op rs1 rs2 imm) length regs pc fits w = tt
effect_has_word (Imm op rd rs1 imm) length regs pc fits w = result-lt (on_registers op) (register regs rs1) imm (w rs1) (operand-lt op imm (and_parts (is_register rd && is_register rs1) (is_operand op imm) fits).1)
effect_has_word (Reg op rd rs1 rs2) length regs pc fits w = result-lt op (register regs rs1) (register regs rs2) (w rs1) (w rs2)
effect_has_word (Fence pred succ) length regs pc fits w = omega arith
effect_has_word Ecall length regs pc fits w = tt
effect_has_word Ebreak length regs pc fits w = tt
effect_has_word Mret length regs pc fits w = tt
effect_has_word Wfi length regs pc fits w = tt
effect_has_word (Csr op rd source csr) length regs pc fits w = tt
