-- What operations on values give holds of what the operations on words give.
use Rattle.std.proofs.Common.{◌≡◌, ℕ, zero, suc, ◌+◌, ◌-◌, ◌*◌, ◌/◌, ◌%◌, ◌^◌, ◌<◌, ◌≤◌, Bool, true, false, cond, List, refl, sym, ap, ◌∙◌, subst, arith}
use Rattle.std.specs.Prelude.{◌==◌, nat_le, nat_lt, min, bit_and, int_lt}
use Rattle.std.proofs.lemmas.Bool.{eqb-true, eqb-false, leb-true, cond_both}
use Rattle.std.proofs.lemmas.Nat.{mul-le, le-div, mod_below, div-add-mod', and_le_l, and_le_r}
use Rattle.hart_words.specs.TwosComplement.{word, signed_value}
use Rattle.hart_words.specs.Registers.{register}
use Rattle.hart_exec.specs.Arithmetic.{register_result, on_registers}
use Rattle.rv_encoding.specs.declared.operations.ImmOp.{ImmOp}
use Rattle.rv_encoding.specs.declared.operations.ImmOp.TheVariants.{Addi, Slti, Sltiu, Xori, Ori, Andi, Slli, Srli, Srai}
use Rattle.rv_encoding.specs.declared.operations.RegOp.{RegOp}
use Rattle.rv_encoding.specs.declared.operations.RegOp.TheVariants.{Add, Sub, Sll, Slt, Sltu, Xor, Srl, Sra, Or, And, Mul, Mulh, Mulhsu, Mulhu, Div, Divu, Rem, Remu}
use Rattle.chain_certify.specs.Flow.{low, high, ranged}
use Rattle.chain_certify.specs.declared.value.Value.{Value}
use Rattle.chain_certify.specs.declared.value.Value.TheVariants.{Entry, Const, Stack, Range, Unknown}
use Rattle.chain_certify.specs.Transfer.{plus, by_bounds, computed, immediate_value, added, sum_value}
use Rattle.chain_certify.proofs.Values.{Holds, low_holds, high_holds, ranged_holds, wrapped_holds, plus_holds}

-- ---- numbers
div_le : (a b k : ℕ) → 0 < k → a ≤ b → a / k ≤ b / k
div_le a b k p l = let e = div-add-mod' a k in le-div (a / k) b k p (omega arith)

power_positive : (n : ℕ) → 0 < 2 ^ n
power_positive zero = omega arith
power_positive (suc n) = let i = power_positive n in omega arith

zero_or_one : (kept : List ℕ) (b : Bool) → Holds kept (Range 0 1) (cond b 1 0)
zero_or_one kept true = ((omega arith), (omega arith))
zero_or_one kept false = ((omega arith), (omega arith))

self : (x : ℕ) → x ≤ x
self x = omega arith

sum_low : (a b x y : ℕ) → a ≤ x → b ≤ y → a + b ≤ x + y
sum_low a b x y l m = omega arith

minus_low : (a b x y : ℕ) → a ≤ x → y ≤ b → a + 2 ^ 32 - b ≤ x + 2 ^ 32 - y
minus_low a b x y l m = omega arith

remainder_high : (r y g : ℕ) → r < y → y ≤ g → r ≤ g - 1
remainder_high r y g l m = omega arith

not_zero : (y a : ℕ) → 1 ≤ a → a ≤ y → y ≡ 0 → ⊥
not_zero y a p l e = absurd (omega arith)

positive : (y : ℕ) → (y ≡ 0 → ⊥) → 0 < y
positive zero n = absurd (n refl)
positive (suc y) n = omega arith

module _ (kept : List ℕ) where
  remainder_holds : (u : Value) (x y : ℕ) → low u ≤ y → y ≤ high u → 1 ≤ low u → Holds kept (ranged 0 (high u - 1)) (cond (y == 0) x (x % y))
  remainder_holds u x y l g p =
      cond_both (y == 0) x (x % y) (λ r. Holds kept (ranged 0 (high u - 1)) r)
      (λ e. absurd (not_zero y (low u) p l (eqb-true y 0 e)))
      (λ e. ranged_holds kept 0 (high u - 1) (x % y) (omega arith) (remainder_high (x % y) y (high u) (mod_below x y (positive y (eqb-false y 0 e))) g))

  pub by_bounds_holds : (op : RegOp) (v u : Value) (x y : ℕ) → low v ≤ x → x ≤ high v → low u ≤ y → y ≤ high u → Holds kept u y → Holds kept (by_bounds op v u) (register_result op x y)
  by_bounds_holds Add v u x y a b c d h = wrapped_holds kept (low v + low u) (high v + high u) (x + y) (sum_low (low v) (low u) x y a c) (sum_low x y (high v) (high u) b d)
  by_bounds_holds Sub v u x y a b c d h = wrapped_holds kept (low v + 2 ^ 32 - high u) (high v + 2 ^ 32 - low u) (x + 2 ^ 32 - y) (minus_low (low v) (high u) x y a d) (minus_low x y (high v) (low u) b c)
  by_bounds_holds Mul v u x y a b c d h = wrapped_holds kept (low v * low u) (high v * high u) (x * y) (mul-le (low v) (low u) x y a c) (mul-le x y (high v) (high u) b d)
  by_bounds_holds And v u x y a b c d h = let l = and_le_l x y in let r = and_le_r x y in ranged_holds kept 0 (min (high v) (high u)) (bit_and x y) (omega arith) (omega arith)
  by_bounds_holds Slt v u x y a b c d h = zero_or_one kept (int_lt (signed_value x) (signed_value y))
  by_bounds_holds Sltu v u x y a b c d h = zero_or_one kept (nat_lt x y)
  by_bounds_holds Remu v u x y a b c d h =
      cond_both (nat_le 1 (low u)) (ranged 0 (high u - 1)) Unknown (λ w. Holds kept w (cond (y == 0) x (x % y)))
      (λ e. remainder_holds u x y c d (leb-true 1 (low u) e))
      (λ e. tt)
  by_bounds_holds Sll v (Const n) x y a b c d h =
      subst (λ i. Holds kept (by_bounds Sll v (Const n)) (word (x * 2 ^ (i % 32)))) (sym h)
      (wrapped_holds kept (low v * 2 ^ (n % 32)) (high v * 2 ^ (n % 32)) (x * 2 ^ (n % 32))
      (mul-le (low v) (2 ^ (n % 32)) x (2 ^ (n % 32)) a (self (2 ^ (n % 32)))) (mul-le x (2 ^ (n % 32)) (high v) (2 ^ (n % 32)) b (self (2 ^ (n % 32)))))
  by_bounds_holds Sll v (Entry r) x y a b c d h = tt
  by_bounds_holds Sll v (Stack k) x y a b c d h = tt
  by_bounds_holds Sll v (Range l g) x y a b c d h = tt
  by_bounds_holds Sll v Unknown x y a b c d h = tt
  by_bounds_holds Srl v (Const n) x y a b c d h =
      subst (λ i. Holds kept (by_bounds Srl v (Const n)) (x / 2 ^ (i % 32))) (sym h)
      (ranged_holds kept (low v / 2 ^ (n % 32)) (high v / 2 ^ (n % 32)) (x / 2 ^ (n % 32))
      (div_le (low v) x (2 ^ (n % 32)) (power_positive (n % 32)) a) (div_le x (high v) (2 ^ (n % 32)) (power_positive (n % 32)) b))
  by_bounds_holds Srl v (Entry r) x y a b c d h = tt
  by_bounds_holds Srl v (Stack k) x y a b c d h = tt
  by_bounds_holds Srl v (Range l g) x y a b c d h = tt
  by_bounds_holds Srl v Unknown x y a b c d h = tt
  by_bounds_holds Xor v u x y a b c d h = tt
  by_bounds_holds Sra v u x y a b c d h = tt
  by_bounds_holds Or v u x y a b c d h = tt
  by_bounds_holds Mulh v u x y a b c d h = tt
  by_bounds_holds Mulhsu v u x y a b c d h = tt
  by_bounds_holds Mulhu v u x y a b c d h = tt
  by_bounds_holds Div v u x y a b c d h = tt
  by_bounds_holds Divu v u x y a b c d h = tt
  by_bounds_holds Rem v u x y a b c d h = tt

  bounded : (op : RegOp) (v u : Value) (x y : ℕ) → x < 2 ^ 32 → y ≤ high u → Holds kept v x → Holds kept u y → Holds kept (by_bounds op v u) (register_result op x y)
  bounded op v u x y l g h k = by_bounds_holds op v u x y (low_holds kept v x h) (high_holds kept v x l h) (low_holds kept u y k) g k

  computed_holds : (op : RegOp) (v u : Value) (x y : ℕ) → x < 2 ^ 32 → y ≤ high u → Holds kept v x → Holds kept u y → Holds kept (computed op v u) (register_result op x y)
  computed_holds op (Const c) (Const d) x y l g h k = ap (λ i. register_result op i y) h ∙ ap (λ i. register_result op c i) k
  computed_holds op (Const c) (Entry r) x y l g h k = bounded op (Const c) (Entry r) x y l g h k
  computed_holds op (Const c) (Stack r) x y l g h k = bounded op (Const c) (Stack r) x y l g h k
  computed_holds op (Const c) (Range a b) x y l g h k = bounded op (Const c) (Range a b) x y l g h k
  computed_holds op (Const c) Unknown x y l g h k = bounded op (Const c) Unknown x y l g h k
  computed_holds op (Entry r) u x y l g h k = bounded op (Entry r) u x y l g h k
  computed_holds op (Stack r) u x y l g h k = bounded op (Stack r) u x y l g h k
  computed_holds op (Range a b) u x y l g h k = bounded op (Range a b) u x y l g h k
  computed_holds op Unknown u x y l g h k = bounded op Unknown u x y l g h k

  pub immediate_holds : (op : ImmOp) (v : Value) (x imm : ℕ) → x < 2 ^ 32 → Holds kept v x → Holds kept (immediate_value op v imm) (register_result (on_registers op) x imm)
  immediate_holds Addi v x imm l h = plus_holds kept v x imm l h
  immediate_holds Slti v x imm l h = computed_holds Slt v (Const imm) x imm l (self imm) h refl
  immediate_holds Sltiu v x imm l h = computed_holds Sltu v (Const imm) x imm l (self imm) h refl
  immediate_holds Xori v x imm l h = computed_holds Xor v (Const imm) x imm l (self imm) h refl
  immediate_holds Ori v x imm l h = computed_holds Or v (Const imm) x imm l (self imm) h refl
  immediate_holds Andi v x imm l h = computed_holds And v (Const imm) x imm l (self imm) h refl
  immediate_holds Slli v x imm l h = computed_holds Sll v (Const imm) x imm l (self imm) h refl
  immediate_holds Srli v x imm l h = computed_holds Srl v (Const imm) x imm l (self imm) h refl
  immediate_holds Srai v x imm l h = computed_holds Sra v (Const imm) x imm l (self imm) h refl

  -- ---- sums
  copied : (y : ℕ) → y < 2 ^ 32 → word (0 + y) ≡ y
  copied y l = omega arith

  copy_holds : (rs1 : ℕ) (u : Value) (registers : List ℕ) (y : ℕ) → register registers 0 ≡ 0 → y < 2 ^ 32 → Holds kept u y → rs1 ≡ 0 → Holds kept u (word (register registers rs1 + y))
  copy_holds rs1 u registers y z l h e = subst (λ x. Holds kept u (word (x + y))) (sym (ap (λ r. register registers r) e ∙ z)) (subst (λ x. Holds kept u x) (sym (copied y l)) h)

  other_holds : (rs1 : ℕ) (v u : Value) (registers : List ℕ) (y : ℕ) → register registers 0 ≡ 0 → register registers rs1 < 2 ^ 32 → y < 2 ^ 32 → Holds kept v (register registers rs1) → Holds kept u y
      → Holds kept (cond (rs1 == 0) u (by_bounds Add v u)) (word (register registers rs1 + y))
  other_holds rs1 v u registers y z lx ly h k =
      cond_both (rs1 == 0) u (by_bounds Add v u) (λ w. Holds kept w (word (register registers rs1 + y)))
      (λ e. copy_holds rs1 u registers y z ly k (eqb-true rs1 0 e))
      (λ e. bounded Add v u (register registers rs1) y lx (high_holds kept u y ly k) h k)

  added_holds : (rs1 : ℕ) (v u : Value) (registers : List ℕ) (y : ℕ) → register registers 0 ≡ 0 → register registers rs1 < 2 ^ 32 → y < 2 ^ 32 → Holds kept v (register registers rs1) → Holds kept u y
      → Holds kept (added rs1 v u) (word (register registers rs1 + y))
  added_holds rs1 v (Const c) registers y z lx ly h k =
      cond_both (rs1 == 0) (Const c) (plus v c) (λ w. Holds kept w (word (register registers rs1 + y)))
      (λ e. copy_holds rs1 (Const c) registers y z ly k (eqb-true rs1 0 e))
      (λ e. subst (λ i. Holds kept (plus v c) (word (register registers rs1 + i))) (sym k) (plus_holds kept v (register registers rs1) c lx h))
  added_holds rs1 v (Entry r) registers y z lx ly h k = other_holds rs1 v (Entry r) registers y z lx ly h k
  added_holds rs1 v (Stack r) registers y z lx ly h k = other_holds rs1 v (Stack r) registers y z lx ly h k
  added_holds rs1 v (Range a b) registers y z lx ly h k = other_holds rs1 v (Range a b) registers y z lx ly h k
  added_holds rs1 v Unknown registers y z lx ly h k = other_holds rs1 v Unknown registers y z lx ly h k

  pub sum_holds : (op : RegOp) (rs1 : ℕ) (v u : Value) (registers : List ℕ) (y : ℕ) → register registers 0 ≡ 0 → register registers rs1 < 2 ^ 32 → y < 2 ^ 32 → Holds kept v (register registers rs1) → Holds kept u y
      → Holds kept (sum_value op rs1 v u) (register_result op (register registers rs1) y)
  sum_holds Add rs1 v u registers y z lx ly h k = added_holds rs1 v u registers y z lx ly h k
  sum_holds Sub rs1 v u registers y z lx ly h k = computed_holds Sub v u (register registers rs1) y lx (high_holds kept u y ly k) h k
  sum_holds Sll rs1 v u registers y z lx ly h k = computed_holds Sll v u (register registers rs1) y lx (high_holds kept u y ly k) h k
  sum_holds Slt rs1 v u registers y z lx ly h k = computed_holds Slt v u (register registers rs1) y lx (high_holds kept u y ly k) h k
  sum_holds Sltu rs1 v u registers y z lx ly h k = computed_holds Sltu v u (register registers rs1) y lx (high_holds kept u y ly k) h k
  sum_holds Xor rs1 v u registers y z lx ly h k = computed_holds Xor v u (register registers rs1) y lx (high_holds kept u y ly k) h k
  sum_holds Srl rs1 v u registers y z lx ly h k = computed_holds Srl v u (register registers rs1) y lx (high_holds kept u y ly k) h k
  sum_holds Sra rs1 v u registers y z lx ly h k = computed_holds Sra v u (register registers rs1) y lx (high_holds kept u y ly k) h k
  sum_holds Or rs1 v u registers y z lx ly h k = computed_holds Or v u (register registers rs1) y lx (high_holds kept u y ly k) h k
  sum_holds And rs1 v u registers y z lx ly h k = computed_holds And v u (register registers rs1) y lx (high_holds kept u y ly k) h k
  sum_holds Mul rs1 v u registers y z lx ly h k = computed_holds Mul v u (register registers rs1) y lx (high_holds kept u y ly k) h k
  sum_holds Mulh rs1 v u registers y z lx ly h k = computed_holds Mulh v u (register registers rs1) y lx (high_holds kept u y ly k) h k
  sum_holds Mulhsu rs1 v u registers y z lx ly h k = computed_holds Mulhsu v u (register registers rs1) y lx (high_holds kept u y ly k) h k
  sum_holds Mulhu rs1 v u registers y z lx ly h k = computed_holds Mulhu v u (register registers rs1) y lx (high_holds kept u y ly k) h k
  sum_holds Div rs1 v u registers y z lx ly h k = computed_holds Div v u (register registers rs1) y lx (high_holds kept u y ly k) h k
  sum_holds Divu rs1 v u registers y z lx ly h k = computed_holds Divu v u (register registers rs1) y lx (high_holds kept u y ly k) h k
  sum_holds Rem rs1 v u registers y z lx ly h k = computed_holds Rem v u (register registers rs1) y lx (high_holds kept u y ly k) h k
  sum_holds Remu rs1 v u registers y z lx ly h k = computed_holds Remu v u (register registers rs1) y lx (high_holds kept u y ly k) h k
