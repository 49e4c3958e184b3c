-- Levels and priorities by division: where u is the unit of a level, a control byte is u * q + r, and its level is
-- u * q + (u - 1).
use Rattle.std.proofs.Common.{◌≡◌, ℕ, ◌+◌, ◌-◌, ◌*◌, ◌/◌, ◌%◌, ◌^◌, ◌<◌, ◌≤◌, sym, ap, ◌∙◌, arith}
use Rattle.std.proofs.Math.Nat.{mul-le-mul_left, lt_of_mul-lt-mul_left, mul-add-mod_self_left, mod-eq_of_lt, div-one}
use Rattle.std.proofs.lemmas.Nat.{pow-add, pow_pos, div-mul-add}
use Rattle.hart_words.specs.Bits.{bits}
use Rattle.clic_regs.specs.ClicState.{ClicState, control_of}
use Rattle.clic_regs.specs.Filled.{filled, IsFilled}
use Rattle.clic_regs.specs.Level.{level, priority, level_of}

-- 256 is the unit times the number of levels
units : (n : ℕ) → n ≤ 8 → 2 ^ (8 - n) * 2 ^ n ≡ 256
units n l = let e : 8 - n + n ≡ 8 = omega arith in sym (pow-add 2 (8 - n) n) ∙ ap (λ k. 2 ^ k) e

divided : (c u : ℕ) → 0 < u → c - c % u + u - 1 ≡ u * (c / u) + (u - 1)
divided c u some = omega arith

divided-lt : (c u p : ℕ) → 0 < u → c < u * p → c - c % u + u - 1 < u * p
divided-lt c u p some small =
    let below : u * (c / u) < u * p = omega arith in
    let fewer : c / u < p = lt_of_mul-lt-mul_left u below in
    let whole : u * (c / u + 1) ≤ u * p = mul-le-mul_left u (omega arith) in
    omega (arith, divided c u some)

pub unit_small : (n : ℕ) → n ≤ 8 → 2 ^ (8 - n) ≤ 256
unit_small n l = let m : 2 ^ (8 - n) * 1 ≤ 2 ^ (8 - n) * 2 ^ n = mul-le-mul_left (2 ^ (8 - n)) (pow_pos n) in omega (arith, units n l)

-- a byte stays one when it is filled with ones
pub filled_small : (n c : ℕ) → n ≤ 8 → c < 256 → filled n c < 256
filled_small n c l k =
    let e = units n l in
    let small : c < 2 ^ (8 - n) * 2 ^ n = omega arith in
    omega (arith, divided-lt c (2 ^ (8 - n)) (2 ^ n) (pow_pos (8 - n)) small)

-- its upper bits are those of the control byte
pub level_upper : (n c : ℕ) → n ≤ 8 → c < 256 → bits (level n c) (8 - n) n ≡ bits c (8 - n) n
level_upper n c l k =
    let u : ℕ = 2 ^ (8 - n) in
    let some : 0 < u = pow_pos (8 - n) in
    let form : level n c ≡ c / u * u + (u - 1) = omega (arith, divided c u some) in
    ap (λ x. x / u % 2 ^ n) form ∙ ap (λ x. x % 2 ^ n) (div-mul-add (c / u) u (u - 1) (omega arith))

-- and the bits below are ones
pub filled_lower : (n c : ℕ) → IsFilled n (filled n c)
filled_lower n c =
    let u : ℕ = 2 ^ (8 - n) in
    let some : 0 < u = pow_pos (8 - n) in
    ap (λ x. x % u) (div-one (filled n c)) ∙ ap (λ x. x % u) (divided c u some) ∙ mul-add-mod_self_left u (c / u) (u - 1) ∙ mod-eq_of_lt (omega arith)

pub priority_rest : (n c : ℕ) → priority n c ≡ bits c 0 (8 - n)
priority_rest n c = ap (λ x. x % 2 ^ (8 - n)) (sym (div-one c))

-- the level of an input is below 256
pub level_of-lt : (c : ClicState) (i : ℕ) → c.nlbits ≤ 8 → control_of c i < 256 → level_of c i < 256
level_of-lt c i l k = filled_small c.nlbits (control_of c i) l k
