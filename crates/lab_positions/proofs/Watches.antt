-- Bytes that are watched.
use Rattle.std.proofs.Common.{◌≡◌, ℕ, zero, suc, ◌+◌, ◌-◌, ◌<◌, ◌≤◌, ◌==◌, Bool, true, false, not, ◌||◌, List, [], ◌∷◌, Option, Some, None, refl, sym, ap, ◌∙◌, arith}
use Rattle.std.proofs.lemmas.Bool.{false≢true, lt-leb, and_right, eqb-true, eq-eqb}
use Rattle.hart_memory.specs.Memory.{Memory}
use Rattle.hart_memory.specs.Access.{byte_at, byte_by}
use Rattle.hart_memory.specs.Place.{is_in_rom, is_in_ram, place, place_by}
use Rattle.std.specs.Prelude.{nat_le}
use Rattle.hart_memory.specs.declared.address_map.TheConstants.{RAM_BASE, BANK_LEN}
use Rattle.lab_positions.specs.Watching.{is_alike, differ, is_changed, changed_or, first_changed}
use Rattle.lab_positions.specs.declared.watch.Watch.{Watch}

-- no address of memory is as high
none_by : (m : Memory) (rom ram : Bool) (at : ℕ) → rom ≡ false → ram ≡ false → None ≡ byte_by (place_by rom ram at) m
none_by m true ram at e f = absurd (false≢true (sym e))
none_by m false true at e f = absurd (false≢true (sym f))
none_by m false false at e f = refl

pub none_beyond : (m : Memory) (at : ℕ) → 4294967296 ≤ at → None ≡ byte_at m at
unfolding place
none_beyond m at l = none_by m (is_in_rom at 1) (is_in_ram at 1) at (lt-leb (at + 1) BANK_LEN (omega (arith, l))) (and_right (nat_le RAM_BASE at) (nat_le (at + 1) (RAM_BASE + BANK_LEN)) (lt-leb (at + 1) (RAM_BASE + BANK_LEN) (omega (arith, l))))

-- ---- along the bytes of a watch

pub differ_here : (before after : Memory) (at len k : ℕ) → k < len → is_alike (byte_at before (at + k)) (byte_at after (at + k)) ≡ false → differ before after (at + k) (len - k) ≡ true
differ_here before after at len k l e =
    let more : len - k ≡ suc (len - (k + 1)) = omega (arith, l) in
    rw more (ap (λ b. not b || differ before after (at + k + 1) (len - (k + 1))) e)

pub differ_on : (before after : Memory) (at len k : ℕ) → k < len → is_alike (byte_at before (at + k)) (byte_at after (at + k)) ≡ true → differ before after (at + k) (len - k) ≡ differ before after (at + (k + 1)) (len - (k + 1))
differ_on before after at len k l e =
    let more : len - k ≡ suc (len - (k + 1)) = omega (arith, l) in
    let on : at + k + 1 ≡ at + (k + 1) = omega arith in
    rw more (ap (λ b. not b || differ before after (at + k + 1) (len - (k + 1))) e ∙ ap (λ a. differ before after a (len - (k + 1))) on)

-- ---- what agrees with the memory before agrees with it after

alike_same : (a b c : Option ℕ) → is_alike a b ≡ true → is_alike a c ≡ is_alike b c
alike_same (Some x) (Some y) (Some z) e = ap (λ n. n == z) (eqb-true x y e)
alike_same (Some x) (Some y) None e = refl
alike_same (Some x) None c e = absurd (false≢true e)
alike_same None (Some y) c e = absurd (false≢true e)
alike_same None None (Some z) e = refl
alike_same None None None e = refl

differ_by : (a b : Bool) (rest rest' : Bool) → a ≡ b → rest ≡ rest' → (not a || rest) ≡ (not b || rest')
differ_by a b rest rest' e f = ap (λ x. not x || rest) e ∙ ap (λ x. not b || x) f

-- both tests are passed
both_false : (a rest : Bool) → (not a || rest) ≡ false → (a ≡ true) × (rest ≡ false)
both_false true rest e = (refl, e)
both_false false rest e = absurd (false≢true (sym e))

differ_same : (old before after : Memory) (at n : ℕ) → differ old before at n ≡ false → differ old after at n ≡ differ before after at n
differ_same old before after at zero e = refl
differ_same old before after at (suc n) e =
    let both = both_false (is_alike (byte_at old at) (byte_at before at)) (differ old before (at + 1) n) e in
    differ_by _ _ _ _ (alike_same (byte_at old at) (byte_at before at) (byte_at after at) both.0) (differ_same old before after (at + 1) n both.1)

changed_none : (b : Bool) (at : ℕ) (next : Option ℕ) → changed_or b at next ≡ None → (b ≡ false) × (next ≡ None)
changed_none true at next e = cc
changed_none false at next e = (refl, e)

changed_by : (a b : Bool) (at : ℕ) (next next' : Option ℕ) → a ≡ b → next ≡ next' → changed_or a at next ≡ changed_or b at next'
changed_by a b at next next' e f = ap (λ x. changed_or x at next) e ∙ ap (changed_or b at) f

pub changed_same : (old before after : Memory) (watches : List Watch) → first_changed old before watches ≡ None → first_changed old after watches ≡ first_changed before after watches
changed_same old before after [] e = refl
changed_same old before after (w ∷ ws) e =
    let both = changed_none (is_changed old before w) w.at (first_changed old before ws) e in
    changed_by _ _ w.at _ _ (differ_same old before after w.at w.len both.0) (changed_same old before after ws both.1)

-- ---- what doesn't change agrees with itself

alike_self : (a : Option ℕ) → is_alike a a ≡ true
alike_self (Some x) = eq-eqb x x refl
alike_self None = refl

differ_self : (m : Memory) (at n : ℕ) → differ m m at n ≡ false
differ_self m at zero = refl
differ_self m at (suc n) = ap (λ b. not b || differ m m (at + 1) n) (alike_self (byte_at m at)) ∙ differ_self m (at + 1) n

pub changed_self : (m : Memory) (watches : List Watch) → first_changed m m watches ≡ None
changed_self m [] = refl
changed_self m (w ∷ ws) = ap (λ b. changed_or b w.at (first_changed m m ws)) (differ_self m w.at w.len) ∙ changed_self m ws
