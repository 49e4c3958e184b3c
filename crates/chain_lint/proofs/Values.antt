-- What abstract values say, and that joins and instructions keep it.
use Rattle.std.proofs.Common.{◌≡◌, ℕ, zero, suc, ◌+◌, ◌^◌, ◌<◌, ◌≤◌, ⊎_elim, Bool, true, false, cond, List, [], ◌∷◌, length, get_or, set, refl, sym, ap, ◌∙◌, subst, arith, length-set}
use Rattle.std.specs.Prelude.{◌==◌, nat_eq}
use Rattle.std.proofs.lemmas.List.{get_or-set_same, get_or-set_other, set_past, get_or_past}
use Rattle.std.proofs.lemmas.Bool.{cases_eq, cases_lt, eqb-true, cond_both, false≢true}
use Rattle.hart_words.specs.TwosComplement.{word}
use Rattle.hart_words.specs.Registers.{register, with_register}
use Rattle.chain_flow.specs.Flow.{value_of, set_value, is_same, same_or_unknown, joined_values}
use Rattle.chain_flow.specs.declared.value.Value.{Value}
use Rattle.chain_flow.specs.declared.value.Value.TheVariants.{Entry, Const, Stack, Unknown}
use Rattle.chain_flow.specs.Transfer.{plus}

-- what a value says of a word, by the registers at the start
abbrev pub Holds : List ℕ → Value → ℕ → Type 0
Holds kept (Entry r) x = x ≡ register kept r
Holds kept (Const c) x = x ≡ c
Holds kept (Stack k) x = x ≡ word (register kept 2 + k)
Holds kept Unknown x = Unit {0}

abbrev pub Fits : List ℕ → List Value → List ℕ → Type 0
Fits kept values registers = (r : ℕ) → Holds kept (value_of values r) (register registers r)

abbrev pub AreWords : List ℕ → Type 0
AreWords registers = (r : ℕ) → register registers r < 2 ^ 32

-- ---- joins
pub same : (v u : Value) → is_same v u ≡ true → v ≡ u
same (Entry r) (Entry q) e = ap Entry (eqb-true r q e)
same (Const r) (Const q) e = ap Const (eqb-true r q e)
same (Stack r) (Stack q) e = ap Stack (eqb-true r q e)
same Unknown Unknown e = refl
same (Entry r) (Const q) e = absurd (false≢true e)
same (Entry r) (Stack q) e = absurd (false≢true e)
same (Entry r) Unknown e = absurd (false≢true e)
same (Const r) (Entry q) e = absurd (false≢true e)
same (Const r) (Stack q) e = absurd (false≢true e)
same (Const r) Unknown e = absurd (false≢true e)
same (Stack r) (Entry q) e = absurd (false≢true e)
same (Stack r) (Const q) e = absurd (false≢true e)
same (Stack r) Unknown e = absurd (false≢true e)
same Unknown (Entry q) e = absurd (false≢true e)
same Unknown (Const q) e = absurd (false≢true e)
same Unknown (Stack q) e = absurd (false≢true e)

join_left : (kept : List ℕ) (b : Bool) (v : Value) (x : ℕ) → Holds kept v x → Holds kept (same_or_unknown b v) x
join_left kept true v x h = h
join_left kept false v x h = tt

join_right_by : (kept : List ℕ) (b : Bool) (v u : Value) (x : ℕ) → is_same v u ≡ b → Holds kept u x → Holds kept (same_or_unknown b v) x
join_right_by kept true v u x e h = subst (λ w. Holds kept w x) (sym (same v u e)) h
join_right_by kept false v u x e h = tt

pub left_at : (kept : List ℕ) (vs us : List Value) (r x : ℕ) → Holds kept (value_of vs r) x → Holds kept (value_of (joined_values vs us) r) x
unfolding joined_values
left_at kept [] us r x h = tt
left_at kept (v ∷ vs) [] r x h = tt
left_at kept (v ∷ vs) (u ∷ us) zero x h = join_left kept (is_same v u) v x h
left_at kept (v ∷ vs) (u ∷ us) (suc r) x h = left_at kept vs us r x h

pub right_at : (kept : List ℕ) (vs us : List Value) (r x : ℕ) → Holds kept (value_of us r) x → Holds kept (value_of (joined_values vs us) r) x
unfolding joined_values
right_at kept [] us r x h = tt
right_at kept (v ∷ vs) [] r x h = tt
right_at kept (v ∷ vs) (u ∷ us) zero x h = join_right_by kept (is_same v u) v u x refl h
right_at kept (v ∷ vs) (u ∷ us) (suc r) x h = right_at kept vs us r x h

pub length-joined_left : (vs us : List Value) (n : ℕ) → length vs ≤ n → length (joined_values vs us) ≤ n
unfolding joined_values
length-joined_left [] us n h = omega arith
length-joined_left (v ∷ vs) [] n h = omega arith
length-joined_left (v ∷ vs) (u ∷ us) zero h = absurd (omega arith)
length-joined_left (v ∷ vs) (u ∷ us) (suc n) h = let i = length-joined_left vs us n (omega arith) in omega arith

pub length-joined_right : (vs us : List Value) (n : ℕ) → length us ≤ n → length (joined_values vs us) ≤ n
unfolding joined_values
length-joined_right [] us n h = omega arith
length-joined_right (v ∷ vs) [] n h = omega arith
length-joined_right (v ∷ vs) (u ∷ us) zero h = absurd (omega arith)
length-joined_right (v ∷ vs) (u ∷ us) (suc n) h = let i = length-joined_right vs us n (omega arith) in omega arith

-- ---- a register is set
set_at : (kept : List ℕ) (values : List Value) (registers : List ℕ) (rd : ℕ) (v : Value) (x r : ℕ) → length values ≤ length registers → Fits kept values registers → Holds kept v x
    → Holds kept (value_of (set values rd v) r) (register (set registers rd x) r)
set_at kept values registers rd v x r long fits h =
    ⊎_elim
    (λ (e : r ≡ rd). ⊎_elim
    (λ (l : rd < length values).
    subst (λ i. Holds kept (get_or (set values rd v) i Unknown) (get_or (set registers rd x) i 0)) (sym e)
    (subst (λ y. Holds kept (get_or (set values rd v) rd Unknown) y) (sym (get_or-set_same registers rd x 0 (omega arith)))
    (subst (λ w. Holds kept w x) (sym (get_or-set_same values rd v Unknown l)) h)))
    (λ (l : length values ≤ rd).
    subst (λ w. Holds kept w (register (set registers rd x) r)) (sym (ap (λ us. get_or us r Unknown) (set_past values rd v l) ∙ get_or_past values r Unknown (omega arith))) tt)
    (cases_lt rd (length values)))
    (λ (n : r ≡ rd → ⊥).
    subst (λ y. Holds kept (get_or (set values rd v) r Unknown) y) (sym (get_or-set_other registers rd r x 0 n))
    (subst (λ w. Holds kept w (register registers r)) (sym (get_or-set_other values rd r v Unknown n)) (fits r)))
    (cases_eq r rd)

set_by : (b : Bool) (kept : List ℕ) (values : List Value) (registers : List ℕ) (rd : ℕ) (v : Value) (x : ℕ) → length values ≤ length registers → Fits kept values registers → Holds kept v x
    → Fits kept (cond b values (set values rd v)) (cond b registers (set registers rd x))
set_by true kept values registers rd v x long fits h = fits
set_by false kept values registers rd v x long fits h = λ r. set_at kept values registers rd v x r long fits h

pub fits_set : (kept : List ℕ) (values : List Value) (registers : List ℕ) (rd : ℕ) (v : Value) (x : ℕ) → length values ≤ length registers → Fits kept values registers → Holds kept v x
    → Fits kept (set_value values rd v) (with_register registers rd x)
fits_set kept values registers rd v x long fits h = set_by (nat_eq rd 0) kept values registers rd v x long fits h

length_by : (b : Bool) (values : List Value) (registers : List ℕ) (rd : ℕ) (v : Value) (x : ℕ) → length values ≤ length registers → length (cond b values (set values rd v)) ≤ length (cond b registers (set registers rd x))
length_by true values registers rd v x h = h
length_by false values registers rd v x h = omega (arith, length-set values rd v, length-set registers rd x)

pub length_set : (values : List Value) (registers : List ℕ) (rd : ℕ) (v : Value) (x : ℕ) → length values ≤ length registers → length (set_value values rd v) ≤ length (with_register registers rd x)
length_set values registers rd v x h = length_by (nat_eq rd 0) values registers rd v x h

-- ---- sums
small : (x : ℕ) → x < 2 ^ 32 → word (x + 0) ≡ x
small x h = omega arith

pub plus_holds : (kept : List ℕ) (v : Value) (x imm : ℕ) → x < 2 ^ 32 → Holds kept v x → Holds kept (plus v imm) (word (x + imm))
plus_holds kept (Entry r) x imm lt h =
    cond_both (imm == 0) (Entry r) Unknown (λ w. Holds kept w (word (x + imm)))
    (λ e. ap (λ i. word (x + i)) (eqb-true imm 0 e) ∙ small x lt ∙ h) (λ e. tt)
plus_holds kept (Const c) x imm lt h = ap (λ y. word (y + imm)) h
plus_holds kept (Stack k) x imm lt h = omega arith
plus_holds kept Unknown x imm lt h = tt
