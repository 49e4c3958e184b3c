-- What abstract values say, that one below another says as much, and that instructions keep it.
use Rattle.std.proofs.Common.{◌≡◌, ℕ, zero, suc, ◌+◌, ◌-◌, ◌^◌, ◌<◌, ◌≤◌, ⊎_elim, Bool, true, false, cond, List, [], ◌∷◌, length, get_or, set, refl, sym, ap, ◌∙◌, subst, arith, length-set}
use Rattle.std.specs.Prelude.{◌==◌, ◌&&◌, nat_eq, nat_le, nat_lt}
use Rattle.std.proofs.lemmas.List.{get_or-set_same, get_or-set_other, set_past, get_or_past}
use Rattle.std.proofs.lemmas.Bool.{cases_eq, cases_lt, eqb-true, leb-true, ltb-true, and_parts, cond_both, false≢true}
use Rattle.hart_words.specs.TwosComplement.{word}
use Rattle.hart_words.specs.Registers.{register, with_register}
use Rattle.chain_certify.specs.Flow.{value_of, set_value, low, high, ranged, is_below, are_below}
use Rattle.chain_certify.specs.declared.value.Value.{Value}
use Rattle.chain_certify.specs.declared.value.Value.TheVariants.{Entry, Const, Stack, Range, Unknown}
use Rattle.chain_certify.specs.Transfer.{plus, wrapped_range}

-- what a value says of a word, by the registers at the start
abbrev pub Holds : List ℕ → Value → ℕ → Type 0
Holds kept (Entry r) x = x ≡ register kept r
Holds kept (Const c) x = x ≡ c
Holds kept (Stack k) x = x ≡ word (register kept 2 + k)
Holds kept (Range least greatest) x = (least ≤ x) × (x ≤ greatest)
Holds kept Unknown x = Unit {0}

abbrev pub Fits : List ℕ → List Value → List ℕ → Type 0
Fits kept values registers = (r : ℕ) → Holds kept (value_of values r) (register registers r)

abbrev pub AreWords : List ℕ → Type 0
AreWords registers = (r : ℕ) → register registers r < 2 ^ 32

-- ---- bounds
pub low_holds : (kept : List ℕ) (v : Value) (x : ℕ) → Holds kept v x → low v ≤ x
low_holds kept (Entry r) x h = omega arith
low_holds kept (Const c) x h = omega arith
low_holds kept (Stack k) x h = omega arith
low_holds kept (Range l g) x h = h.0
low_holds kept Unknown x h = omega arith

pub high_holds : (kept : List ℕ) (v : Value) (x : ℕ) → x < 2 ^ 32 → Holds kept v x → x ≤ high v
high_holds kept (Entry r) x l h = omega arith
high_holds kept (Const c) x l h = omega arith
high_holds kept (Stack k) x l h = omega arith
high_holds kept (Range l' g) x l h = h.1
high_holds kept Unknown x l h = omega arith

between : (a b x : ℕ) → a ≡ b → a ≤ x → x ≤ b → x ≡ a
between a b x e l g = omega arith

pub ranged_holds : (kept : List ℕ) (least greatest x : ℕ) → least ≤ x → x ≤ greatest → Holds kept (ranged least greatest) x
ranged_holds kept least greatest x l g =
    cond_both (least == greatest) (Const least) (Range least greatest) (λ w. Holds kept w x)
    (λ e. between least greatest x (eqb-true least greatest e) l g)
    (λ e. (l, g))

not_wrapped : (y g : ℕ) → y ≤ g → g < 2 ^ 32 → word y ≡ y
not_wrapped y g l h = omega arith

once_wrapped : (y g : ℕ) → 2 ^ 32 ≤ y → y ≤ g → g < 2 ^ 33 → word y ≡ y - 2 ^ 32
once_wrapped y g a l h = omega arith

minus_le : (a b : ℕ) → a ≤ b → a - 2 ^ 32 ≤ b - 2 ^ 32
minus_le a b l = omega arith

pub wrapped_holds : (kept : List ℕ) (least greatest y : ℕ) → least ≤ y → y ≤ greatest → Holds kept (wrapped_range least greatest) (word y)
wrapped_holds kept least greatest y l g =
    cond_both (nat_le least greatest && nat_lt greatest (2 ^ 32)) (ranged least greatest) (cond (nat_le (2 ^ 32) least && (nat_le least greatest && nat_lt greatest (2 ^ 33))) (ranged (least - 2 ^ 32) (greatest - 2 ^ 32)) Unknown) (λ w. Holds kept w (word y))
    (λ e. subst (λ x. Holds kept (ranged least greatest) x) (sym (not_wrapped y greatest g (ltb-true greatest (2 ^ 32) (and_parts (nat_le least greatest) (nat_lt greatest (2 ^ 32)) e).1))) (ranged_holds kept least greatest y l g))
    (λ e. cond_both (nat_le (2 ^ 32) least && (nat_le least greatest && nat_lt greatest (2 ^ 33))) (ranged (least - 2 ^ 32) (greatest - 2 ^ 32)) Unknown (λ w. Holds kept w (word y))
    (λ d.
    let parts = and_parts (nat_le (2 ^ 32) least) (nat_le least greatest && nat_lt greatest (2 ^ 33)) d in
    let a = leb-true (2 ^ 32) least parts.0 in
    let b = ltb-true greatest (2 ^ 33) (and_parts (nat_le least greatest) (nat_lt greatest (2 ^ 33)) parts.1).1 in
    subst (λ x. Holds kept (ranged (least - 2 ^ 32) (greatest - 2 ^ 32)) x) (sym (once_wrapped y greatest (omega arith) g b))
    (ranged_holds kept (least - 2 ^ 32) (greatest - 2 ^ 32) (y - 2 ^ 32) (minus_le least y l) (minus_le y greatest g)))
    (λ d. tt))

-- ---- below
pub below_holds : (kept : List ℕ) (v u : Value) (x : ℕ) → is_below v u ≡ true → Holds kept v x → Holds kept u x
below_holds kept (Entry r) (Entry q) x e h = h ∙ ap (λ i. register kept i) (eqb-true r q e)
below_holds kept (Entry r) (Const d) x e h = absurd (false≢true e)
below_holds kept (Entry r) (Stack l) x e h = absurd (false≢true e)
below_holds kept (Entry r) (Range l g) x e h = absurd (false≢true e)
below_holds kept (Entry r) Unknown x e h = tt
below_holds kept (Const c) (Entry q) x e h = absurd (false≢true e)
below_holds kept (Const c) (Const d) x e h = h ∙ eqb-true c d e
below_holds kept (Const c) (Stack l) x e h = absurd (false≢true e)
below_holds kept (Const c) (Range l g) x e h =
    let parts = and_parts (nat_le l c) (nat_le c g) e in
    let a = leb-true l c parts.0 in
    let b = leb-true c g parts.1 in
    ((omega arith), (omega arith))
below_holds kept (Const c) Unknown x e h = tt
below_holds kept (Stack k) (Entry q) x e h = absurd (false≢true e)
below_holds kept (Stack k) (Const d) x e h = absurd (false≢true e)
below_holds kept (Stack k) (Stack l) x e h = h ∙ ap (λ i. word (register kept 2 + i)) (eqb-true k l e)
below_holds kept (Stack k) (Range l g) x e h = absurd (false≢true e)
below_holds kept (Stack k) Unknown x e h = tt
below_holds kept (Range a b) (Entry q) x e h = absurd (false≢true e)
below_holds kept (Range a b) (Const d) x e h = absurd (false≢true e)
below_holds kept (Range a b) (Stack l) x e h = absurd (false≢true e)
below_holds kept (Range a b) (Range l g) x e h =
    let parts = and_parts (nat_le l a) (nat_le b g) e in
    let p = leb-true l a parts.0 in
    let q = leb-true b g parts.1 in
    let i = h.0 in
    let j = h.1 in
    ((omega arith), (omega arith))
below_holds kept (Range a b) Unknown x e h = tt
below_holds kept Unknown (Entry q) x e h = absurd (false≢true e)
below_holds kept Unknown (Const d) x e h = absurd (false≢true e)
below_holds kept Unknown (Stack l) x e h = absurd (false≢true e)
below_holds kept Unknown (Range l g) x e h = absurd (false≢true e)
below_holds kept Unknown Unknown x e h = tt

pub below_at : (kept : List ℕ) (vs us : List Value) (r x : ℕ) → are_below vs us ≡ true → Holds kept (value_of vs r) x → Holds kept (value_of us r) x
unfolding are_below
below_at kept vs [] r x e h = tt
below_at kept [] (u ∷ us) r x e h = absurd (false≢true e)
below_at kept (v ∷ vs) (u ∷ us) zero x e h = below_holds kept v u x (and_parts (is_below v u) (are_below vs us) e).0 h
below_at kept (v ∷ vs) (u ∷ us) (suc r) x e h = below_at kept vs us r x (and_parts (is_below v u) (are_below vs us) e).1 h

pub length-below : (vs us : List Value) → are_below vs us ≡ true → length us ≤ length vs
unfolding are_below
length-below vs [] e = omega arith
length-below [] (u ∷ us) e = absurd (false≢true e)
length-below (v ∷ vs) (u ∷ us) e = let i = length-below vs us (and_parts (is_below v u) (are_below vs us) e).1 in omega arith

-- ---- a register is set
set_at : (kept : List ℕ) (values : List Value) (registers : List ℕ) (rd : ℕ) (v : Value) (x r : ℕ) → length values ≤ length registers → Fits kept values registers → Holds kept v x
    → Holds kept (value_of (set values rd v) r) (register (set registers rd x) r)
set_at kept values registers rd v x r long fits h =
    ⊎_elim
    (λ (e : r ≡ rd). ⊎_elim
    (λ (l : rd < length values).
    subst (λ i. Holds kept (get_or (set values rd v) i Unknown) (get_or (set registers rd x) i 0)) (sym e)
    (subst (λ y. Holds kept (get_or (set values rd v) rd Unknown) y) (sym (get_or-set_same registers rd x 0 (omega arith)))
    (subst (λ w. Holds kept w x) (sym (get_or-set_same values rd v Unknown l)) h)))
    (λ (l : length values ≤ rd).
    subst (λ w. Holds kept w (register (set registers rd x) r)) (sym (ap (λ us. get_or us r Unknown) (set_past values rd v l) ∙ get_or_past values r Unknown (omega arith))) tt)
    (cases_lt rd (length values)))
    (λ (n : r ≡ rd → ⊥).
    subst (λ y. Holds kept (get_or (set values rd v) r Unknown) y) (sym (get_or-set_other registers rd r x 0 n))
    (subst (λ w. Holds kept w (register registers r)) (sym (get_or-set_other values rd r v Unknown n)) (fits r)))
    (cases_eq r rd)

set_by : (b : Bool) (kept : List ℕ) (values : List Value) (registers : List ℕ) (rd : ℕ) (v : Value) (x : ℕ) → length values ≤ length registers → Fits kept values registers → Holds kept v x
    → Fits kept (cond b values (set values rd v)) (cond b registers (set registers rd x))
set_by true kept values registers rd v x long fits h = fits
set_by false kept values registers rd v x long fits h = λ r. set_at kept values registers rd v x r long fits h

pub fits_set : (kept : List ℕ) (values : List Value) (registers : List ℕ) (rd : ℕ) (v : Value) (x : ℕ) → length values ≤ length registers → Fits kept values registers → Holds kept v x
    → Fits kept (set_value values rd v) (with_register registers rd x)
fits_set kept values registers rd v x long fits h = set_by (nat_eq rd 0) kept values registers rd v x long fits h

length_by : (b : Bool) (values : List Value) (registers : List ℕ) (rd : ℕ) (v : Value) (x : ℕ) → length values ≤ length registers → length (cond b values (set values rd v)) ≤ length (cond b registers (set registers rd x))
length_by true values registers rd v x h = h
length_by false values registers rd v x h = omega (arith, length-set values rd v, length-set registers rd x)

pub length_set : (values : List Value) (registers : List ℕ) (rd : ℕ) (v : Value) (x : ℕ) → length values ≤ length registers → length (set_value values rd v) ≤ length (with_register registers rd x)
length_set values registers rd v x h = length_by (nat_eq rd 0) values registers rd v x h

-- ---- more is known of a register
refined_at : (kept : List ℕ) (values : List Value) (registers : List ℕ) (q : ℕ) (v : Value) (r : ℕ) → Fits kept values registers → Holds kept v (register registers q)
    → Holds kept (value_of (set values q v) r) (register registers r)
refined_at kept values registers q v r fits h =
    ⊎_elim
    (λ (e : r ≡ q). ⊎_elim
    (λ (l : q < length values).
    subst (λ i. Holds kept (get_or (set values q v) i Unknown) (register registers i)) (sym e)
    (subst (λ w. Holds kept w (register registers q)) (sym (get_or-set_same values q v Unknown l)) h))
    (λ (l : length values ≤ q).
    subst (λ w. Holds kept w (register registers r)) (sym (ap (λ us. get_or us r Unknown) (set_past values q v l) ∙ get_or_past values r Unknown (omega arith))) tt)
    (cases_lt q (length values)))
    (λ (n : r ≡ q → ⊥). subst (λ w. Holds kept w (register registers r)) (sym (get_or-set_other values q r v Unknown n)) (fits r))
    (cases_eq r q)

refined_by : (b : Bool) (kept : List ℕ) (values : List Value) (registers : List ℕ) (q : ℕ) (v : Value) → Fits kept values registers → Holds kept v (register registers q) → Fits kept (cond b values (set values q v)) registers
refined_by true kept values registers q v fits h = fits
refined_by false kept values registers q v fits h = λ r. refined_at kept values registers q v r fits h

pub fits_refined : (kept : List ℕ) (values : List Value) (registers : List ℕ) (q : ℕ) (v : Value) → Fits kept values registers → Holds kept v (register registers q) → Fits kept (set_value values q v) registers
fits_refined kept values registers q v fits h = refined_by (nat_eq q 0) kept values registers q v fits h

length_refined_by : (b : Bool) (values : List Value) (q : ℕ) (v : Value) → length (cond b values (set values q v)) ≡ length values
length_refined_by true values q v = refl
length_refined_by false values q v = length-set values q v

pub length_refined : (values : List Value) (q : ℕ) (v : Value) → length (set_value values q v) ≡ length values
length_refined values q v = length_refined_by (nat_eq q 0) values q v

-- ---- sums
small : (x : ℕ) → x < 2 ^ 32 → word (x + 0) ≡ x
small x h = omega arith

add_le : (a b c : ℕ) → a ≤ b → a + c ≤ b + c
add_le a b c l = omega arith

pub plus_holds : (kept : List ℕ) (v : Value) (x imm : ℕ) → x < 2 ^ 32 → Holds kept v x → Holds kept (plus v imm) (word (x + imm))
plus_holds kept (Entry r) x imm lt h =
    cond_both (imm == 0) (Entry r) Unknown (λ w. Holds kept w (word (x + imm)))
    (λ e. ap (λ i. word (x + i)) (eqb-true imm 0 e) ∙ small x lt ∙ h) (λ e. tt)
plus_holds kept (Const c) x imm lt h = ap (λ y. word (y + imm)) h
plus_holds kept (Stack k) x imm lt h = omega arith
plus_holds kept (Range l g) x imm lt h = wrapped_holds kept (l + imm) (g + imm) (x + imm) (add_le l x imm h.0) (add_le x g imm h.1)
plus_holds kept Unknown x imm lt h = tt
