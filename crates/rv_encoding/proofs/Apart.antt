-- A word is of at most one row, so the first row that it is of is the only one.
use Rattle.std.proofs.Common.{◌≡◌, ℕ, zero, suc, ◌<◌, List, [], ◌∷◌, length, slice_index_or, Bool, true, false, bit_and, Some, None, ◌⊎◌, inl, inr, refl, sym, ap, subst, ◌∙◌, arith, ◌&&◌, cond, ◌==◌, not, eq-eqb, Option, Any, AllPairs, filter, ◌↔◌, IsNone, IfSome}
use Rattle.std.specs.List.{list_all}
use Rattle.std.proofs.lemmas.Nat.{and_assoc, and_comm}
use Rattle.std.proofs.lemmas.Bool.{and_parts, eqb-true, false≢true}
use Rattle.rv_encoding.specs.Rows.{Row, rows, IsOf, AreApart, Spells, spelled, first_of}
use Rattle.rv_encoding.specs.declared.instruction.Ins.{Ins}

-- ---- an element of a list that has a property

some_split : {X : Type 0} (P : X → Type 0) (x : X) (xs : List X) → Any P (x ∷ xs) → P x ⊎ Any P xs
some_split P x xs (zero, y, below, at, here) = inl (subst P (sym at) here)
some_split P x xs (suc k, y, below, at, here) = inr (k, y, omega arith, at, here)

none_in_empty : {X : Type 0} (P : X → Type 0) → Any P [] → ⊥
none_in_empty P (k, y, below, at, here) = omega arith

pub some_first : {X : Type 0} (P : X → Type 0) (x : X) (xs : List X) → P x → Any P (x ∷ xs)
some_first P x xs here = (0, x, omega arith, refl, here)

pub some_later : {X : Type 0} (P : X → Type 0) (x : X) (xs : List X) → Any P xs → Any P (x ∷ xs)
some_later P x xs (k, y, below, at, here) = (suc k, y, omega arith, at, here)

-- what holds of each that passes a test holds, where all pass and one has the property
pub some_passes : {X : Type 0} (p : X → Bool) (P : X → Type 0) (Q : Type 0) (then : (x : X) → p x ≡ true → P x → Q) (xs : List X) → list_all p xs ≡ true → Any P xs → Q
some_passes p P Q then [] all here = absurd (none_in_empty P here)
some_passes p P Q then (x ∷ xs) all here =
    let both = and_parts (p x) (list_all p xs) all in
    elim (some_split P x xs here) [
      | inl at ↦ then x both.0 at
      | inr at ↦ some_passes p P Q then xs both.1 at
    ]

-- ---- rows apart

-- the matches differ in a bit that both masks have
abbrev differ : Row → Row → Bool
differ r s = not (bit_and r.match s.mask == bit_and s.match r.mask)

abbrev all_differ : List Row → Bool
all_differ [] = true
all_differ (r ∷ rs) = list_all (differ r) rs && all_differ rs

same_common_bits : (w m n : ℕ) → bit_and (bit_and w m) n ≡ bit_and (bit_and w n) m
same_common_bits w m n = and_assoc n w m ∙ ap (bit_and w) (and_comm m n) ∙ sym (and_assoc m w n)

common_bits : (r s : Row) (w : ℕ) → IsOf r w → IsOf s w → bit_and r.match s.mask ≡ bit_and s.match r.mask
common_bits r s w p q = ap (λ x. bit_and x s.mask) (sym p) ∙ same_common_bits w r.mask s.mask ∙ ap (λ x. bit_and x r.mask) q

apart : (r s : Row) → differ r s ≡ true → AreApart r s
apart r s here w of_r of_s =
    let yes : (bit_and r.match s.mask == bit_and s.match r.mask) ≡ true = eq-eqb _ _ (common_bits r s w of_r of_s) in
    let clash : not true ≡ true = rw yes at here in cc

pub every : {X : Type 0} (p : X → Bool) (xs : List X) (k : ℕ) (d : X) → list_all p xs ≡ true → k < length xs → p (slice_index_or xs k d) ≡ true
every p [] k d all below = absurd (omega arith)
every p (x ∷ xs) zero d all below = (and_parts (p x) (list_all p xs) all).0
every p (x ∷ xs) (suc k) d all below = every p xs k d (and_parts (p x) (list_all p xs) all).1 (omega arith)

pairs_apart : (rs : List Row) → all_differ rs ≡ true → AllPairs AreApart rs
pairs_apart [] all i j d before below = absurd (omega arith)
pairs_apart (r ∷ rs) all zero zero d before below = absurd (omega arith)
pairs_apart (r ∷ rs) all zero (suc j) d before below =
    apart r (slice_index_or rs j d) (every (differ r) rs j d (and_parts (list_all (differ r) rs) (all_differ rs) all).0 (omega arith))
pairs_apart (r ∷ rs) all (suc i) zero d before below = absurd (omega arith)
pairs_apart (r ∷ rs) all (suc i) (suc j) d before below =
    pairs_apart rs (and_parts (list_all (differ r) rs) (all_differ rs) all).1 i j d (omega arith) (omega arith)

-- ---- the first row that a word is of

none_later : (r : Row) (rs : List Row) (w : ℕ) (i : Ins) → list_all (differ r) rs ≡ true → IsOf r w → Any (λ s. IsOf s w × (i ≡ s.makes w)) rs → ⊥
none_later r [] w i all here later = none_in_empty _ later
none_later r (s ∷ ss) w i all here later = elim (some_split _ s ss later) [
  | inl at ↦ apart r s (and_parts _ _ all).0 w here at.0
  | inr at ↦ none_later r ss w i (and_parts _ _ all).1 here at
]

unless : {A : Type 0} (b : Bool) (x y : A) → (b ≡ true → ⊥) → cond b x y ≡ y
unless true x y never = absurd (never refl)
unless false x y never = refl

first_is_only : (rs : List Row) (w : ℕ) (i : Ins) → all_differ rs ≡ true → Any (λ r. IsOf r w × (i ≡ r.makes w)) rs → first_of rs w ≡ Some i
first_is_only [] w i all here = absurd (none_in_empty _ here)
first_is_only (r ∷ rs) w i all here =
    let both = and_parts (list_all (differ r) rs) (all_differ rs) all in
    elim (some_split _ r rs here) [
      | inl at ↦ let yes : (bit_and w r.mask == r.match) ≡ true = eq-eqb _ _ at.0 in rw yes (ap Some (sym at.1))
      | inr at ↦
          unless (bit_and w r.mask == r.match) (Some (r.makes w)) (first_of rs w) (λ t. none_later r rs w i both.0 (eqb-true _ _ t) at)
          ∙ first_is_only rs w i both.1 at
    ]

-- by which way the test of the first row went
pub split : (b : Bool) (i j : Ins) (rest : Option Ins) → cond b (Some j) rest ≡ Some i → ((b ≡ true) × (i ≡ j)) ⊎ (rest ≡ Some i)
split true i j rest found = inl (refl, cc)
split false i j rest found = inr found

first_spells : (rs : List Row) (w : ℕ) (i : Ins) → first_of rs w ≡ Some i → Any (λ r. IsOf r w × (i ≡ r.makes w)) rs
first_spells [] w i found = cc
first_spells (r ∷ rs) w i found = elim (split (bit_and w r.mask == r.match) i (r.makes w) (first_of rs w) found) [
  | inl here ↦ some_first _ r rs (eqb-true _ _ here.0, here.1)
  | inr later ↦ some_later _ r rs (first_spells rs w i later)
]

-- ---- the table, which a word spells one instruction by

rows_differ : all_differ rows ≡ true
unfolding rows
rows_differ = refl

-- no word is of two rows
pub rows_apart : AllPairs AreApart rows
rows_apart = pairs_apart rows rows_differ

-- the table's instruction is the only one that the word spells
pub spelled_only : (w : ℕ) (i : Ins) → Spells w i → spelled w ≡ Some i
unfolding Spells spelled
spelled_only w i here = first_is_only rows w i rows_differ here

pub spelled_spells : (w : ℕ) (i : Ins) → spelled w ≡ Some i → Spells w i
unfolding Spells spelled
spelled_spells w i found = first_spells rows w i found

pub none_spelled : (o : Option Ins) (P : Ins → Type 0) → ((i : Ins) → o ≡ Some i → P i) → ((i : Ins) → P i → o ≡ Some i) → IsNone o ↔ ((i : Ins) → ¬ P i)
none_spelled None P found only = (λ _ i here. let found : None ≡ Some i = only i here in cc, λ _. refl)
none_spelled (Some j) P found only = (λ none i here. cc, λ never. absurd (never j (found j refl)))

pub if_some : (o : Option Ins) (P : Ins → Type 0) → ((i : Ins) → o ≡ Some i → P i) → IfSome o P
if_some None P found = tt
if_some (Some i) P found = found i refl

-- ---- the rows that have some bits in common with a word

-- rows whose masks have these bits, and whose matches differ from the word there, aren't the word's
narrow_step : (t : Bool) (r : Row) (w : ℕ) (rs kept : List Row) → (IsOf r w → t ≡ true) → first_of rs w ≡ first_of kept w → first_of (r ∷ rs) w ≡ first_of (cond t (r ∷ kept) kept) w
narrow_step true r w rs kept stays rest = ap (λ x. cond (bit_and w r.mask == r.match) (Some (r.makes w)) x) rest
narrow_step false r w rs kept stays rest =
    unless (bit_and w r.mask == r.match) (Some (r.makes w)) (first_of rs w) (λ e. false≢true (stays (eqb-true _ _ e))) ∙ rest

pub narrowed : (mask : ℕ) (rs : List Row) (w : ℕ) → list_all (λ r. bit_and r.mask mask == mask) rs ≡ true → first_of rs w ≡ first_of (filter (λ r. bit_and r.match mask == bit_and w mask) rs) w
narrowed mask [] w all = refl
narrowed mask (r ∷ rs) w all =
    let both = and_parts (bit_and r.mask mask == mask) (list_all (λ s. bit_and s.mask mask == mask) rs) all in
    narrow_step (bit_and r.match mask == bit_and w mask) r w rs (filter (λ s. bit_and s.match mask == bit_and w mask) rs)
    (λ of_r. eq-eqb _ _ (ap (λ x. bit_and x mask) (sym of_r) ∙ and_assoc mask w r.mask ∙ ap (bit_and w) (eqb-true _ _ both.0)))
    (narrowed mask rs w both.1)
