-- Marks of dead bytes, and tests of several bytes.
pub use Rattle.chain_moves.proofs.Marking.{none_of, marked_other}
use Rattle.std.proofs.Common.{◌≡◌, ℕ, zero, suc, ◌+◌, ◌-◌, ◌<◌, ◌≤◌, ⊎_elim, Bool, true, false, List, length, get_or, set, refl, sym, ap, ◌∙◌, subst, arith}
use Rattle.std.specs.Prelude.{nat_le, slice_index_or}
use Rattle.std.proofs.lemmas.List.{get_or-set_same, get_or-set_other, set_past, get_or_past}
use Rattle.std.proofs.lemmas.Bool.{cases_eq, cases_lt, or_from, and_right, and_from, le-leb, false≢true, false_from_ne_true}
use Rattle.hart_memory.specs.declared.address_map.TheConstants.{RAM_BASE}
use Rattle.chain_moves.specs.Bytes.{some_byte, is_dead, marked}

-- ---- tests of several bytes
pub none_from : (test : ℕ → Bool) (at n : ℕ) → ((j : ℕ) → at ≤ j → j < at + n → test j ≡ false) → some_byte test at n ≡ false
unfolding some_byte
none_from test at zero h = refl
none_from test at (suc n) h = or_from (test at) (some_byte test (at + 1) n) (h at (omega arith) (omega arith)) (none_from test (at + 1) n (λ j l r. h j (omega arith) (omega arith)))

-- ---- marks
set_false : (dead : List Bool) (k i : ℕ) → get_or dead i false ≡ false → get_or (set dead k false) i false ≡ false
set_false dead k i h =
    ⊎_elim
    (λ (e : i ≡ k). ⊎_elim
    (λ (l : k < length dead). subst (λ j. get_or (set dead k false) j false ≡ false) (sym e) (get_or-set_same dead k false false l))
    (λ (l : length dead ≤ k). ap (λ d. get_or d i false) (set_past dead k false l) ∙ h)
    (cases_lt k (length dead)))
    (λ (n : i ≡ k → ⊥). get_or-set_other dead k i false false n ∙ h)
    (cases_eq i k)

set_here : (dead : List Bool) (k : ℕ) → get_or (set dead k false) k false ≡ false
set_here dead k =
    ⊎_elim
    (λ (l : k < length dead). get_or-set_same dead k false false l)
    (λ (l : length dead ≤ k). ap (λ d. get_or d k false) (set_past dead k false l) ∙ get_or_past dead k false l)
    (cases_lt k (length dead))

pub marked_stays : (n : ℕ) (dead : List Bool) (k i : ℕ) → get_or dead i false ≡ false → get_or (marked dead k n false) i false ≡ false
unfolding marked
marked_stays zero dead k i h = h
marked_stays (suc n) dead k i h = marked_stays n (set dead k false) (k + 1) i (set_false dead k i h)

pub marked_here : (n : ℕ) (dead : List Bool) (k i : ℕ) → k ≤ i → i < k + n → get_or (marked dead k n false) i false ≡ false
unfolding marked
marked_here zero dead k i l r = absurd (omega arith)
marked_here (suc n) dead k i l r =
    ⊎_elim
    (λ (e : i ≡ k). marked_stays n (set dead k false) (k + 1) i (subst (λ j. get_or (set dead k false) j false ≡ false) (sym e) (set_here dead k)))
    (λ (q : i ≡ k → ⊥). marked_here n (set dead k false) (k + 1) i (omega arith) (omega arith))
    (cases_eq i k)

-- ---- by addresses
pub alive_from : (dead : List Bool) (j : ℕ) → slice_index_or dead (j - RAM_BASE) false ≡ false → is_dead dead j ≡ false
alive_from dead j h = and_right (nat_le RAM_BASE j) (slice_index_or dead (j - RAM_BASE) false) h

pub alive_at : (dead : List Bool) (j : ℕ) → RAM_BASE ≤ j → is_dead dead j ≡ false → slice_index_or dead (j - RAM_BASE) false ≡ false
alive_at dead j l h = false_from_ne_true (slice_index_or dead (j - RAM_BASE) false) (λ t. false≢true (sym h ∙ and_from (nat_le RAM_BASE j) (slice_index_or dead (j - RAM_BASE) false) (leb_of l) t))
  where
    leb_of : RAM_BASE ≤ j → nat_le RAM_BASE j ≡ true
    leb_of l = le-leb RAM_BASE j l
