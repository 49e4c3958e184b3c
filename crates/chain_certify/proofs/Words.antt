-- What a handler's own stack words say, and that joins, stores and rises of the stack pointer keep it.
use Rattle.std.proofs.Common.{◌≡◌, ◌≢◌, ℕ, ◌+◌, ◌-◌, ◌%◌, ◌^◌, ◌<◌, ◌≤◌, ◌⊎◌, inl, inr, ⊎_elim, Bool, true, false, List, [], ◌∷◌, length, Option, Some, None, refl, sym, subst, arith}
use Rattle.std.specs.Prelude.{◌==◌, not, nat_le, slice_index}
use Rattle.std.proofs.lemmas.Bool.{and_parts, cases_lt, cond_both, eqb-true, eqb-false, leb-true, not-true, false≢true}
use Rattle.hart_memory.specs.Bytes.{number_at, with_number}
use Rattle.hart_memory.specs.declared.address_map.TheConstants.{RAM_BASE, BANK_LEN}
use Rattle.hart_memory.proofs.NumberLemmas.{number_same, number-with_number_apart, number-with_number_same}
use Rattle.chain_moves.specs.Bytes.{is_dead, marked}
use Rattle.chain_certify.specs.Flow.{depth, found, is_found_below, words_below, without, with_stack_word, words_above}
use Rattle.chain_certify.specs.declared.value.Value.{Value}
use Rattle.chain_certify.specs.declared.stack_word.StackWord.{StackWord}
use Rattle.chain_certify.proofs.Values.{Holds, below_holds}
use Rattle.chain_lint.proofs.Marking.{marked_stays, marked_here, alive_from, alive_at}

-- the word stands at or above the stack pointer and below the frame, holds its value, and is alive
pub record IsOwn (kept ram : List ℕ) (dead : List Bool) (sp frame : ℕ) (w : StackWord) : Type 0 where
  pub small : w.offset < 2 ^ 32
  pub deep : 4 ≤ depth w.offset
  pub aligned : depth w.offset % 4 ≡ 0
  pub above : sp + depth w.offset ≤ frame
  pub is : Holds kept w.value (number_at ram (frame - depth w.offset - RAM_BASE) 4)
  pub alive : (j : ℕ) → frame - depth w.offset ≤ j → j < frame - depth w.offset + 4 → is_dead dead j ≡ false

abbrev pub AreOwn : List ℕ → List ℕ → List Bool → ℕ → ℕ → List StackWord → Type 0
AreOwn kept ram dead sp frame [] = Unit {0}
AreOwn kept ram dead sp frame (w ∷ ws) = IsOwn kept ram dead sp frame w × AreOwn kept ram dead sp frame ws

-- bytes and marks of the addresses from low to high - 1 stay
pub record Stays (low high : ℕ) (ram ram' : List ℕ) (dead dead' : List Bool) : Type 0 where
  pub bytes : (j : ℕ) → low ≤ j → j < high → slice_index ram (j - RAM_BASE) ≡ slice_index ram' (j - RAM_BASE)
  pub marks : (j : ℕ) → low ≤ j → j < high → is_dead dead j ≡ false → is_dead dead' j ≡ false

pub stays_within : (low high low' high' : ℕ) (ram ram' : List ℕ) (dead dead' : List Bool) → low ≤ low' → high' ≤ high → Stays low high ram ram' dead dead' → Stays low' high' ram ram' dead dead'
stays_within low high low' high' ram ram' dead dead' l r h = record { bytes = λ j a b. h.bytes j (omega arith) (omega arith); marks = λ j a b d. h.marks j (omega arith) (omega arith) d }

own_stays : (kept ram ram' : List ℕ) (dead dead' : List Bool) (sp frame : ℕ) (w : StackWord) → RAM_BASE ≤ sp → Stays sp frame ram ram' dead dead' → IsOwn kept ram dead sp frame w → IsOwn kept ram' dead' sp frame w
own_stays kept ram ram' dead dead' sp frame w l s h =
    let deep = h.deep in
    let above = h.above in
    record {
      small = h.small;
      deep = h.deep;
      aligned = h.aligned;
      above = h.above;
      is = subst (λ n. Holds kept w.value n)
          (number_same ram ram' (frame - depth w.offset - RAM_BASE) 4
          (λ i p q. let back : RAM_BASE + i - RAM_BASE ≡ i = omega arith in
          subst (λ x. slice_index ram x ≡ slice_index ram' x) back (s.bytes (RAM_BASE + i) (omega arith) (omega arith))))
          h.is;
      alive = λ j p q. s.marks j (omega arith) (omega arith) (h.alive j p q);
    }

pub words_stay : (kept ram ram' : List ℕ) (dead dead' : List Bool) (sp frame : ℕ) (ws : List StackWord) → RAM_BASE ≤ sp → Stays sp frame ram ram' dead dead' → AreOwn kept ram dead sp frame ws → AreOwn kept ram' dead' sp frame ws
words_stay kept ram ram' dead dead' sp frame [] l s h = tt
words_stay kept ram ram' dead dead' sp frame (w ∷ ws) l s h = (own_stays kept ram ram' dead dead' sp frame w l s h.0, words_stay kept ram ram' dead dead' sp frame ws l s h.1)

-- ---- a word that is found
pub found_own : (kept ram : List ℕ) (dead : List Bool) (sp frame k : ℕ) (ws : List StackWord) (v : Value) → AreOwn kept ram dead sp frame ws → found k ws ≡ Some v → IsOwn kept ram dead sp frame (record { offset = k; value = v })
unfolding found
found_own kept ram dead sp frame k [] v h e = absurd cc
found_own kept ram dead sp frame k (w ∷ ws) v h e =
    cond_both (w.offset == k) (Some w.value) (found k ws) (λ o. o ≡ Some v → IsOwn kept ram dead sp frame (record { offset = k; value = v }))
    (λ q f. let o : w.offset ≡ k = eqb-true w.offset k q in let u : w.value ≡ v = cc in subst (λ i. IsOwn kept ram dead sp frame (record { offset = i; value = v })) o (subst (λ x. IsOwn kept ram dead sp frame (record { offset = w.offset; value = x })) u h.0))
    (λ q f. found_own kept ram dead sp frame k ws v h.1 f)
    e

-- ---- below
pub below_own : (kept ram : List ℕ) (dead : List Bool) (sp frame : ℕ) (w : StackWord) (ws : List StackWord) (o : Option Value) → AreOwn kept ram dead sp frame ws → found w.offset ws ≡ o → is_found_below o w.value ≡ true → IsOwn kept ram dead sp frame w
below_own kept ram dead sp frame w ws None h e b = absurd (false≢true b)
below_own kept ram dead sp frame w ws (Some v) h e b =
    let o = found_own kept ram dead sp frame w.offset ws v h e in
    record { small = o.small; deep = o.deep; aligned = o.aligned; above = o.above; is = below_holds kept v w.value (number_at ram (frame - depth w.offset - RAM_BASE) 4) b o.is; alive = o.alive }

pub words_below_own : (kept ram : List ℕ) (dead : List Bool) (sp frame : ℕ) (ws us : List StackWord) → AreOwn kept ram dead sp frame ws → words_below ws us ≡ true → AreOwn kept ram dead sp frame us
unfolding words_below
words_below_own kept ram dead sp frame ws [] h e = tt
words_below_own kept ram dead sp frame ws (u ∷ us) h e =
    let parts = and_parts (is_found_below (found u.offset ws) u.value) (words_below ws us) e in
    (below_own kept ram dead sp frame u ws (found u.offset ws) h refl parts.0, words_below_own kept ram dead sp frame ws us h parts.1)

-- ---- the stack pointer after an instruction
pub above_own : (kept ram : List ℕ) (dead : List Bool) (sp sp' frame d : ℕ) (ws : List StackWord) → sp' + d ≡ frame → AreOwn kept ram dead sp frame ws → AreOwn kept ram dead sp' frame (words_above d ws)
unfolding words_above
above_own kept ram dead sp sp' frame d [] e h = tt
above_own kept ram dead sp sp' frame d (w ∷ ws) e h =
    cond_both (nat_le (depth w.offset) d) (w ∷ words_above d ws) (words_above d ws) (λ xs. AreOwn kept ram dead sp' frame xs)
    (λ q. (let l = leb-true (depth w.offset) d q in let o = h.0 in record { small = o.small; deep = o.deep; aligned = o.aligned; above = omega arith; is = o.is; alive = o.alive }, above_own kept ram dead sp sp' frame d ws e h.1))
    (λ q. above_own kept ram dead sp sp' frame d ws e h.1)

-- ---- a store of a word
-- two offsets of one depth are one
same_depth : (k l : ℕ) → k < 2 ^ 32 → l < 2 ^ 32 → depth k ≡ depth l → k ≡ l
same_depth k l p q e = omega arith

module _ (kept ram : List ℕ) (dead : List Bool) (sp frame k value : ℕ) (l : RAM_BASE ≤ sp) (up : frame ≤ RAM_BASE + BANK_LEN) (long : length ram ≡ BANK_LEN) (small : k < 2 ^ 32) (deep : 4 ≤ depth k) (aligned : depth k % 4 ≡ 0) (above : sp + depth k ≤ frame) where
  -- where it is stored
  abbrev place : ℕ
  place = frame - depth k - RAM_BASE

  fits : place + 4 ≤ length ram
  fits = omega arith

  apart : (w : StackWord) → (w.offset ≡ k → ⊥) → IsOwn kept ram dead sp frame w → IsOwn kept (with_number ram place 4 value) (marked dead place 4 false) sp frame w
  apart w ne h =
      let s = h.small in
      let d = h.deep in
      let a = h.aligned in
      let b = h.above in
      let other : depth w.offset ≢ depth k = λ e. ne (same_depth w.offset k s small e) in
      let out : (frame - depth w.offset - RAM_BASE + 4 ≤ place) ⊎ (place + 4 ≤ frame - depth w.offset - RAM_BASE) =
      ⊎_elim (λ (lt : depth w.offset < depth k). inr (omega arith)) (λ (ge : depth k ≤ depth w.offset). inl (omega arith)) (cases_lt (depth w.offset) (depth k)) in
      record {
        small = s;
        deep = d;
        aligned = a;
        above = b;
        is = subst (λ n. Holds kept w.value n) (sym (number-with_number_apart ram place 4 value (frame - depth w.offset - RAM_BASE) 4 fits out)) h.is;
        alive = λ j p q. alive_from (marked dead place 4 false) j (marked_stays 4 dead place (j - RAM_BASE) (alive_at dead j (omega arith) (h.alive j p q)));
      }

  pub without_own : (ws : List StackWord) → AreOwn kept ram dead sp frame ws → AreOwn kept (with_number ram place 4 value) (marked dead place 4 false) sp frame (without k ws)
  unfolding without
  without_own [] h = tt
  without_own (w ∷ ws) h =
      cond_both (not (w.offset == k)) (w ∷ without k ws) (without k ws) (λ xs. AreOwn kept (with_number ram place 4 value) (marked dead place 4 false) sp frame xs)
      (λ q. (apart w (eqb-false w.offset k (not-true (w.offset == k) q)) h.0, without_own ws h.1))
      (λ q. without_own ws h.1)

  pub stored_own : (v : Value) (ws : List StackWord) → value < 256 ^ 4 → Holds kept v value → AreOwn kept ram dead sp frame ws → AreOwn kept (with_number ram place 4 value) (marked dead place 4 false) sp frame (with_stack_word k v ws)
  stored_own v ws lt holds h = (
    record {
      small = small;
      deep = deep;
      aligned = aligned;
      above = above;
      is = subst (λ n. Holds kept v n) (sym (number-with_number_same ram place 4 value fits lt)) holds;
      alive = λ j p q. alive_from (marked dead place 4 false) j (marked_here 4 dead place (j - RAM_BASE) (omega arith) (omega arith));
    },
    without_own ws h,
  )
