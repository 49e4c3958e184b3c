-- Loops over bytes, live frames and registers.
use Rattle.std.proofs.Common.{◌≡◌, ℕ, zero, suc, ◌+◌, ◌-◌, ◌<◌, ◌≤◌, ⊎_elim, Bool, true, false, List, [], ◌∷◌, ◌++◌, reverse, length, get_or, set, drop, refl, sym, ap, ap₂, ◌∙◌, subst, arith}
use Rattle.std.specs.Prelude.{◌&&◌, ◌||◌, ◌==◌, nat_le, nat_lt, slice_index_or}
use Rattle.std.proofs.Math.ListN.{drop_of_length-le}
use Rattle.std.proofs.Math.Seq.{drop-cons}
use Rattle.std.proofs.lemmas.List.{get_or_past, get_or-set_other}
use Rattle.std.specs.Prelude.{slice_index}
use Rattle.std.proofs.lemmas.Bool.{cases_eq, le-leb}
use Rattle.std.proofs.Math.Bool.{or-false, or_assoc, or_comm}
use Rattle.std.proofs.lemmas.Grind.{reverse_onto, get_or-set_at}
use Rattle.std.proofs.lemmas.Bool.Decides.{nat_tests}
use Rattle.hart_memory.specs.Place.{place}
use Rattle.hart_memory.specs.declared.address_map.TheConstants.{RAM_BASE}
use Rattle.hart_memory.specs.declared.place.Place.TheVariants.{InRam}
use Rattle.hart_memory.proofs.PlaceLemmas.{in_ram}
use Rattle.chain_moves.specs.Slot.{in_slot}
use Rattle.chain_moves.specs.Bytes.{some_byte, is_dead_at, is_hidden, in_frame, in_live_frame, overlaps, marked}
use Rattle.chain_moves.specs.Tests.{is_free, are_kept}
use Rattle.hart_words.specs.Registers.{register}
use Rattle.chain_moves.specs.declared.mark.Mark.{Mark}

pub dead_past : (dead : List Bool) (k : ℕ) → length dead ≤ k → slice_index_or dead k false ≡ false
dead_past dead k h = get_or_past dead k false h

pub some_more : (test : ℕ → Bool) (at n i : ℕ) → i < n → some_byte test (at + i) (n - i) ≡ (test (at + i) || some_byte test (at + (i + 1)) (n - (i + 1)))
unfolding some_byte
some_more test at n i h =
    let e : n - i ≡ suc (n - (i + 1)) = omega arith in
    let p : at + i + 1 ≡ at + (i + 1) = omega arith in
    ap (some_byte test (at + i)) e ∙ ap (λ j. test (at + i) || some_byte test j (n - (i + 1))) p

pub some_none : (test : ℕ → Bool) (at n i : ℕ) → n ≤ i → some_byte test (at + i) (n - i) ≡ false
unfolding some_byte
some_none test at n i h = let e : n - i ≡ 0 = omega arith in ap (some_byte test (at + i)) e

-- ---- bytes of RAM
apart : (k : ℕ) → in_slot (RAM_BASE + k) ≡ false
apart k = grind (arith, nat_tests)

one_in_ram : (dead : List Bool) (k : ℕ) → is_dead_at dead k ≡ is_hidden dead (RAM_BASE + k)
one_in_ram dead k =
    let ram : nat_le RAM_BASE (RAM_BASE + k) ≡ true = le-leb RAM_BASE (RAM_BASE + k) (omega arith) in
    let place : RAM_BASE + k - RAM_BASE ≡ k = omega arith in
    sym (ap₂ (λ b c. b || (c && is_dead_at dead (RAM_BASE + k - RAM_BASE))) (apart k) ram ∙ ap (is_dead_at dead) place)

hidden_from : (dead : List Bool) (k n : ℕ) → some_byte (is_dead_at dead) k n ≡ some_byte (is_hidden dead) (RAM_BASE + k) n
unfolding some_byte
hidden_from dead k zero = refl
hidden_from dead k (suc n) =
    let next : RAM_BASE + (k + 1) ≡ RAM_BASE + k + 1 = omega arith in
    ap₂ (λ b c. b || c) (one_in_ram dead k) (hidden_from dead (k + 1) n ∙ ap (λ at. some_byte (is_hidden dead) at n) next)

-- bytes of RAM are hidden where they are dead
pub hidden_in_ram : (dead : List Bool) (at n k : ℕ) → InRam k ≡ place at n → some_byte (is_dead_at dead) k n ≡ some_byte (is_hidden dead) at n
hidden_in_ram dead at n k e = let h = in_ram at n k (sym e) in hidden_from dead k n ∙ ap (λ j. some_byte (is_hidden dead) j n) (sym h.is)

-- ---- frames
or_swap : (a b c d : Bool) → ((a || b) || (c || d)) ≡ ((a || c) || (b || d))
or_swap true b c d = refl
or_swap false true true d = refl
or_swap false true false d = refl
or_swap false false true d = refl
or_swap false false false d = refl

-- one of the bytes passes one of two tests
pub some_or : (p q : ℕ → Bool) (at n : ℕ) → some_byte (λ j. p j || q j) at n ≡ (some_byte p at n || some_byte q at n)
unfolding some_byte
some_or p q at zero = refl
some_or p q at (suc n) = ap (λ b. (p at || q at) || b) (some_or p q (at + 1) n) ∙ or_swap (p at) (q at) (some_byte p (at + 1) n) (some_byte q (at + 1) n)

-- a range meets a frame where they overlap
last_frame : (f at : ℕ) → (in_frame f at || false) ≡ (nat_lt at (f + 32) && nat_lt f (at + 1))
last_frame f at = grind (arith, nat_tests)

more_frame : (f at n : ℕ) → 0 < n → (in_frame f at || (nat_lt (at + 1) (f + 32) && nat_lt f (at + 1 + n))) ≡ (nat_lt at (f + 32) && nat_lt f (at + suc n))
more_frame f at n h = grind (arith, nat_tests)

pub some_frame : (f at n : ℕ) → some_byte (in_frame f) at (suc n) ≡ (nat_lt at (f + 32) && nat_lt f (at + suc n))
unfolding some_byte
some_frame f at zero = last_frame f at
some_frame f at (suc n) = ap (λ b. in_frame f at || b) (some_frame f (at + 1) n) ∙ more_frame f at (suc n) (omega arith)

same_test : (p q : ℕ → Bool) (at n : ℕ) → ((j : ℕ) → p j ≡ q j) → some_byte p at n ≡ some_byte q at n
unfolding some_byte
same_test p q at zero h = refl
same_test p q at (suc n) h = ap₂ (λ b c. b || c) (h at) (same_test p q (at + 1) n h)

first_mark : (m : Mark) (ms : List Mark) (j : ℕ) → in_live_frame (m ∷ ms) j ≡ (in_frame m.frame j || in_live_frame ms j)
unfolding in_live_frame
first_mark m ms j = refl

pub meets_more : (m : Mark) (ms : List Mark) (at n : ℕ) → 0 < n → some_byte (in_live_frame (m ∷ ms)) at n ≡ (overlaps at n m.frame || some_byte (in_live_frame ms) at n)
meets_more m ms at zero h = absurd (omega arith)
meets_more m ms at (suc n) h =
    same_test (in_live_frame (m ∷ ms)) (λ j. in_frame m.frame j || in_live_frame ms j) at (suc n) (first_mark m ms)
    ∙ some_or (in_frame m.frame) (in_live_frame ms) at (suc n)
    ∙ ap (λ b. b || some_byte (in_live_frame ms) at (suc n)) (some_frame m.frame at n)

pub meets_none : (at n : ℕ) → some_byte (in_live_frame []) at n ≡ false
unfolding some_byte in_live_frame
meets_none at zero = refl
meets_none at (suc n) = meets_none (at + 1) n

pub meets_at : (ms : List Mark) (i : ℕ) (d : Mark) (at n : ℕ) (b : Bool) → 0 < n → i < length ms → b ≡ overlaps at n (get_or ms i d).frame → some_byte (in_live_frame (drop i ms)) at n ≡ (b || some_byte (in_live_frame (drop (i + 1) ms)) at n)
meets_at ms i d at n b p h e =
    let s : suc i ≡ i + 1 = omega arith in
    ap (λ (l : List Mark). some_byte (in_live_frame l) at n) (drop-cons ms i d h) ∙ (meets_more (get_or ms i d) (drop (suc i) ms) at n p ∙ ap₂ (λ b j. b || some_byte (in_live_frame (drop j ms)) at n) (sym e) s)

pub meets_past : (ms : List Mark) (i at n : ℕ) → length ms ≤ i → some_byte (in_live_frame (drop i ms)) at n ≡ false
meets_past ms i at n h = ap (λ (l : List Mark). some_byte (in_live_frame l) at n) (drop_of_length-le ms h) ∙ meets_none at n

-- ---- registers
pub kept_none : (kept registers : List ℕ) → are_kept kept registers 0 ≡ true
unfolding are_kept
kept_none kept registers = refl

kept_suc : (kept registers : List ℕ) (r : ℕ) → are_kept kept registers (suc r) ≡ ((is_free r || register registers r == register kept r) && are_kept kept registers r)
unfolding are_kept
kept_suc kept registers r = refl

pub kept_more : (kept registers : List ℕ) (r : ℕ) → (is_free r || register registers r == register kept r) ≡ true → are_kept kept registers r ≡ true → are_kept kept registers (r + 1) ≡ true
kept_more kept registers r e h = let s : r + 1 ≡ suc r = omega arith in ap (are_kept kept registers) s ∙ kept_suc kept registers r ∙ ap₂ (λ c d. c && d) e h

pub kept_stops : (kept registers : List ℕ) (n r : ℕ) → r < n → (is_free r || register registers r == register kept r) ≡ false → are_kept kept registers n ≡ false
kept_stops kept registers zero r l e = absurd (omega arith)
kept_stops kept registers (suc n) r l e =
    kept_suc kept registers n
    ∙ ⊎_elim
    (λ (q : r ≡ n). ap (λ b. b && are_kept kept registers n) (subst (λ i. (is_free i || register registers i == register kept i) ≡ false) q e))
    (λ (ne : r ≡ n → ⊥). ap (λ b. (is_free n || register registers n == register kept n) && b) (kept_stops kept registers n r (omega arith) e) ∙ right (is_free n || register registers n == register kept n))
    (cases_eq r n)
  where
    right : (b : Bool) → (b && false) ≡ false
    right true = refl
    right false = refl

-- ---- frames, the outermost first
one_more : (ms : List Mark) (m : Mark) (j : ℕ) → in_live_frame (ms ++ m ∷ []) j ≡ (in_live_frame ms j || in_frame m.frame j)
unfolding in_live_frame
one_more [] m j = or-false (in_frame m.frame j)
one_more (x ∷ ms) m j = ap (λ b. in_frame x.frame j || b) (one_more ms m j) ∙ sym (or_assoc (in_frame x.frame j) (in_live_frame ms j) (in_frame m.frame j))

turned : (ms : List Mark) (j : ℕ) → in_live_frame (reverse ms) j ≡ in_live_frame ms j
unfolding in_live_frame
turned [] j = refl
turned (m ∷ ms) j = ap (λ l. in_live_frame l j) (reverse_onto ms m []) ∙ (one_more (reverse ms) m j ∙ (ap (λ b. b || in_frame m.frame j) (turned ms j) ∙ or_comm (in_live_frame ms j) (in_frame m.frame j)))

pub turned_some : (ms : List Mark) (at n : ℕ) → some_byte (in_live_frame (reverse ms)) at n ≡ some_byte (in_live_frame ms) at n
turned_some ms at n = same_test (in_live_frame (reverse ms)) (in_live_frame ms) at n (turned ms)

-- ---- marks of dead bytes
pub marked_more : (d : List Bool) (k n i : ℕ) (b : Bool) → i < n → marked d (k + i) (n - i) b ≡ marked (set d (k + i) b) (k + (i + 1)) (n - (i + 1)) b
unfolding marked
marked_more d k n i b h =
    let e : n - i ≡ suc (n - (i + 1)) = omega arith in
    let p : k + i + 1 ≡ k + (i + 1) = omega arith in
    ap (λ q. marked d (k + i) q b) e ∙ ap (λ j. marked (set d (k + i) b) j (n - (i + 1)) b) p

pub marked_none : (d : List Bool) (k n i : ℕ) (b : Bool) → n ≤ i → marked d (k + i) (n - i) b ≡ d
unfolding marked
marked_none d k n i b h = let e : n - i ≡ 0 = omega arith in ap (λ q. marked d (k + i) q b) e

-- ---- an array that is filled
pub set_more : (words registers : List ℕ) (at r value : ℕ) → r < 32 → length words ≡ 32 → at ≡ r → value ≡ register registers r → ((k : ℕ) → k < r → slice_index words k ≡ slice_index registers k) → (k : ℕ) → k < r + 1 → slice_index (set words at value) k ≡ slice_index registers k
set_more words registers at r value l n e v h k below =
    ⊎_elim
    (λ (q : k ≡ r). get_or-set_at words at k value 0 (q ∙ sym e) (omega (arith, e, n, l)) ∙ v ∙ ap (register registers) (sym q))
    (λ (ne : k ≡ r → ⊥). get_or-set_other words at k value 0 (λ q. ne (q ∙ e)) ∙ h k (omega (arith, below, ne)))
    (cases_eq k r)
