-- Segments of an image, one by one.
use Rattle.std.proofs.Common.{◌≡◌, ℕ, zero, suc, ◌+◌, ◌<◌, ◌^◌, List, [], ◌∷◌, ◌++◌, length, length-append, drop, get_or, Bool, true, false, Some, option_map, slice_get, refl, subst, arith, add-one}
use Rattle.std.specs.Prelude.{◌&&◌, nat_lt}
use Rattle.std.specs.List.{All}
use Rattle.std.proofs.lemmas.Bool.Decides.{nat_tests}
use Rattle.std.proofs.lemmas.Bool.{ltb-true, lt-ltb}
use Rattle.std.proofs.Math.ListN.{get_or-append}
use Rattle.std.proofs.Math.Seq.{get_or-append_seam}
use Rattle.hart_memory.specs.Place.{holds, place}
use Rattle.hart_memory.specs.Image.{SegmentView, IsPlaced, AreApart, AreSound, is_apart, meets_any}
use Rattle.board_inputs.specs.ImageReading.{is_placed}

pub both_are : (a b : Bool) → (a && b) ≡ true → (a ≡ true) × (b ≡ true)
both_are true b e = (refl, e)
both_are false b e = absurd cc

-- bytes in memory end far below the last address
pub is_near : (at count : ℕ) → holds at count ≡ true → at + count < 2 ^ 30
unfolding place
is_near at count h = grind (arith, nat_tests)

pub placed_by_test : (s : SegmentView) → is_placed s.address (length s.content) ≡ true → IsPlaced s
placed_by_test s h =
    let parts = both_are (nat_lt 0 (length s.content)) (holds s.address (length s.content)) h in
    (ltb-true _ _ parts.0, parts.1)

pub test_of_placed : (s : SegmentView) → IsPlaced s → is_placed s.address (length s.content) ≡ true
test_of_placed s h = rw (lt-ltb _ _ h.0, h.1) refl

-- the segment at a place in the list, and those after it
pub next_segment : (ss : List SegmentView) (i at : ℕ) (content : List ℕ) → option_map (λ s. s.address) (slice_get ss i) ≡ Some at → option_map (λ s. s.content) (slice_get ss i) ≡ Some content
    → drop i ss ≡ record { address = at; content = content } ∷ drop (i + 1) ss
next_segment [] i at content a b = absurd cc
next_segment (s ∷ ss) zero at content a b =
    let a' : s.address ≡ at = cc in
    let b' : s.content ≡ content = cc in
    rw (← a', ← b') refl
next_segment (s ∷ ss) (suc i) at content a b = rw add-one (rw add-one at (next_segment ss i at content a b))

pub is_short : (ss : List SegmentView) (i : ℕ) (content : List ℕ) → All IsPlaced ss → option_map (λ s. s.content) (slice_get ss i) ≡ Some content → length content < 2 ^ 32
is_short [] i content h b = absurd cc
is_short (s ∷ ss) zero content h b =
    let near = is_near s.address (length s.content) (h 0 s (omega arith)).1 in
    let same : s.content ≡ content = cc in
    rw (← same) (omega arith)
is_short (s ∷ ss) (suc i) content h b = is_short ss i content (λ k d l. h (suc k) d (omega arith)) b

-- a segment that each one stands apart from meets none
pub meets_none : (ss : List SegmentView) (s : SegmentView) → ((k : ℕ) (d : SegmentView) → k < length ss → AreApart (get_or ss k d) s) → meets_any s.address (length s.content) ss ≡ false
meets_none [] s h = refl
meets_none (t ∷ ts) s h =
    let first : is_apart t.address (length t.content) s ≡ true = h 0 s (omega arith) in
    let other : is_apart s.address (length s.content) t ≡ true = grind (arith, nat_tests) in
    rw other (meets_none ts s (λ k d l. h (suc k) d (omega arith)))

-- a segment of an image, after those before it
pub record IsNext (before : List SegmentView) (s : SegmentView) : Type 0 where
  pub placed : IsPlaced s
  pub apart : meets_any s.address (length s.content) before ≡ false

pub next_of_sound : (before ss : List SegmentView) (s : SegmentView) → AreSound (before ++ s ∷ ss) → IsNext before s
next_of_sound before ss s h =
    let inside : length before < length (before ++ s ∷ ss) = omega (arith, length-append before (s ∷ ss)) in
    record {
      placed = subst (λ (t : SegmentView). IsPlaced t) (get_or-append_seam before s ss s) (h.placed (length before) s inside);
      apart = meets_none before s (λ k d l.
          subst (λ (t : SegmentView). AreApart t s) (get_or-append before (s ∷ ss) d k l)
          (subst (λ (t : SegmentView). AreApart (get_or (before ++ s ∷ ss) k d) t) (get_or-append_seam before s ss d) (h.apart k (length before) d l inside)));
    }
