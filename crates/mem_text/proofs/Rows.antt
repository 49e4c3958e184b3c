-- Bytes that are written one after the other, and segments.
use Rattle.std.proofs.Common.{◌≡◌, ℕ, zero, suc, ◌+◌, ◌<◌, ◌≤◌, List, [], ◌∷◌, ◌++◌, length, drop, get_or, Some, option_map, slice_get, refl, sym, ap, subst, ◌∙◌, ◌⊎◌, inl, inr, ⊎_elim, append_assoc, add-one, arith}
use Rattle.std.specs.List.{All}
use Rattle.std.proofs.lemmas.List.{drop_more, append-nil}
use Rattle.hart_words.specs.Hexadecimal.{hex2}
use Rattle.hart_memory.specs.Image.{SegmentView}
use Rattle.mem_text.specs.Writing.{mark_behind, bytes_text, segment_text, segments_text, IsBytes}

-- the text so far and that of the bytes that are left make the whole text
pub record WritesOn (start now bytes : List ℕ) (k : ℕ) : Type 0 where
  pub same : now ++ bytes_text (length bytes) k (drop k bytes) ≡ start ++ bytes_text (length bytes) 0 bytes

pub one_more : (start now next bytes : List ℕ) (k : ℕ) → k < length bytes → WritesOn start now bytes k
    → next ≡ now ++ (hex2 (get_or bytes k 0) ++ mark_behind (length bytes) k ∷ []) → WritesOn start next bytes (k + 1)
one_more start now next bytes k lt h e =
    let front = hex2 (get_or bytes k 0) in
    let rest = bytes_text (length bytes) (k + 1) (drop (k + 1) bytes) in
    let one : bytes_text (length bytes) k (drop k bytes) ≡ front ++ mark_behind (length bytes) k ∷ rest = rw (drop_more bytes k 0 lt) refl in
    let whole : now ++ (front ++ mark_behind (length bytes) k ∷ rest) ≡ start ++ bytes_text (length bytes) 0 bytes = ap (λ t. now ++ t) (sym one) ∙ h.same in
    record {
      same = ap (λ t. t ++ rest) e ∙ append_assoc now (front ++ mark_behind (length bytes) k ∷ []) rest ∙ ap (λ t. now ++ t) (append_assoc front (mark_behind (length bytes) k ∷ []) rest) ∙ whole;
    }

none_left : (bytes : List ℕ) (k : ℕ) → length bytes ≤ k → drop k bytes ≡ []
none_left [] zero h = refl
none_left [] (suc k) h = refl
none_left (b ∷ bs) zero h = absurd (omega arith)
none_left (b ∷ bs) (suc k) h = none_left bs k (omega arith)

pub at_end : (start now bytes : List ℕ) (k : ℕ) → length bytes ≤ k → WritesOn start now bytes k → now ≡ start ++ bytes_text (length bytes) 0 bytes
at_end start now bytes k h w = sym (append-nil now) ∙ ap (λ t. now ++ bytes_text (length bytes) k t) (sym (none_left bytes k h)) ∙ w.same

-- the segment at a place in the list, and those after it
pub next_segment : (ss : List SegmentView) (i at : ℕ) (content : List ℕ) → option_map (λ s. s.address) (slice_get ss i) ≡ Some at → option_map (λ s. s.content) (slice_get ss i) ≡ Some content
    → drop i ss ≡ record { address = at; content = content } ∷ drop (i + 1) ss
next_segment [] i at content a b = absurd cc
next_segment (s ∷ ss) zero at content a b =
    let a' : s.address ≡ at = cc in
    let b' : s.content ≡ content = cc in
    rw (← a', ← b') refl
next_segment (s ∷ ss) (suc i) at content a b = rw add-one (rw add-one at (next_segment ss i at content a b))

-- the text so far and that of the segments that are left make the whole text, and those so far are bytes
pub record SegmentsOn (ss : List SegmentView) (i : ℕ) (text : List ℕ) : Type 0 where
  pub same : text ++ segments_text (drop i ss) ≡ segments_text ss
  pub bytes : (k : ℕ) (d : SegmentView) → k < i → k < length ss → IsBytes (get_or ss k d)

below_or : (k i : ℕ) → k < i + 1 → (k < i) ⊎ (k ≡ i)
below_or zero zero h = inr refl
below_or zero (suc i) h = inl (omega arith)
below_or (suc k) zero h = absurd (omega arith)
below_or (suc k) (suc i) h = ⊎_elim (λ (lt : k < i). inl (omega arith)) (λ (same : k ≡ i). inr (ap suc same)) (below_or k i (omega arith))

segment_at : (ss : List SegmentView) (i at : ℕ) (content : List ℕ) (d : SegmentView) → option_map (λ s. s.content) (slice_get ss i) ≡ Some content → (get_or ss i d).content ≡ content
segment_at [] i at content d e = absurd cc
segment_at (s ∷ ss) zero at content d e = cc
segment_at (s ∷ ss) (suc i) at content d e = segment_at ss i at content d e

pub segment_more : (ss : List SegmentView) (i at : ℕ) (content text next : List ℕ) → option_map (λ s. s.address) (slice_get ss i) ≡ Some at → option_map (λ s. s.content) (slice_get ss i) ≡ Some content
    → All (λ b. b < 256) content → next ≡ text ++ segment_text (record { address = at; content = content }) → SegmentsOn ss i text → SegmentsOn ss (i + 1) next
segment_more ss i at content text next a b small e h =
    let s : SegmentView = record { address = at; content = content } in
    let Small : List ℕ → Type 0 = λ bs. All (λ b. b < 256) bs in
    let Of : ℕ → Type 0 = λ k. (d : SegmentView) → IsBytes (get_or ss k d) in
    let here : (d : SegmentView) → IsBytes (get_or ss i d) = λ d. subst Small (sym (segment_at ss i at content d b)) small in
    record {
      same = rw e (append_assoc text (segment_text s) (segments_text (drop (i + 1) ss)) ∙ (rw (next_segment ss i at content a b) at h.same));
      bytes = λ k d l m. ⊎_elim (λ (lt : k < i). h.bytes k d lt m) (λ (same : k ≡ i). subst Of (sym same) here d) (let c : (k < i) ⊎ (k ≡ i) = below_or k i l in c);
    }
