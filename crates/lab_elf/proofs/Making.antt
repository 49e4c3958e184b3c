-- The image that is made of pieces in rising order.
use Rattle.std.proofs.Common.{◌≡◌, ℕ, ◌+◌, ◌<◌, ◌≤◌, List, [], ◌∷◌, ◌++◌, length, length-drop, length-take, take, drop, drop-cons, add-one, false, refl, sym, subst, ◌∙◌, arith, append_assoc, map}
use Rattle.std.specs.Prelude.{not}
use Rattle.std.proofs.lemmas.Bool.Decides.{nat_tests}
use Rattle.hart_memory.specs.Image.{SegmentView, ImageView, is_apart, meets_any}
use Rattle.lab_elf.specs.Header.{entry}
use Rattle.lab_elf.specs.Loading.{ArePiecesFrom, AreFrom, segment_of}
use Rattle.lab_elf.specs.declared.piece.Piece.{Piece}
use Rattle.lab_elf.proofs.Pieces.{piece_at}

-- each segment ends at or before an address
abbrev pub AreBelow : ℕ → List SegmentView → Type 0
AreBelow at [] = Unit {0}
AreBelow at (s ∷ ss) = (s.address + length s.content ≤ at) × AreBelow at ss

pub below_more : (at at' : ℕ) (ss : List SegmentView) → at ≤ at' → AreBelow at ss → AreBelow at' ss
below_more at at' [] le h = tt
below_more at at' (s ∷ ss) le h = (omega (arith, h.0), below_more at at' ss le h.1)

pub below_append : (at : ℕ) (ss : List SegmentView) (s : SegmentView) → AreBelow at ss → s.address + length s.content ≤ at → AreBelow at (ss ++ s ∷ [])
below_append at [] s h le = (le, tt)
below_append at (t ∷ ss) s h le = (h.0, below_append at ss s h.1 le)

one_apart : (at count : ℕ) (s : SegmentView) → s.address + length s.content ≤ at → not (is_apart at count s) ≡ false
one_apart at count s le = grind (arith, nat_tests)

pub meets_none : (at count : ℕ) (ss : List SegmentView) → AreBelow at ss → meets_any at count ss ≡ false
meets_none at count [] h = refl
meets_none at count (s ∷ ss) h = rw (one_apart at count s h.0) (meets_none at count ss h.1)

pub content_length : (p : Piece) (bytes : List ℕ) → p.offset + p.size ≤ length bytes → length (take p.size (drop p.offset bytes)) ≡ p.size
content_length p bytes inside = omega (arith, length-take p.size (drop p.offset bytes), length-drop p.offset bytes)

-- the image has the pieces so far, and those that are left lie behind them
pub record Holds (bytes : List ℕ) (pieces left : List Piece) (image : ImageView) : Type 0 where
  pub start : image.start ≡ entry bytes
  pub segments : image.segments ++ map (segment_of bytes) left ≡ map (segment_of bytes) pieces
  pub at : ℕ
  pub below : AreBelow at image.segments
  pub behind : ArePiecesFrom at bytes left

pub holds_next : (bytes : List ℕ) (pieces : List Piece) (i : ℕ) (image : ImageView) → i < length pieces → Holds bytes pieces (drop i pieces) image → Holds bytes pieces (piece_at pieces i ∷ drop (i + 1) pieces) image
holds_next bytes pieces i image inside h =
    let next = drop-cons pieces i (record { at = 0; offset = 0; size = 0 }) inside in
    subst (λ (left : List Piece). Holds bytes pieces left image) (next ∙ rw add-one refl) h

pub stands_apart : (bytes : List ℕ) (pieces left : List Piece) (p : Piece) (image : ImageView) (count : ℕ) → Holds bytes pieces (p ∷ left) image → meets_any p.at count image.segments ≡ false
stands_apart bytes pieces left p image count h = meets_none p.at count image.segments (below_more h.at p.at image.segments h.behind.0 h.below)

pub goes_on : (bytes : List ℕ) (pieces left : List Piece) (p : Piece) (image next : ImageView) → Holds bytes pieces (p ∷ left) image → next ≡ record image { segments = image.segments ++ segment_of bytes p ∷ [] } → Holds bytes pieces left next
goes_on bytes pieces left p image next h is =
    let len = content_length p bytes h.behind.2 in
    let b = h.behind.0 in
    let made : ImageView = record image { segments = image.segments ++ segment_of bytes p ∷ [] } in
    subst (λ (i : ImageView). Holds bytes pieces left i) (sym is) (record {
      start = h.start;
      segments = append_assoc image.segments (segment_of bytes p ∷ []) (map (segment_of bytes) left) ∙ h.segments;
      at = p.at + p.size;
      below = below_append (p.at + p.size) image.segments (segment_of bytes p) (below_more h.at (p.at + p.size) image.segments (omega (arith, b)) h.below) (omega (arith, len));
      behind = h.behind.4;
    })

-- ---- segments rise

pub pieces_rise : (from : ℕ) (bytes : List ℕ) (ps : List Piece) → ArePiecesFrom from bytes ps → AreFrom from (map (segment_of bytes) ps)
pieces_rise from bytes [] h = tt
pieces_rise from bytes (p ∷ ps) h = (h.0, rw (content_length p bytes h.2) (pieces_rise (p.at + p.size) bytes ps h.4))
