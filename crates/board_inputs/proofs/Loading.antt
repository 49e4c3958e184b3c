-- Segments that are put into memory.
use Rattle.std.proofs.Common.{◌≡◌, ℕ, zero, suc, ◌+◌, ◌<◌, ◌≤◌, ◌⊎◌, List, [], ◌∷◌, length, get_or, Bool, true, false, Some, option_map, slice_get, refl, sym, subst, ◌∙◌, arith}
use Rattle.std.specs.List.{All, AllPairs}
use Rattle.std.proofs.lemmas.Bool.Decides.{nat_tests}
use Rattle.hart_memory.specs.Memory.{Memory}
use Rattle.hart_memory.specs.Place.{holds}
use Rattle.hart_memory.specs.Access.{byte_at}
use Rattle.hart_memory.specs.Image.{SegmentView, ImageView, IsPlaced, AreApart, AreSound, is_apart, meets_any}
use Rattle.hart_board.specs.State.{State}
use Rattle.board_inputs.specs.ImageLoading.{with_bytes, with_segments, loaded, Holds, Loads}
use Rattle.board_inputs.proofs.Placing.{IsLong, bytes_long, bytes_other, bytes_same}

-- a segment's bytes are in one memory
pub is_held : (ss : List SegmentView) (i at : ℕ) (content : List ℕ) → All IsPlaced ss → option_map (λ s. s.address) (slice_get ss i) ≡ Some at → option_map (λ s. s.content) (slice_get ss i) ≡ Some content → holds at (length content) ≡ true
is_held [] i at content h a b = absurd cc
is_held (s ∷ ss) zero at content h a b =
    let a' : s.address ≡ at = cc in
    let b' : s.content ≡ content = cc in
    rw (← a', ← b') (h 0 s (omega arith)).1
is_held (s ∷ ss) (suc i) at content h a b = is_held ss i at content (λ k d l. h (suc k) d (omega arith)) a b

-- an address that isn't a segment's is before or behind it
out_of : (a : ℕ) (s : SegmentView) → is_apart a 1 s ≡ true → (a < s.address) ⊎ (s.address + length s.content ≤ a)
out_of a s h = grind (arith, nat_tests)

none_there : (a : ℕ) (s : SegmentView) (ss : List SegmentView) → meets_any a 1 (s ∷ ss) ≡ false → (is_apart a 1 s ≡ true) × (meets_any a 1 ss ≡ false)
none_there a s ss h = go (is_apart a 1 s) refl
  where
    go : (b : Bool) → is_apart a 1 s ≡ b → (is_apart a 1 s ≡ true) × (meets_any a 1 ss ≡ false)
    go true is = (is, rw is at h)
    go false is = let off : true ≡ false = rw is at h in absurd cc

pub segments_other : (ss : List SegmentView) (m : Memory) (a : ℕ) → meets_any a 1 ss ≡ false → byte_at (with_segments ss m) a ≡ byte_at m a
unfolding with_segments
segments_other [] m a h = refl
segments_other (s ∷ ss) m a h =
    let parts = none_there a s ss h in
    segments_other ss (with_bytes s.address s.content m) a parts.1 ∙ bytes_other s.address s.content m a (out_of a s parts.0)

-- a byte of a segment is none of those that stand apart from it
byte_apart : (s t : SegmentView) (k : ℕ) → AreApart s t → k < length s.content → is_apart (s.address + k) 1 t ≡ true
byte_apart s t k h lt = grind (arith, nat_tests)

bytes_apart : (s : SegmentView) (ss : List SegmentView) (k : ℕ) → ((j : ℕ) (d : SegmentView) → j < length ss → AreApart s (get_or ss j d)) → k < length s.content → meets_any (s.address + k) 1 ss ≡ false
bytes_apart s [] k h lt = refl
bytes_apart s (t ∷ ts) k h lt = rw (byte_apart s t k (h 0 t (omega arith)) lt) (bytes_apart s ts k (λ j d l. h (suc j) d (omega arith)) lt)

pub segments_same : (ss : List SegmentView) (m : Memory) → IsLong m → All IsPlaced ss → AllPairs AreApart ss → All (Holds (with_segments ss m)) ss
unfolding with_segments
segments_same [] m h placed apart i d lt = absurd (omega arith)
segments_same (s ∷ ss) m h placed apart zero d lt = λ k inside.
    segments_other ss (with_bytes s.address s.content m) (s.address + k) (bytes_apart s ss k (λ j e l. apart 0 (suc j) e (omega arith) (omega arith)) inside)
    ∙ bytes_same s.address s.content m k h (placed 0 s (omega arith)).1 inside
segments_same (s ∷ ss) m h placed apart (suc i) d lt =
    segments_same ss (with_bytes s.address s.content m) (bytes_long s.address s.content m h) (λ k e l. placed (suc k) e (omega arith)) (λ j k e l n. apart (suc j) (suc k) e (omega arith) (omega arith)) i d (omega arith)

pub loaded_loads : (i : ImageView) (old new : State) → AreSound i.segments → IsLong old.memory → new ≡ loaded i old → Loads i old new
loaded_loads i old new sound long is =
    subst (λ (s : State). Loads i old s) (sym is) (record {
      placed = segments_same i.segments old.memory long sound.placed sound.apart;
      others = segments_other i.segments old.memory;
      entry = refl;
      rest = refl;
    })
