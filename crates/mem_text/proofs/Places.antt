-- A segment that grows by a byte.
use Rattle.std.proofs.Common.{◌≡◌, ℕ, zero, suc, ◌+◌, ◌<◌, ◌^◌, List, [], ◌∷◌, ◌++◌, length, length-append, Bool, true, false, None, refl, subst, arith}
use Rattle.std.specs.Prelude.{nat_lt, not, ◌&&◌, ◌||◌}
use Rattle.std.specs.List.{All}
use Rattle.std.proofs.lemmas.Bool.Decides.{nat_tests}
use Rattle.hart_memory.specs.Place.{holds, place}
use Rattle.hart_memory.specs.Image.{SegmentView, ImageView, is_apart, meets_any, IsPlaced, AreSound}
use Rattle.hart_memory.specs.declared.image.TheConstants.{MAX_SEGMENTS}
use Rattle.std.proofs.lemmas.List.{append-nil}
use Rattle.hart_memory.proofs.ImageLemmas.{sound_push}
use Rattle.mem_text.specs.Items.{segment_of}
use Rattle.mem_text.specs.Laying.{Laying, all_segments, is_full, why_by, why_not, with_byte, moved_to, Fits, IsFit}

-- what a byte that may stand at the place has
pub record MayStand (l : Laying) : Type 0 where
  pub room : is_full l ≡ false
  pub inside : holds (l.from + length l.filled) 1 ≡ true
  pub apart : meets_any (l.from + length l.filled) 1 l.image.segments ≡ false

none_by : (a b c : Bool) → why_by a b c ≡ None → (a ≡ false) × (b ≡ true) × (c ≡ false)
none_by true b c e = absurd cc
none_by false false c e = absurd cc
none_by false true true e = absurd cc
none_by false true false e = (refl, refl, refl)

pub may_stand : (l : Laying) → why_not l ≡ None → MayStand l
unfolding why_not
may_stand l e =
    let p = none_by (is_full l) (holds (l.from + length l.filled) 1) (meets_any (l.from + length l.filled) 1 l.image.segments) e in
    record { room = p.0; inside = p.1; apart = p.2 }

holds_first : (at : ℕ) → holds (at + 0) 1 ≡ true → holds at 1 ≡ true
unfolding place
holds_first at h = grind (arith, nat_tests)

holds_more : (at n : ℕ) → 0 < n → holds at n ≡ true → holds (at + n) 1 ≡ true → holds at (n + 1) ≡ true
unfolding place
holds_more at n k h i = grind (arith, nat_tests)

pub holds_grow : (at n : ℕ) → (0 < n → holds at n ≡ true) → holds (at + n) 1 ≡ true → holds at (n + 1) ≡ true
holds_grow at zero h i = holds_first at i
holds_grow at (suc n) h i = holds_more at (suc n) (omega arith) (h (omega arith)) i

meets_first : (at : ℕ) (ss : List SegmentView) → meets_any (at + 0) 1 ss ≡ false → meets_any at 1 ss ≡ false
meets_first at ss h = let e : at + 0 ≡ at = omega arith in subst (λ k. meets_any k 1 ss ≡ false) e h

both_pass : (x y : Bool) → (not x || y) ≡ false → (x ≡ true) × (y ≡ false)
both_pass true y e = (refl, e)
both_pass false y e = absurd cc

apart_more : (at n : ℕ) (s : SegmentView) → 0 < n → 0 < length s.content → is_apart at n s ≡ true → is_apart (at + n) 1 s ≡ true → is_apart at (n + 1) s ≡ true
apart_more at n s k f h i = grind (arith, nat_tests)

meets_more : (at n : ℕ) (ss : List SegmentView) → All IsPlaced ss → 0 < n → meets_any at n ss ≡ false → meets_any (at + n) 1 ss ≡ false → meets_any at (n + 1) ss ≡ false
meets_more at n [] f k h i = refl
meets_more at n (s ∷ ss) f k h i =
    let a = both_pass (is_apart at n s) (meets_any at n ss) h in
    let b = both_pass (is_apart (at + n) 1 s) (meets_any (at + n) 1 ss) i in
    rw (apart_more at n s k (f 0 s (omega arith)).0 a.0 b.0) (meets_more at n ss (λ m d l. f (suc m) d (omega arith)) k a.1 b.1)

pub meets_grow : (at n : ℕ) (ss : List SegmentView) → All IsPlaced ss → (0 < n → meets_any at n ss ≡ false) → meets_any (at + n) 1 ss ≡ false → meets_any at (n + 1) ss ≡ false
meets_grow at zero ss f h i = meets_first at ss i
meets_grow at (suc n) ss f h i = meets_more at (suc n) ss f (omega arith) (h (omega arith)) i

pub has_room : (n s : ℕ) → (not (nat_lt 0 n) && not (nat_lt s MAX_SEGMENTS)) ≡ false → (0 < n → s < MAX_SEGMENTS) → s < MAX_SEGMENTS
has_room zero s e h = grind (arith, nat_tests)
has_room (suc n) s e h = h (omega arith)

pub fits_grown : (l : Laying) (byte : ℕ) → IsFit l → why_not l ≡ None → Fits (with_byte byte l)
fits_grown l byte fit e =
    let may = may_stand l e in
    let more : length (l.filled ++ byte ∷ []) ≡ length l.filled + 1 = length-append l.filled (byte ∷ []) in
    record {
      placed = rw more (holds_grow l.from (length l.filled) (λ k. (fit.fits k).placed) may.inside);
      apart = rw more (meets_grow l.from (length l.filled) l.image.segments fit.sound.placed (λ k. (fit.fits k).apart) may.apart);
      room = has_room (length l.filled) (length l.image.segments) may.room (λ k. (fit.fits k).room);
    }

pub fit_grown : (l : Laying) (byte : ℕ) → IsFit l → why_not l ≡ None → IsFit (with_byte byte l)
fit_grown l byte fit e = record { near = fit.near; sound = fit.sound; fits = λ k. fits_grown l byte fit e }

-- bytes in memory end far below the last address
near_by : (at n : ℕ) → 0 < n → holds at n ≡ true → at + n < 2 ^ 32
unfolding place
near_by at n k h = grind (arith, nat_tests)

near_sum : (at n : ℕ) → at < 2 ^ 32 → (0 < n → holds at n ≡ true) → at + n < 2 ^ 32
near_sum at zero l h = omega arith
near_sum at (suc n) l h = near_by at (suc n) (omega arith) (h (omega arith))

pub place_is_near : (l : Laying) → IsFit l → l.from + length l.filled < 2 ^ 32
place_is_near l fit = near_sum l.from (length l.filled) fit.near (λ k. (fit.fits k).placed)

-- ---- a segment that is whole
sound_with : (ss : List SegmentView) (s : SegmentView) → AreSound ss → 0 < length s.content → holds s.address (length s.content) ≡ true → meets_any s.address (length s.content) ss ≡ false → length ss < MAX_SEGMENTS → AreSound (ss ++ s ∷ [])
sound_with ss s h some placed apart room = sound_push ss s h (some, placed) apart room

all_sound_by : (i : ImageView) (at : ℕ) (filled : List ℕ) → IsFit (record { image = i; from = at; filled = filled }) → AreSound (i.segments ++ segment_of at filled)
all_sound_by i at [] fit = rw append-nil fit.sound
all_sound_by i at (b ∷ bs) fit =
    let f = fit.fits (omega arith) in
    sound_with i.segments (record { address = at; content = b ∷ bs }) fit.sound (omega arith) f.placed f.apart f.room

-- all segments stand apart in memory
pub all_sound : (l : Laying) → IsFit l → AreSound (all_segments l)
all_sound l fit = all_sound_by l.image l.from l.filled fit

pub fit_moved : (l : Laying) (at : ℕ) → at < 2 ^ 32 → IsFit l → IsFit (moved_to at l)
fit_moved l at near fit = record { near = near; sound = all_sound l fit; fits = λ k. absurd (omega arith) }
