-- Segments that are added to an image, one by one.
use Rattle.std.proofs.Common.{◌≡◌, ℕ, suc, ◌+◌, ◌<◌, ◌≤◌, List, [], ◌∷◌, ◌++◌, length, take, drop, map, refl, sym, ap, ◌∙◌, arith, subst, append_assoc, length-append, length-drop, true, false, get_or, drop-cons}
use Rattle.std.specs.Prelude.{◌||◌, not}
use Rattle.std.proofs.lemmas.List.{append-nil, length-take-le}
use Rattle.hart_memory.specs.Place.{holds}
use Rattle.hart_memory.specs.Image.{SegmentView, meets_any, is_apart, AreSound}
use Rattle.hart_memory.proofs.ImageLemmas.{sound_push}
use Rattle.rv_assembler.specs.Laying.{overlaps}
use Rattle.rv_assembler.specs.Placing.{AllFollow, total, CanBeCut}
use Rattle.rv_assembler.specs.Relation.{stretch_of}
use Rattle.rv_assembler.specs.Source.{cut_segments}
use Rattle.rv_assembler.specs.declared.stretch.Stretch.{Stretch}

abbrev pub sized : List SegmentView → List Stretch
sized ss = map stretch_of ss

-- what is left to add, and its bytes
pub record Adding (whole : List SegmentView) (left : List Stretch) (rest : List ℕ) (segments : List SegmentView) : Type 0 where
  pub follow : AllFollow (sized segments) left
  pub all : total left ≡ length rest
  pub few : length segments + length left ≤ 64
  pub cut : segments ++ cut_segments left rest ≡ whole

pub meets_is : (segments : List SegmentView) (at count : ℕ) → meets_any at count segments ≡ overlaps (record { base = at; size = count }) (sized segments)
meets_is [] at count = refl
meets_is (s ∷ ss) at count = ap (λ b. not (is_apart at count s) || b) (meets_is ss at count)

pub begins : (stretches : List Stretch) (bytes : List ℕ) (segments : List SegmentView) → segments ≡ [] → CanBeCut stretches bytes → Adding (cut_segments stretches bytes) stretches bytes segments
begins stretches bytes segments none h = rw none (record { follow = h.follow; all = h.whole; few = omega (arith, h.few); cut = refl })

pub fits_rest : (whole : List SegmentView) (s : Stretch) (ss : List Stretch) (rest : List ℕ) (segments : List SegmentView) → Adding whole (s ∷ ss) rest segments → s.size ≤ length rest
fits_rest whole s ss rest segments h = let e : s.size + total ss ≡ length rest = h.all in omega arith

content_length : (whole : List SegmentView) (s : Stretch) (ss : List Stretch) (rest : List ℕ) (segments : List SegmentView) → Adding whole (s ∷ ss) rest segments → length (take s.size rest) ≡ s.size
content_length whole s ss rest segments h = length-take-le s.size rest (fits_rest whole s ss rest segments h)

-- what adding a segment needs
pub record CanAdd (at : ℕ) (content : List ℕ) (segments : List SegmentView) : Type 0 where
  pub some : 0 < length content
  pub placed : holds at (length content) ≡ true
  pub apart : meets_any at (length content) segments ≡ false
  pub room : length segments < 64

pub can_add : (whole : List SegmentView) (s : Stretch) (ss : List Stretch) (rest content : List ℕ) (segments : List SegmentView) → Adding whole (s ∷ ss) rest segments → content ≡ take s.size rest → CanAdd s.base content segments
can_add whole s ss rest content segments h is =
    let len : length content ≡ s.size = ap length is ∙ content_length whole s ss rest segments h in
    record {
      some = omega (arith, h.follow.0.some, len);
      placed = ap (λ n. holds s.base n) len ∙ h.follow.0.placed;
      apart = ap (λ n. meets_any s.base n segments) len ∙ meets_is segments s.base s.size ∙ h.follow.0.apart;
      room = omega (arith, h.few);
    }

pub sized_more : (segments : List SegmentView) (s : SegmentView) → sized (segments ++ s ∷ []) ≡ sized segments ++ stretch_of s ∷ []
sized_more [] s = refl
sized_more (x ∷ xs) s = ap (λ ys. stretch_of x ∷ ys) (sized_more xs s)

pub adds : (whole : List SegmentView) (s : Stretch) (ss : List Stretch) (rest content after : List ℕ) (segments : List SegmentView) → Adding whole (s ∷ ss) rest segments → content ≡ take s.size rest → after ≡ drop s.size rest
    → Adding whole ss after (segments ++ record { address = s.base; content = content } ∷ [])
adds whole s ss rest content after segments h is on =
    let len : length content ≡ s.size = ap length is ∙ content_length whole s ss rest segments h in
    let same : sized segments ++ s ∷ [] ≡ sized (segments ++ record { address = s.base; content = content } ∷ []) =
    ap (λ n. sized segments ++ record { base = s.base; size = n } ∷ []) (sym len) ∙ sym (sized_more segments (record { address = s.base; content = content })) in
    record {
      follow = subst (λ (b : List Stretch). AllFollow b ss) same h.follow.1;
      all = (let e : s.size + total ss ≡ length rest = h.all in omega (arith, ap length on, length-drop s.size rest));
      few = omega (arith, h.few, length-append segments (record { address = s.base; content = content } ∷ []));
      cut = append_assoc segments (record { address = s.base; content = content } ∷ []) (cut_segments ss after) ∙ ap (λ (x : List ℕ × List ℕ). segments ++ record { address = s.base; content = x.0 } ∷ cut_segments ss x.1) (rw (is, on) refl) ∙ h.cut;
    }

pub added : (whole : List SegmentView) (left : List Stretch) (rest : List ℕ) (segments : List SegmentView) → length left ≡ 0 → Adding whole left rest segments → segments ≡ whole
added whole [] rest segments e h = sym (append-nil segments) ∙ h.cut
added whole (s ∷ ss) rest segments e h = absurd (omega arith)

pub left_on : (xs : List Stretch) (i : ℕ) (d : Stretch) → i < length xs → drop i xs ≡ get_or xs i d ∷ drop (i + 1) xs
left_on xs i d h =
    let one : suc i ≡ i + 1 = omega arith in
    drop-cons xs i d h ∙ ap (λ k. get_or xs i d ∷ drop k xs) one

-- what is added is sound
sound_left : (whole : List SegmentView) (left : List Stretch) (rest : List ℕ) (segments : List SegmentView) → Adding whole left rest segments → AreSound segments → AreSound whole
sound_left whole [] rest segments h sound = subst AreSound (added whole [] rest segments refl h) sound
sound_left whole (s ∷ ss) rest segments h sound =
    let can = can_add whole s ss rest (take s.size rest) segments h refl in
    sound_left whole ss (drop s.size rest) (segments ++ record { address = s.base; content = take s.size rest } ∷ []) (adds whole s ss rest (take s.size rest) (drop s.size rest) segments h refl refl)
    (sound_push segments (record { address = s.base; content = take s.size rest }) sound (can.some, can.placed) can.apart can.room)

nothing_sound : AreSound []
nothing_sound = record { few = omega arith; placed = λ k d lt. absurd (omega arith); apart = λ i j d lt inside. absurd (omega arith) }

pub cut_sound : (stretches : List Stretch) (bytes : List ℕ) → CanBeCut stretches bytes → AreSound (cut_segments stretches bytes)
cut_sound stretches bytes h = sound_left (cut_segments stretches bytes) stretches bytes [] (begins stretches bytes [] refl h) nothing_sound

-- the segments are those that were to be cut
pub cut_shape : (stretches : List Stretch) (bytes : List ℕ) → total stretches ≡ length bytes → sized (cut_segments stretches bytes) ≡ stretches
cut_shape [] bytes e = refl
cut_shape (s ∷ ss) bytes e =
    let parts : s.size + total ss ≡ length bytes = e in
    let here : length (take s.size bytes) ≡ s.size = length-take-le s.size bytes (omega arith) in
    ap (λ n. record { base = s.base; size = n } ∷ sized (cut_segments ss (drop s.size bytes))) here
    ∙ ap (λ (xs : List Stretch). s ∷ xs) (cut_shape ss (drop s.size bytes) (omega (arith, length-drop s.size bytes)))
