-- Reading one segment after the other.
use Rattle.std.proofs.Common.{◌≡◌, ℕ, suc, ◌+◌, ◌-◌, ◌<◌, ◌≤◌, List, [], ◌∷◌, ◌++◌, length, length-append, length-drop, length-take, take, drop, true, false, Result, Ok, Err, refl, sym, ap, subst, ◌∙◌, arith}
use Rattle.std.specs.Prelude.{nat_lt}
use Rattle.std.proofs.lemmas.Bool.{le-ltb}
use Rattle.hart_memory.specs.Image.{SegmentView, ImageView, meets_any}
use Rattle.hart_words.specs.InTurn.{◌>>=◌}
use Rattle.board_inputs.specs.ImageReading.{Fails, Gives, AddsSegment, AddsSegments, is_placed, field_at, end_at, segment_at, segments_from}
use Rattle.board_inputs.specs.declared.image_error.ImageError.{ImageError}
use Rattle.board_inputs.specs.declared.image_error.ImageError.TheVariants.{Memory, Refused}

-- reading on from a place, after i of count segments, gives what reading all of them gives
pub record ReadsOn (start now : ImageView) (count i place : ℕ) (bytes : List ℕ) : Type 0 where
  pub rest : segments_from (count - i) place now.segments bytes ≡ segments_from count 12 [] bytes
  pub so_far : length now.segments ≡ i
  pub entry : now.start ≡ start.start

pub goes_on : (start now next : ImageView) (count i place after : ℕ) (bytes : List ℕ) → i < count → ReadsOn start now count i place bytes
    → AddsSegment place now next (Ok after) (segment_at place now.segments bytes) → ReadsOn start next count (i + 1) after bytes
unfolding segments_from
goes_on start now next count i place after bytes lt h add =
    let k : count - i ≡ suc (count - (i + 1)) = omega arith in
    let one : segments_from (count - i) place now.segments bytes ≡ segments_from (count - (i + 1)) (place + 8 + length add.0.content) (now.segments ++ add.0 ∷ []) bytes = rw (k, add.1) refl in
    let more : next.segments ≡ now.segments ++ add.0 ∷ [] = ap (λ (x : ImageView). x.segments) add.3 in
    record {
      rest = rw (more, add.2) (sym one ∙ h.rest);
      so_far = rw more (omega (arith, length-append now.segments (add.0 ∷ []), h.so_far));
      entry = ap (λ (x : ImageView). x.start) add.3 ∙ h.entry;
    }

pub fails : (e : ImageError) (start now : ImageView) (count i place : ℕ) (bytes : List ℕ) → i < count → ReadsOn start now count i place bytes
    → Fails e (segment_at place now.segments bytes) → Fails e (segments_from count 12 [] bytes)
unfolding segments_from
fails Memory start now count i place bytes lt h f = tt
fails (Refused at why) start now count i place bytes lt h f =
    let k : count - i ≡ suc (count - (i + 1)) = omega arith in
    let one : segments_from (count - i) place now.segments bytes ≡ Err (record { place = at; why = why }) = rw (k, f) refl in
    sym h.rest ∙ one

end_gives : (start now : ImageView) (place : ℕ) (bytes : List ℕ) (r : Result (Unit {0}) ImageError) → now.start ≡ start.start → Gives (λ done. done) r (end_at place bytes)
    → AddsSegments start now r (end_at place bytes >>= λ done. Ok now.segments)
end_gives start now place bytes (Ok done) same g = (rw g refl, same)
end_gives start now place bytes (Err Memory) same g = tt
end_gives start now place bytes (Err (Refused at why)) same g = rw g refl

pub ended : (start now : ImageView) (count i place : ℕ) (bytes : List ℕ) (r : Result (Unit {0}) ImageError) → count ≤ i → ReadsOn start now count i place bytes
    → Gives (λ done. done) r (end_at place bytes) → AddsSegments start now r (segments_from count 12 [] bytes)
unfolding segments_from
ended start now count i place bytes r le h g =
    let k : count - i ≡ 0 = omega arith in
    let one : segments_from (count - i) place now.segments bytes ≡ end_at place bytes >>= λ done. Ok now.segments = rw k refl in
    subst (AddsSegments start now r) (sym one ∙ h.rest) (end_gives start now place bytes r h.entry g)

-- a segment whose tests all pass
pub segment_is : (place at count : ℕ) (before : List SegmentView) (bytes content : List ℕ) → field_at place bytes ≡ Ok at → field_at (place + 4) bytes ≡ Ok count
    → is_placed at count ≡ true → meets_any at count before ≡ false → place + 8 + count ≤ length bytes → content ≡ take count (drop (place + 8) bytes)
    → segment_at place before bytes ≡ Ok (record { address = at; content = content })
unfolding segment_at
segment_is place at count before bytes content here there placed apart long is =
    let enough : nat_lt (length bytes) (place + 8 + count) ≡ false = le-ltb _ _ long in
    rw (here, there, placed, apart, enough, is) refl

-- the length of what a slice has
pub taken_length : (place count : ℕ) (bytes : List ℕ) → place + 8 + count ≤ length bytes → length (take count (drop (place + 8) bytes)) ≡ count
taken_length place count bytes long = omega (arith, length-take count (drop (place + 8) bytes), length-drop (place + 8) bytes)
