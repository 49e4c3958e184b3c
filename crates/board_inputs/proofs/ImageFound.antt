-- What is read is the file's image.
use Rattle.std.proofs.Common.{◌≡◌, ℕ, zero, suc, ◌+◌, ◌<◌, ◌≤◌, ◌^◌, List, [], ◌∷◌, ◌++◌, length, length-append, length-take, length-drop, take, drop, get_or, cond, Bool, true, false, Result, Ok, Err, refl, sym, ap, subst, ◌∙◌, arith, lit<, append_assoc, append-nil, inl, inr}
use Rattle.std.specs.Prelude.{nat_lt, nat_eq, not, IfOk}
use Rattle.std.proofs.lemmas.Bool.{ltb-false, eqb-true, cases_lt}
use Rattle.std.proofs.lemmas.List.{drop-drop, take-append-drop, nil_from_length, get_or-take, get_or-drop, get_or_past}
use Rattle.std.proofs.lemmas.Nat.{le_bytes_4}
use Rattle.byteorder.specs.Endian.{little_number, little_bytes}
use Rattle.hart_memory.specs.Image.{SegmentView, ImageView, AreSound, meets_any}
use Rattle.hart_memory.specs.declared.image.TheConstants.{MAX_SEGMENTS}
use Rattle.hart_memory.proofs.ImageLemmas.{sound_push}
use Rattle.hart_words.specs.InTurn.{◌>>=◌}
use Rattle.board_inputs.specs.ImageFile.{IsImageFile, segment_text, segments_text, image_text}
use Rattle.board_inputs.specs.ImageReading.{at_place, Fault, Gives, is_placed, field_at, magic, magic_at, end_at, segment_at, segments_from, image_of}
use Rattle.board_inputs.specs.declared.image_why.ImageWhy.TheVariants.{BadMagic, Truncated, OutsideMemory, Overlap, TooMany, Trailing}
use Rattle.board_inputs.specs.declared.image_error.ImageError.{ImageError}
use Rattle.board_inputs.proofs.Segments.{placed_by_test, IsNext}

abbrev pub IsBytes : List ℕ → Type 0
IsBytes bytes = (i : ℕ) → get_or bytes i 0 < 256

IsBytes-drop : (n : ℕ) (bytes : List ℕ) → IsBytes bytes → IsBytes (drop n bytes)
IsBytes-drop n bytes h i = rw get_or-drop (h (n + i))

IsBytes-take : (n : ℕ) (bytes : List ℕ) → IsBytes bytes → IsBytes (take n bytes)
IsBytes-take n bytes h i =
    elim (cases_lt i n) [
      | inl lt ↦ rw (get_or-take n bytes i 0 lt) (h i)
      | inr le ↦ rw (get_or_past (take n bytes) i 0 (omega (arith, length-take n bytes))) (omega arith)
    ]

-- what a reading that did not fail read first
bind_ok : {A B : Type 0} (r : Result A Fault) (f : A → Result B Fault) (y : B) → (r >>= f) ≡ Ok y → (x : A) × (r ≡ Ok x) × (f x ≡ Ok y)
bind_ok (Ok x) f y e = (x, refl, e)
bind_ok (Err d) f y e = absurd cc

-- a test that did not fail
guard_ok : {A : Type 0} (b : Bool) (d : Fault) (r : Result A Fault) (y : A) → cond b (Err d) r ≡ Ok y → (b ≡ false) × (r ≡ Ok y)
guard_ok true d r y e = absurd cc
guard_ok false d r y e = (refl, e)

right_ok : {A : Type 0} (b : Bool) (d : Fault) (x y : A) → cond b (Ok x) (Err d) ≡ Ok y → b ≡ true
right_ok true d x y e = refl
right_ok false d x y e = absurd cc

abbrev done : {A : Type 0} → A → Result A Fault
done x = Ok x

ok_is : {A : Type 0} (x y : A) → done x ≡ done y → x ≡ y
ok_is x y e = cc

not_off : (b : Bool) → not b ≡ false → b ≡ true
not_off true e = refl
not_off false e = absurd cc

-- ---- a field
pub record Took (place n : ℕ) (bytes : List ℕ) : Type 0 where
  pub text : drop place bytes ≡ little_bytes 4 n ++ drop (place + 4) bytes
  pub small : n < 2 ^ 32
  pub inside : place + 4 ≤ length bytes

four_back : (bytes : List ℕ) → IsBytes bytes → 4 ≤ length bytes → little_bytes 4 (little_number 4 bytes) ≡ take 4 bytes
four_back bytes fits long =
    let len : length (take 4 bytes) ≡ 4 = omega (arith, length-take 4 bytes) in
    le_bytes_4 (take 4 bytes) (little_number 4 bytes) len (IsBytes-take 4 bytes fits) (omega (arith, get_or-take 4 bytes 0 0 (lit< tt), get_or-take 4 bytes 1 0 (lit< tt), get_or-take 4 bytes 2 0 (lit< tt), get_or-take 4 bytes 3 0 (lit< tt)))

field_took : (place n : ℕ) (bytes : List ℕ) → IsBytes bytes → field_at place bytes ≡ Ok n → Took place n bytes
field_took place n bytes fits e =
    let g = guard_ok (nat_lt (length bytes) (place + 4)) (record { place = place; why = Truncated }) (Ok (little_number 4 (drop place bytes))) n e in
    let long : place + 4 ≤ length bytes = ltb-false _ _ g.0 in
    let is : little_number 4 (drop place bytes) ≡ n = ok_is _ _ g.1 in
    let part = four_back (drop place bytes) (IsBytes-drop place bytes fits) (omega (arith, length-drop place bytes)) in
    let whole : drop place bytes ≡ take 4 (drop place bytes) ++ drop 4 (drop place bytes) = sym (take-append-drop 4 (drop place bytes)) in
    record {
      text = whole ∙ ap (λ (x : List ℕ). x ++ drop 4 (drop place bytes)) (sym part) ∙ ap (λ (k : ℕ). little_bytes 4 k ++ drop 4 (drop place bytes)) is ∙ ap (λ (x : List ℕ). little_bytes 4 n ++ x) (drop-drop 4 place bytes);
      small = rw (← is) (omega (arith, IsBytes-drop place bytes fits 0, IsBytes-drop place bytes fits 1, IsBytes-drop place bytes fits 2, IsBytes-drop place bytes fits 3));
      inside = long;
    }

-- ---- a segment
-- the tests of a segment whose fields are read
abbrev tests_of : ℕ → List SegmentView → List ℕ → ℕ → ℕ → Result SegmentView Fault
tests_of place before bytes at count =
    cond (not (is_placed at count)) (at_place place OutsideMemory) (cond (meets_any at count before) (at_place place Overlap)
    (cond (nat_lt (length bytes) (place + 8 + count)) (at_place (place + 8) Truncated) (Ok (record { address = at; content = take count (drop (place + 8) bytes) }))))

parts_join : (at count : ℕ) (content rest whole : List ℕ) → whole ≡ little_bytes 4 at ++ (little_bytes 4 count ++ (content ++ rest)) → whole ≡ (little_bytes 4 at ++ (little_bytes 4 count ++ content)) ++ rest
parts_join at count content rest whole e =
    e ∙ ap (λ (x : List ℕ). little_bytes 4 at ++ x) (sym (append_assoc (little_bytes 4 count) content rest)) ∙ sym (append_assoc (little_bytes 4 at) (little_bytes 4 count ++ content) rest)

pub record TookSegment (place : ℕ) (s : SegmentView) (before : List SegmentView) (bytes : List ℕ) : Type 0 where
  pub next : IsNext before s
  pub text : drop place bytes ≡ segment_text s ++ drop (place + 8 + length s.content) bytes
  pub inside : place + 8 + length s.content ≤ length bytes

segment_took : (place : ℕ) (s : SegmentView) (before : List SegmentView) (bytes : List ℕ) → IsBytes bytes → segment_at place before bytes ≡ Ok s → TookSegment place s before bytes
unfolding segment_at
segment_took place s before bytes fits e =
    let a = bind_ok (field_at place bytes) (λ at. field_at (place + 4) bytes >>= λ count. tests_of place before bytes at count) s e in
    let b = bind_ok (field_at (place + 4) bytes) (λ count. tests_of place before bytes a.0 count) s a.2 in
    let at = a.0 in
    let count = b.0 in
    let g = guard_ok (not (is_placed at count)) (record { place = place; why = OutsideMemory }) _ s b.2 in
    let h = guard_ok (meets_any at count before) (record { place = place; why = Overlap }) _ s g.1 in
    let t = guard_ok (nat_lt (length bytes) (place + 8 + count)) (record { place = place + 8; why = Truncated }) _ s h.1 in
    let long : place + 8 + count ≤ length bytes = ltb-false _ _ t.0 in
    let content = take count (drop (place + 8) bytes) in
    let made : SegmentView = record { address = at; content = content } in
    let len : length content ≡ count = omega (arith, length-take count (drop (place + 8) bytes), length-drop (place + 8) bytes) in
    let placed : is_placed at (length content) ≡ true = rw len (not_off (is_placed at count) g.0) in
    let first = field_took place at bytes fits a.1 in
    let second = field_took (place + 4) count bytes fits b.1 in
    let eight : place + 4 + 4 ≡ place + 8 = omega arith in
    let third : drop (place + 8) bytes ≡ content ++ drop (place + 8 + count) bytes = sym (take-append-drop count (drop (place + 8) bytes)) ∙ ap (λ (x : List ℕ). content ++ x) (drop-drop count (place + 8) bytes) in
    let whole : drop place bytes ≡ little_bytes 4 at ++ (little_bytes 4 count ++ (content ++ drop (place + 8 + count) bytes)) =
    first.text ∙ ap (λ (x : List ℕ). little_bytes 4 at ++ x) (second.text ∙ ap (λ (x : List ℕ). little_bytes 4 count ++ x) (ap (λ (k : ℕ). drop k bytes) eight ∙ third)) in
    let joined = parts_join at count content (drop (place + 8 + count) bytes) (drop place bytes) whole in
    subst (λ (q : SegmentView). TookSegment place q before bytes) (ok_is made s t.1) (record {
      next = record { placed = placed_by_test made placed; apart = rw len h.0 };
      text = subst (λ (k : ℕ). drop place bytes ≡ (little_bytes 4 at ++ (little_bytes 4 k ++ content)) ++ drop (place + 8 + k) bytes) (sym len) joined;
      inside = omega (arith, len, long);
    })

-- ---- all segments
pub record TookAll (n place : ℕ) (all before : List SegmentView) (bytes : List ℕ) : Type 0 where
  pub segments : List SegmentView
  pub all_are : all ≡ before ++ segments
  pub count : length segments ≡ n
  pub sound : AreSound all
  pub text : drop place bytes ≡ segments_text segments

segments_took : (n place : ℕ) (all before : List SegmentView) (bytes : List ℕ) → IsBytes bytes → place ≤ length bytes → AreSound before → length before + n ≤ MAX_SEGMENTS
    → segments_from n place before bytes ≡ Ok all → TookAll n place all before bytes
unfolding segments_from
segments_took zero place all before bytes fits le sound few e =
    let b = bind_ok (end_at place bytes) (λ done. Ok before) all e in
    let g = guard_ok (nat_lt place (length bytes)) (record { place = place; why = Trailing }) (Ok tt) b.0 b.1 in
    let end : length bytes ≤ place = ltb-false _ _ g.0 in
    let same : before ≡ all = ok_is _ _ b.2 in
    let nothing : drop place bytes ≡ [] = nil_from_length (drop place bytes) (omega (arith, length-drop place bytes)) in
    record { segments = []; all_are = sym same ∙ sym (append-nil before); count = refl; sound = subst AreSound same sound; text = nothing }
segments_took (suc n) place all before bytes fits le sound few e =
    let a = bind_ok (segment_at place before bytes) (λ s. segments_from n (place + 8 + length s.content) (before ++ s ∷ []) bytes) all e in
    let s = a.0 in
    let one = segment_took place s before bytes fits a.1 in
    let longer : length (before ++ s ∷ []) ≡ length before + 1 = length-append before (s ∷ []) in
    let pushed = sound_push before s sound one.next.placed one.next.apart (omega (arith, few)) in
    let more = segments_took n (place + 8 + length s.content) all (before ++ s ∷ []) bytes fits one.inside pushed (omega (arith, few, longer)) a.2 in
    record {
      segments = s ∷ more.segments;
      all_are = more.all_are ∙ append_assoc before (s ∷ []) more.segments;
      count = ap suc more.count;
      sound = more.sound;
      text = one.text ∙ ap (λ (x : List ℕ). segment_text s ++ x) more.text;
    }

none_are_sound : AreSound []
none_are_sound = record { few = omega arith; placed = λ k d l. absurd (omega arith); apart = λ i j d l m. absurd (omega arith) }

-- ---- the file
abbrev after_count : List ℕ → ℕ → ℕ → Result ImageView Fault
after_count bytes entry count = cond (nat_lt MAX_SEGMENTS count) (at_place 8 TooMany) (segments_from count 12 [] bytes >>= λ ss. Ok (record { start = entry; segments = ss }))

image_took : (i : ImageView) (bytes : List ℕ) → IsBytes bytes → image_of bytes ≡ Ok i → IsImageFile bytes i
unfolding image_of
image_took i bytes fits e =
    let a = bind_ok (magic_at bytes) (λ letters. field_at 4 bytes >>= λ entry. field_at 8 bytes >>= λ count. after_count bytes entry count) i e in
    let b = bind_ok (field_at 4 bytes) (λ entry. field_at 8 bytes >>= λ count. after_count bytes entry count) i a.2 in
    let c = bind_ok (field_at 8 bytes) (λ count. after_count bytes b.0 count) i b.2 in
    let g = guard_ok (nat_lt MAX_SEGMENTS c.0) (record { place = 8; why = TooMany }) _ i c.2 in
    let d = bind_ok (segments_from c.0 12 [] bytes) (λ ss. Ok (record { start = b.0; segments = ss })) i g.1 in
    let m = bind_ok (field_at 0 bytes) (λ m. cond (nat_eq m magic) (Ok m) (at_place 0 BadMagic)) a.0 a.1 in
    let letters : m.0 ≡ magic = eqb-true _ _ (right_ok (nat_eq m.0 magic) (record { place = 0; why = BadMagic }) m.0 a.0 m.2) in
    let few : c.0 ≤ MAX_SEGMENTS = ltb-false _ _ g.0 in
    let t0 = field_took 0 m.0 bytes fits m.1 in
    let t1 = field_took 4 b.0 bytes fits b.1 in
    let t2 = field_took 8 c.0 bytes fits c.1 in
    let t3 = segments_took c.0 12 d.0 [] bytes fits t2.inside none_are_sound (omega (arith, few)) d.1 in
    let made : ImageView = record { start = b.0; segments = d.0 } in
    let text : bytes ≡ little_bytes 4 m.0 ++ (little_bytes 4 b.0 ++ (little_bytes 4 c.0 ++ segments_text t3.segments)) =
    t0.text ∙ ap (λ (x : List ℕ). little_bytes 4 m.0 ++ x) (t1.text ∙ ap (λ (x : List ℕ). little_bytes 4 b.0 ++ x) (t2.text ∙ ap (λ (x : List ℕ). little_bytes 4 c.0 ++ x) t3.text)) in
    let whole : bytes ≡ image_text made = rw t3.all_are (text ∙ ap (λ (k : ℕ). little_bytes 4 k ++ (little_bytes 4 b.0 ++ (little_bytes 4 c.0 ++ segments_text t3.segments))) letters
    ∙ ap (λ (k : ℕ). little_bytes 4 magic ++ (little_bytes 4 b.0 ++ (little_bytes 4 k ++ segments_text t3.segments))) (sym t3.count)) in
    subst (λ (q : ImageView). IsImageFile bytes q) (ok_is made i d.2) (record { entry = t1.small; sound = t3.sound; text = whole })

pub is_found : (bytes : List ℕ) (r : Result ImageView ImageError) → IsBytes bytes → Gives (λ i. i) r (image_of bytes) → IfOk r (λ i. IsImageFile bytes i)
is_found bytes (Ok i) fits given = image_took i bytes fits given
is_found bytes (Err e) fits given = tt
