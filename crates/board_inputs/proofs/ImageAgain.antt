-- The file of an image is read as that image.
use Rattle.std.proofs.Common.{◌≡◌, ℕ, ◌+◌, ◌<◌, ◌≤◌, ◌^◌, List, [], ◌∷◌, ◌++◌, length, length-append, length-drop, take, drop, false, Result, Ok, Err, refl, sym, ap, subst, ◌∙◌, arith, lit<, append_assoc, append-nil}
use Rattle.std.specs.Prelude.{nat_lt, IfOk}
use Rattle.std.proofs.lemmas.Bool.{le-ltb}
use Rattle.std.proofs.lemmas.List.{take_at, drop_at, drop-drop}
use Rattle.byteorder.specs.Endian.{little_number, little_bytes}
use Rattle.byteorder.specs.Numbers.{little_number-reads_back}
use Rattle.hart_memory.specs.Image.{SegmentView, ImageView, AreSound}
use Rattle.hart_memory.specs.declared.image.TheConstants.{MAX_SEGMENTS}
use Rattle.board_inputs.specs.ImageFile.{IsImageFile, segment_text, segments_text, image_text}
use Rattle.board_inputs.specs.ImageReading.{field_at, magic, magic_at, segment_at, segments_from, image_of}
use Rattle.board_inputs.proofs.Segments.{is_near, test_of_placed, IsNext, next_of_sound}
use Rattle.board_inputs.proofs.SegmentLoop.{segment_is}

field_is : (place : ℕ) (bytes : List ℕ) (n : ℕ) → place + 4 ≤ length bytes → little_number 4 (drop place bytes) ≡ n → field_at place bytes ≡ Ok n
field_is place bytes n long is = let enough : nat_lt (length bytes) (place + 4) ≡ false = le-ltb _ _ long in rw (enough, is) refl

pub record Past (place n : ℕ) (bytes rest : List ℕ) : Type 0 where
  pub field : field_at place bytes ≡ Ok n
  pub rest_is : drop (place + 4) bytes ≡ rest
  pub inside : place + 4 ≤ length bytes

-- past a part of the text
past_part : (place k : ℕ) (bytes part rest : List ℕ) → length part ≡ k → drop place bytes ≡ part ++ rest → drop (place + k) bytes ≡ rest
past_part place k bytes part rest len e = sym (drop-drop k place bytes) ∙ ap (drop k) e ∙ drop_at part rest k len

field_again : (place n : ℕ) (bytes rest : List ℕ) → place ≤ length bytes → n < 2 ^ 32 → drop place bytes ≡ little_bytes 4 n ++ rest → Past place n bytes rest
field_again place n bytes rest le small e =
    let size : length (drop place bytes) ≡ 4 + length rest = ap length e ∙ length-append (little_bytes 4 n) rest in
    let long : place + 4 ≤ length bytes = omega (arith, size, length-drop place bytes) in
    record {
      field = field_is place bytes n long (ap (little_number 4) e ∙ little_number-reads_back 4 n rest (omega (arith, small)));
      rest_is = past_part place 4 bytes (little_bytes 4 n) rest refl e;
      inside = long;
    }

pub record PastSegment (place : ℕ) (s : SegmentView) (before : List SegmentView) (bytes rest : List ℕ) : Type 0 where
  pub segment : segment_at place before bytes ≡ Ok s
  pub rest_is : drop (place + 8 + length s.content) bytes ≡ rest
  pub inside : place + 8 + length s.content ≤ length bytes

segment_again : (place : ℕ) (s : SegmentView) (before : List SegmentView) (bytes rest : List ℕ) → place ≤ length bytes → IsNext before s
    → drop place bytes ≡ segment_text s ++ rest → PastSegment place s before bytes rest
segment_again place s before bytes rest le h e =
    let near = is_near s.address (length s.content) h.placed.1 in
    let one : drop place bytes ≡ little_bytes 4 s.address ++ ((little_bytes 4 (length s.content) ++ s.content) ++ rest) = e ∙ append_assoc (little_bytes 4 s.address) (little_bytes 4 (length s.content) ++ s.content) rest in
    let a = field_again place s.address bytes ((little_bytes 4 (length s.content) ++ s.content) ++ rest) le (omega arith) one in
    let two : drop (place + 4) bytes ≡ little_bytes 4 (length s.content) ++ (s.content ++ rest) = a.rest_is ∙ append_assoc (little_bytes 4 (length s.content)) s.content rest in
    let b = field_again (place + 4) (length s.content) bytes (s.content ++ rest) a.inside (omega arith) two in
    let eight : place + 4 + 4 ≡ place + 8 = omega arith in
    let three : drop (place + 8) bytes ≡ s.content ++ rest = ap (λ (k : ℕ). drop k bytes) (sym eight) ∙ b.rest_is in
    let size : length (drop (place + 8) bytes) ≡ length s.content + length rest = ap length three ∙ length-append s.content rest in
    let long : place + 8 + length s.content ≤ length bytes = omega (arith, size, length-drop (place + 8) bytes, b.inside) in
    let content : s.content ≡ take (length s.content) (drop (place + 8) bytes) = sym (ap (take (length s.content)) three ∙ take_at s.content rest (length s.content) refl) in
    record {
      segment = segment_is place s.address (length s.content) before bytes s.content a.field b.field (test_of_placed s h.placed) h.apart long content;
      rest_is = past_part (place + 8) (length s.content) bytes s.content rest refl three;
      inside = long;
    }

segments_again : (ss before : List SegmentView) (place : ℕ) (bytes : List ℕ) → place ≤ length bytes → AreSound (before ++ ss) → drop place bytes ≡ segments_text ss
    → segments_from (length ss) place before bytes ≡ Ok (before ++ ss)
unfolding segments_from
segments_again [] before place bytes le sound e =
    let size : length (drop place bytes) ≡ 0 = ap length e in
    let all : nat_lt place (length bytes) ≡ false = le-ltb _ _ (omega (arith, size, length-drop place bytes)) in
    rw (all, append-nil before) refl
segments_again (s ∷ ss) before place bytes le sound e =
    let one = segment_again place s before bytes (segments_text ss) le (next_of_sound before ss s sound) e in
    let joined : (before ++ s ∷ []) ++ ss ≡ before ++ s ∷ ss = append_assoc before (s ∷ []) ss in
    let more = segments_again ss (before ++ s ∷ []) (place + 8 + length s.content) bytes one.inside (subst AreSound (sym joined) sound) one.rest_is in
    rw one.segment (more ∙ ap (λ (l : List SegmentView). Ok l) joined)

magic_is : (bytes : List ℕ) → field_at 0 bytes ≡ Ok magic → magic_at bytes ≡ Ok magic
magic_is bytes e = rw e refl

pub image_again : (i : ImageView) (bytes : List ℕ) → IsImageFile bytes i → image_of bytes ≡ Ok i
unfolding image_of
image_again i bytes h =
    let a = field_again 0 magic bytes (little_bytes 4 i.start ++ (little_bytes 4 (length i.segments) ++ segments_text i.segments)) (omega arith) (lit< tt) h.text in
    let b = field_again 4 i.start bytes (little_bytes 4 (length i.segments) ++ segments_text i.segments) a.inside h.entry a.rest_is in
    let c = field_again 8 (length i.segments) bytes (segments_text i.segments) b.inside (omega (arith, h.sound.few)) b.rest_is in
    let d = segments_again i.segments [] 12 bytes c.inside h.sound c.rest_is in
    let few : nat_lt MAX_SEGMENTS (length i.segments) ≡ false = le-ltb _ _ h.sound.few in
    rw (magic_is bytes a.field, b.field, c.field, few, d) refl

-- a written text is the image's file, and is read as the image
pub written_is_file : {E : Type 0} (i : ImageView) (r : Result (List ℕ) E) → i.start < 2 ^ 32 → AreSound i.segments → IfOk r (λ text. text ≡ image_text i) → IfOk r (λ text. IsImageFile text i)
written_is_file i (Ok text) entry sound e = record { entry = entry; sound = sound; text = e }
written_is_file i (Err x) entry sound e = tt

pub file_is_read : {E : Type 0} (i : ImageView) (r : Result (List ℕ) E) → IfOk r (λ text. IsImageFile text i) → IfOk r (λ text. image_of text ≡ Ok i)
file_is_read i (Ok text) h = image_again i text h
file_is_read i (Err x) h = tt
