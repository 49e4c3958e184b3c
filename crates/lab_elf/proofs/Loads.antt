-- The pieces that sections give.
use Rattle.std.proofs.Common.{◌≡◌, ℕ, ◌+◌, ◌<◌, ◌≤◌, List, [], ◌∷◌, length, cond, Bool, true, false, Option, Some, None, Result, Ok, Err, refl, sym, subst, arith, ◌∙◌, ap}
use Rattle.std.specs.Prelude.{nat_lt, nat_le, not, filter}
use Rattle.std.proofs.lemmas.Bool.{leb-false, ltb-false}
use Rattle.std.proofs.lemmas.Bool.Decides.{nat_tests}
use Rattle.hart_words.specs.InTurn.{◌>>=◌}
use Rattle.hart_memory.specs.Place.{holds}
use Rattle.hart_memory.specs.Image.{ImageView}
use Rattle.hart_memory.specs.declared.image.TheConstants.{MAX_SEGMENTS}
use Rattle.lab_elf.specs.Fault.{Fault}
use Rattle.lab_elf.specs.Header.{is_inside}
use Rattle.lab_elf.specs.Headers.{sections, programs}
use Rattle.lab_elf.specs.Loading.{is_loaded, load_address, meets_any, put_in, with_address, with_section, with_sections, ArePiecesFrom, ArePiecesOf, put_all, image_with, IsImageOf}
use Rattle.lab_elf.specs.declared.section.Section.{Section}
use Rattle.lab_elf.specs.declared.piece.Piece.{Piece}
use Rattle.lab_elf.proofs.Pieces.{IsNew, one_more, stay_apart}

abbrev done : List Piece → Result (List Piece) Fault
done ps = Ok ps

done_is : (a b : List Piece) → done a ≡ done b → a ≡ b
done_is a b e = cc

bind_ok : (r : Result (List Piece) Fault) (f : List Piece → Result (List Piece) Fault) (y : List Piece) → (r >>= f) ≡ done y → (x : List Piece) × (r ≡ Ok x) × (f x ≡ Ok y)
bind_ok (Ok x) f y e = (x, refl, e)
bind_ok (Err d) f y e = absurd cc

passed : (b : Bool) (d : Fault) (r : Result (List Piece) Fault) (y : List Piece) → cond b (Err d) r ≡ done y → (b ≡ false) × (r ≡ done y)
passed true d r y e = absurd cc
passed false d r y e = (refl, e)

yes : (b : Bool) → not b ≡ false → b ≡ true
yes true h = refl
yes false h = absurd cc

no_by : (b : Bool) → not (not b) ≡ false → b ≡ false
no_by true h = absurd cc
no_by false h = refl

-- ---- one section

pub record Takes (bytes : List ℕ) (s : Section) (taken next : List Piece) : Type 0 where
  pub at : ℕ
  pub room : length taken < MAX_SEGMENTS
  pub inside : s.offset + s.size ≤ length bytes
  pub placed : holds at s.size ≡ true
  pub apart : meets_any (record { at = at; offset = s.offset; size = s.size }) taken ≡ false
  pub address : load_address s (programs bytes) ≡ Some at
  pub next_is : next ≡ put_in (record { at = at; offset = s.offset; size = s.size }) taken

addressed : (bytes : List ℕ) (s : Section) (o : Option ℕ) (taken next : List Piece) → length taken < MAX_SEGMENTS → s.offset + s.size ≤ length bytes → load_address s (programs bytes) ≡ o → with_address s o taken ≡ done next → Takes bytes s taken next
addressed bytes s None taken next room inside is e = absurd cc
addressed bytes s (Some at) taken next room inside is e =
    let p : Piece = record { at = at; offset = s.offset; size = s.size } in
    let a = passed (not (holds at s.size)) _ _ next e in
    let b = passed (meets_any p taken) _ _ next a.1 in
    record { at = at; room = room; inside = inside; placed = yes _ a.0; apart = b.0; address = is; next_is = sym (done_is (put_in p taken) next b.1) }

pub section_took : (bytes : List ℕ) (s : Section) (taken next : List Piece) → with_section bytes s taken ≡ Ok next → Takes bytes s taken next
unfolding with_section
section_took bytes s taken next e =
    let a = passed (nat_le MAX_SEGMENTS (length taken)) _ _ next e in
    let b = passed (not (is_inside s.offset s.size bytes)) _ _ next a.1 in
    let within : s.offset + s.size ≤ length bytes = ltb-false _ _ (no_by (nat_lt (length bytes) (s.offset + s.size)) b.0) in
    addressed bytes s (load_address s (programs bytes)) taken next (leb-false _ _ a.0) within refl b.1

-- ---- all sections

pub record AreGood (bytes : List ℕ) (ps : List Piece) : Type 0 where
  pub sound : ArePiecesFrom 0 bytes ps
  pub few : length ps ≤ MAX_SEGMENTS

pub has_bytes : (s : Section) → is_loaded s ≡ true → 0 < s.size
has_bytes s h = grind (arith, nat_tests)

good_next : (bytes : List ℕ) (s : Section) (taken next : List Piece) → is_loaded s ≡ true → AreGood bytes taken → Takes bytes s taken next → AreGood bytes next
good_next bytes s taken next loaded good t =
    let p : Piece = record { at = t.at; offset = s.offset; size = s.size } in
    let more = one_more p taken in
    let room = t.room in
    let new : IsNew bytes p = record { some = has_bytes s loaded; inside = t.inside; placed = t.placed } in
    subst (AreGood bytes) (sym t.next_is) (record { sound = stay_apart 0 bytes p taken new (omega arith) t.apart good.sound; few = omega (arith, more, room) })

sections_by : (b : Bool) (bytes : List ℕ) (s : Section) (ss : List Section) (taken all : List Piece) → is_loaded s ≡ b → AreGood bytes taken
    → ((next : List Piece) → AreGood bytes next → with_sections bytes ss next ≡ done all → AreGood bytes all)
    → with_sections bytes (cond b (s ∷ ss) ss) taken ≡ done all → AreGood bytes all
unfolding with_sections
sections_by true bytes s ss taken all loaded good more e =
    let b = bind_ok (with_section bytes s taken) (λ next. with_sections bytes ss next) all e in
    more b.0 (good_next bytes s taken b.0 loaded good (section_took bytes s taken b.0 b.1)) b.2
sections_by false bytes s ss taken all loaded good more e = more taken good e

loaded_good : (bytes : List ℕ) (ss : List Section) (taken all : List Piece) → AreGood bytes taken → with_sections bytes (filter is_loaded ss) taken ≡ done all → AreGood bytes all
unfolding with_sections
loaded_good bytes [] taken all good e = subst (AreGood bytes) (done_is taken all e) good
loaded_good bytes (s ∷ ss) taken all good e = sections_by (is_loaded s) bytes s (filter is_loaded ss) taken all refl good (λ next g h. loaded_good bytes ss next all g h) e

pub all_good : (bytes : List ℕ) (ss : List Section) (all : List Piece) → with_sections bytes (filter is_loaded ss) [] ≡ Ok all → AreGood bytes all
all_good bytes ss all e = loaded_good bytes ss [] all (record { sound = tt; few = omega arith }) e

-- ---- the pieces of sections

abbrev AreOf : List ℕ → List Section → List Piece → List Piece → Type 0
AreOf bytes ss taken all = (ps : List Piece) × ArePiecesOf bytes ss ps × (all ≡ put_all ps taken)

of_by : (b : Bool) (bytes : List ℕ) (s : Section) (ss : List Section) (taken all : List Piece)
    → ((next : List Piece) → with_sections bytes ss next ≡ done all → AreOf bytes ss next all)
    → with_sections bytes (cond b (s ∷ ss) ss) taken ≡ done all → AreOf bytes (cond b (s ∷ ss) ss) taken all
unfolding with_sections
of_by true bytes s ss taken all more e =
    let b = bind_ok (with_section bytes s taken) (λ next. with_sections bytes ss next) all e in
    let t = section_took bytes s taken b.0 b.1 in
    let p : Piece = record { at = t.at; offset = s.offset; size = s.size } in
    let m = more b.0 b.2 in
    (p ∷ m.0, (p, m.0, refl, record { address = t.address; offset_is = refl; size_is = refl; inside = t.inside; placed = t.placed }, m.1), m.2 ∙ ap (put_all m.0) t.next_is)
of_by false bytes s ss taken all more e = more taken e

pieces_of : (bytes : List ℕ) (ss : List Section) (taken all : List Piece) → with_sections bytes (filter is_loaded ss) taken ≡ done all → AreOf bytes (filter is_loaded ss) taken all
unfolding with_sections
pieces_of bytes [] taken all e = ([], refl, sym (done_is taken all e))
pieces_of bytes (s ∷ ss) taken all e = of_by (is_loaded s) bytes s (filter is_loaded ss) taken all (λ next h. pieces_of bytes ss next all h) e

pub image_of_pieces : (bytes : List ℕ) (all : List Piece) (image : ImageView) → with_sections bytes (filter is_loaded (sections bytes)) [] ≡ Ok all → image ≡ image_with bytes all → IsImageOf bytes image
image_of_pieces bytes all image e is =
    let found = pieces_of bytes (sections bytes) [] all e in
    record { pieces = found.0; of_sections = found.1; image_is = is ∙ ap (image_with bytes) found.2 }
