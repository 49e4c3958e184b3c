-- The shape that a file says, and how its opening is found.
use Rattle.std.proofs.Common.{◌≡◌, ℕ, ◌+◌, ◌<◌, ◌≤◌, ◌^◌, List, [], ◌∷◌, ◌++◌, length, codes, decimal, cond, Bool, true, false, Option, Some, None, refl, sym, ap, subst, ◌∙◌, arith, lit<, nat_le}
use Rattle.std.specs.Str.{bytes_eq}
use Rattle.std.proofs.lemmas.Bool.{leb-true, le-leb}
use Rattle.std.proofs.lemmas.Slice.Eq.{bytes_eq-Decides}
use Rattle.hart_words.specs.Cuts.{cut}
use Rattle.hart_words.specs.Lines.{lines_of, lines_left, left}
use Rattle.hart_words.proofs.CutText.{cut_again, cut_took}
use Rattle.clic_regs.specs.Shape.{ClicShape, IsShape, shape_of, plain_shape}
use Rattle.board_inputs.specs.Numbers.{number_upto}
use Rattle.board_inputs.specs.Spelling.{spaced, IsPassed, ArePassed, shape_text, SaysShape}
use Rattle.board_inputs.specs.Opening.{Opening, is_passed, shape_from, shape_named, shape_after, shape_parts, shape_in, opening_by, opening_of}
use Rattle.board_inputs.specs.ScenarioFile.{file_opening}
use Rattle.board_inputs.specs.ScenarioReading.{with_line, with_lines}
use Rattle.board_inputs.proofs.NumberText.{number_again, number_took, decimal_only, some_on}
use Rattle.board_inputs.proofs.LinePassed.{test_again, test_passed, passed_test}

-- ---- a line that says a shape

abbrev shaped : ClicShape → Option ClicShape
shaped s = Some s

abbrev no_shape : Option ClicShape
no_shape = None

none_shaped : {s : ClicShape} → no_shape ≡ shaped s → ⊥
none_shaped e = cc

shape_is : (r s : ClicShape) → shaped r ≡ shaped s → r ≡ s
shape_is r s e = cc

-- the numbers are a shape's
shape_by : (inputs bits : ℕ) (s : ClicShape) (a b c : Bool) → nat_le 24 inputs ≡ a → nat_le inputs 1024 ≡ b → nat_le bits 8 ≡ c → shape_of inputs bits ≡ shaped s → IsShape s × (s ≡ record { inputs = inputs; bits = bits })
shape_by inputs bits s true true true least most few e =
    let same : record { inputs = inputs; bits = bits } ≡ s = shape_is _ s (rw (least, most, few) at e) in
    (subst IsShape same (record { least = leb-true _ _ least; most = leb-true _ _ most; bits = leb-true _ _ few }), sym same)
shape_by inputs bits s false b c least most few e = absurd (none_shaped (rw least at e))
shape_by inputs bits s true false c least most few e = absurd (none_shaped (rw (least, most) at e))
shape_by inputs bits s true true false least most few e = absurd (none_shaped (rw (least, most, few) at e))

shape_took : (inputs bits : ℕ) (s : ClicShape) → shape_of inputs bits ≡ shaped s → IsShape s × (s ≡ record { inputs = inputs; bits = bits })
shape_took inputs bits s e = shape_by inputs bits s _ _ _ refl refl refl e

shape_again : (s : ClicShape) → IsShape s → shape_of s.inputs s.bits ≡ Some s
shape_again s h = rw (le-leb _ _ h.least, le-leb _ _ h.most, le-leb _ _ h.bits) refl

name_is : (name word : List ℕ) → bytes_eq name word ≡ true → name ≡ word
name_is name word e = (bytes_eq-Decides name word).0 e

from_took : (name first second : List ℕ) (s : ClicShape) (o p : Option ℕ) → name ≡ codes "clic" → number_upto 1024 first ≡ o → number_upto 8 second ≡ p → shape_from o p ≡ shaped s → SaysShape (spaced name (spaced first second)) s
from_took name first second s None p is one two e = absurd (none_shaped e)
from_took name first second s (Some inputs) None is one two e = absurd (none_shaped e)
from_took name first second s (Some inputs) (Some bits) is one two e =
    let n = number_took 1024 inputs first (lit< tt) one in
    let m = number_took 8 bits second (lit< tt) two in
    let t = shape_took inputs bits s e in
    record { shape = t.0; text = rw (is, n.0, m.0, t.1) refl }

named_took : (name first second : List ℕ) (s : ClicShape) → shape_named name first second ≡ Some s → SaysShape (spaced name (spaced first second)) s
unfolding shape_named
named_took name first second s e =
    let a = some_on (bytes_eq name (codes "clic")) (shape_from (number_upto 1024 first) (number_upto 8 second)) s e in
    from_took name first second s (number_upto 1024 first) (number_upto 8 second) (name_is name (codes "clic") a.0) refl refl a.1

after_took : (name numbers : List ℕ) (p : List ℕ × Option (List ℕ)) (s : ClicShape) → cut 32 numbers ≡ p → shape_after name p ≡ Some s → SaysShape (spaced name numbers) s
after_took name numbers (first, None) s is e = absurd (none_shaped e)
after_took name numbers (first, Some second) s is e = rw (cut_took 32 numbers first second is) (named_took name first second s e)

parts_took : (line : List ℕ) (p : List ℕ × Option (List ℕ)) (s : ClicShape) → cut 32 line ≡ p → shape_parts p ≡ Some s → SaysShape line s
parts_took line (name, None) s is e = absurd (none_shaped e)
parts_took line (name, Some numbers) s is e =
    subst (λ (text : List ℕ). SaysShape text s) (sym (cut_took 32 line name numbers is)) (after_took name numbers (cut 32 numbers) s refl e)

pub shape_told : (line : List ℕ) (s : ClicShape) → shape_in line ≡ Some s → SaysShape line s
unfolding shape_in
shape_told line s e = parts_took line (cut 32 line) s refl e

text_again : (s : ClicShape) → IsShape s → shape_in (shape_text s) ≡ Some s
unfolding shape_in shape_named
text_again s h =
    let small : s.inputs < 2 ^ 64 = omega (arith, h.most) in
    let few : s.bits < 2 ^ 64 = omega (arith, h.bits) in
    rw (cut_again 32 (codes "clic") (spaced (decimal s.inputs) (decimal s.bits)) refl, cut_again 32 (decimal s.inputs) (decimal s.bits) (decimal_only s.inputs small), number_again 1024 s.inputs h.most small, number_again 8 s.bits h.bits few) (shape_again s h)

pub shape_said : (line : List ℕ) (s : ClicShape) → SaysShape line s → shape_in line ≡ Some s
shape_said line s h = subst (λ (text : List ℕ). shape_in text ≡ Some s) (sym h.text) (text_again s h.shape)

-- ---- an opening's shape is one

said_by : (line : List ℕ) (lines : List (List ℕ)) (o : Option ClicShape) → shape_in line ≡ o → IsShape (opening_by o line lines).shape
said_by line lines None is = record { least = omega arith; most = omega arith; bits = omega arith }
said_by line lines (Some s) is = (shape_told line s is).shape

shape_of_by : (line : List ℕ) (lines : List (List ℕ)) (b : Bool) → IsShape (opening_of lines).shape → IsShape (cond b (record { shape = (opening_of lines).shape; lines = line ∷ (opening_of lines).lines }) (opening_by (shape_in line) line lines)).shape
shape_of_by line lines true h = h
shape_of_by line lines false h = said_by line lines (shape_in line) refl

opening_shape : (lines : List (List ℕ)) → IsShape (opening_of lines).shape
unfolding opening_of
opening_shape [] = record { least = omega arith; most = omega arith; bits = omega arith }
opening_shape (line ∷ lines) = shape_of_by line lines (is_passed line) (opening_shape lines)

pub inputs_small : (bytes : List ℕ) → (file_opening bytes).shape.inputs < 2 ^ 32
inputs_small bytes = omega (arith, (opening_shape (lines_of bytes)).most)

-- ---- reading the opening line by line

-- the opening of what is left is that of all
pub record Opens (bytes : List ℕ) (rest : Option (List ℕ)) (number : ℕ) : Type 0 where
  pub shape : (opening_of (lines_left rest)).shape ≡ (file_opening bytes).shape
  pub lines : (n : ℕ) → with_lines n (opening_of (lines_left rest)).lines number [] ≡ with_lines n (file_opening bytes).lines 1 []
  pub few : number + left rest ≤ length bytes + 2

passed_opening : (line : List ℕ) (lines : List (List ℕ)) → is_passed line ≡ true → opening_of (line ∷ lines) ≡ record { shape = (opening_of lines).shape; lines = line ∷ (opening_of lines).lines }
unfolding opening_of
passed_opening line lines p = rw p refl

other_opening : (line : List ℕ) (lines : List (List ℕ)) (o : Option ClicShape) → is_passed line ≡ false → shape_in line ≡ o → opening_of (line ∷ lines) ≡ opening_by o line lines
unfolding opening_of
other_opening line lines o p is = rw (p, is) refl

-- a line that is passed over adds nothing
passed_adds : (n : ℕ) (line : List ℕ) (lines : List (List ℕ)) (number : ℕ) → is_passed line ≡ true → with_lines n (line ∷ lines) number [] ≡ with_lines n lines (number + 1) []
unfolding with_lines with_line
passed_adds n line lines number p = rw (test_again n line p) refl

pub passes_on : (bytes text line : List ℕ) (after : Option (List ℕ)) (number : ℕ) → lines_of text ≡ line ∷ lines_left after → left after ≤ length text → is_passed line ≡ true → Opens bytes (Some text) number → Opens bytes after (number + 1)
passes_on bytes text line after number cuts less p h =
    let o : opening_of (lines_of text) ≡ record { shape = (opening_of (lines_left after)).shape; lines = line ∷ (opening_of (lines_left after)).lines } = ap opening_of cuts ∙ passed_opening line (lines_left after) p in
    record {
      shape = sym (ap (λ (x : Opening). x.shape) o) ∙ h.shape;
      lines = λ n. sym (passed_adds n line (opening_of (lines_left after)).lines number p) ∙ sym (ap (λ (x : Opening). with_lines n x.lines number []) o) ∙ h.lines n;
      few = omega (arith, h.few, less);
    }

-- what is left once the opening is read
pub record Opened (bytes : List ℕ) (shape : ClicShape) (number : ℕ) (rest : Option (List ℕ)) : Type 0 where
  pub shape_is : shape ≡ (file_opening bytes).shape
  pub lines : (n : ℕ) → with_lines n (lines_left rest) number [] ≡ with_lines n (file_opening bytes).lines 1 []
  pub few : number + left rest ≤ length bytes + 2

pub says : (bytes text line : List ℕ) (after : Option (List ℕ)) (number : ℕ) (s : ClicShape) → lines_of text ≡ line ∷ lines_left after → left after ≤ length text → is_passed line ≡ false → shape_in line ≡ Some s → Opens bytes (Some text) number → Opened bytes s (number + 1) after
says bytes text line after number s cuts less p is h =
    let o : opening_of (lines_of text) ≡ record { shape = s; lines = [] ∷ lines_left after } = ap opening_of cuts ∙ other_opening line (lines_left after) (Some s) p is in
    record {
      shape_is = sym (ap (λ (x : Opening). x.shape) o) ∙ h.shape;
      lines = λ n. sym (passed_adds n [] (lines_left after) number refl) ∙ sym (ap (λ (x : Opening). with_lines n x.lines number []) o) ∙ h.lines n;
      few = omega (arith, h.few, less);
    }

pub says_none : (bytes text line : List ℕ) (after : Option (List ℕ)) (number : ℕ) → lines_of text ≡ line ∷ lines_left after → is_passed line ≡ false → shape_in line ≡ None → Opens bytes (Some text) number → Opened bytes plain_shape number (Some text)
says_none bytes text line after number cuts p is h =
    let o : opening_of (lines_of text) ≡ record { shape = plain_shape; lines = line ∷ lines_left after } = ap opening_of cuts ∙ other_opening line (lines_left after) None p is in
    record {
      shape_is = sym (ap (λ (x : Opening). x.shape) o) ∙ h.shape;
      lines = λ n. ap (λ (ls : List (List ℕ)). with_lines n ls number []) cuts ∙ sym (ap (λ (x : Opening). with_lines n x.lines number []) o) ∙ h.lines n;
      few = h.few;
    }

pub ends : (bytes : List ℕ) (number : ℕ) → Opens bytes None number → Opened bytes plain_shape number None
unfolding opening_of
ends bytes number h = record { shape_is = h.shape; lines = h.lines; few = h.few }

-- ---- what files begin with, in words

not_by : (line : List ℕ) (b : Bool) → is_passed line ≡ b → (IsPassed line → ⊥) → is_passed line ≡ false
not_by line true is h = absurd (h (test_passed line is))
not_by line false is h = is

none_by : (line : List ℕ) (o : Option ClicShape) → shape_in line ≡ o → ((s : ClicShape) → SaysShape line s → ⊥) → shape_in line ≡ None
none_by line None is h = is
none_by line (Some s) is h = absurd (h s (shape_told line s is))

says_is_no_comment : (line : List ℕ) (s : ClicShape) → SaysShape line s → is_passed line ≡ false
says_is_no_comment line s h = ap is_passed h.text

behind : (line : List ℕ) (lines told : List (List ℕ)) (s : ClicShape) → is_passed line ≡ true → opening_of lines ≡ record { shape = s; lines = told } → opening_of (line ∷ lines) ≡ record { shape = s; lines = line ∷ told }
behind line lines told s p h = passed_opening line lines p ∙ ap (λ (o : Opening). record { shape = o.shape; lines = line ∷ o.lines }) h

pub shaped_file : (front rest : List (List ℕ)) (line : List ℕ) (s : ClicShape) → ArePassed front → SaysShape line s → opening_of (front ++ line ∷ rest) ≡ record { shape = s; lines = front ++ [] ∷ rest }
shaped_file [] rest line s h said = other_opening line rest (Some s) (says_is_no_comment line s said) (shape_said line s said)
shaped_file (first ∷ front) rest line s h said = behind first (front ++ line ∷ rest) (front ++ [] ∷ rest) s (passed_test first h.0) (shaped_file front rest line s h.1 said)

pub plain_file : (front rest : List (List ℕ)) (line : List ℕ) → ArePassed front → (IsPassed line → ⊥) → ((s : ClicShape) → SaysShape line s → ⊥) → opening_of (front ++ line ∷ rest) ≡ record { shape = plain_shape; lines = front ++ line ∷ rest }
plain_file [] rest line h counts none = other_opening line rest None (not_by line (is_passed line) refl counts) (none_by line (shape_in line) refl none)
plain_file (first ∷ front) rest line h counts none = behind first (front ++ line ∷ rest) (front ++ line ∷ rest) plain_shape (passed_test first h.0) (plain_file front rest line h.1 counts none)

pub empty_file : (lines : List (List ℕ)) → ArePassed lines → opening_of lines ≡ record { shape = plain_shape; lines = lines }
unfolding opening_of
empty_file [] h = refl
empty_file (line ∷ lines) h = behind line lines lines plain_shape (passed_test line h.0) (empty_file lines h.1)
