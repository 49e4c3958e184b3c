-- A line is read as the name that it spells.
use Rattle.std.proofs.Common.{◌≡◌, ℕ, ◌+◌, ◌<◌, List, [], ◌∷◌, ◌++◌, length, length-append, length-drop, length-take, take, drop, drop-cons, get_or, cond, Bool, true, false, Option, Some, None, refl, sym, ap, subst, ◌∙◌, arith}
use Rattle.std.specs.Prelude.{nat_lt, ◌==◌, ◌&&◌, slice_index}
use Rattle.std.specs.List.{list_all}
use Rattle.std.proofs.lemmas.Bool.{eqb-true, ltb-true}
use Rattle.std.proofs.lemmas.Bool.Decides.{nat_tests}
use Rattle.std.proofs.lemmas.List.{take_at, drop_at, drop-drop, take-append-drop}
use Rattle.std.proofs.Math.Seq.{get_or-append_seam}
use Rattle.asm_text.specs.Numbers.{digits_after}
use Rattle.lab_names.specs.Name.{NameView, is_name, is_name_byte}
use Rattle.lab_names.specs.NamesFile.{Spells, IsPassed}
use Rattle.lab_names.specs.NamesReading.{is_passed, has_parts, with_address, name_in}

pub test_passed : (line : List ℕ) → is_passed line ≡ true → IsPassed line
test_passed [] h = refl
test_passed (c ∷ cs) h = absurd (omega (arith, eqb-true (length (c ∷ cs)) 0 h))

pub passed_test : (line : List ℕ) → IsPassed line → is_passed line ≡ true
passed_test line h = rw h refl

both : (a b : Bool) → a ≡ true → b ≡ true → (a && b) ≡ true
both a b p q = rw (p, q) refl

pub both_are : (a b : Bool) → (a && b) ≡ true → (a ≡ true) × (b ≡ true)
both_are true b e = (refl, e)
both_are false b e = absurd cc

-- ---- what is spelled is read

pub record Parts (line digits name : List ℕ) : Type 0 where
  pub first : take 8 line ≡ digits
  pub space : slice_index line 8 ≡ 32
  pub rest : drop 9 line ≡ name

parts_of : (line digits name : List ℕ) → length digits ≡ 8 → line ≡ digits ++ 32 ∷ name → Parts line digits name
parts_of line digits name eight is =
    let seam : get_or (digits ++ 32 ∷ name) 8 0 ≡ 32 = rw eight at (get_or-append_seam digits 32 name 0) in
    let behind : drop 8 line ≡ 32 ∷ name = ap (drop 8) is ∙ drop_at digits (32 ∷ name) 8 eight in
    record {
      first = ap (take 8) is ∙ take_at digits (32 ∷ name) 8 eight;
      space = ap (λ (l : List ℕ). slice_index l 8) is ∙ seam;
      rest = sym (drop-drop 1 8 line) ∙ ap (drop 1) behind;
    }

pub name_again : (line : List ℕ) (n : NameView) → Spells line n → name_in line ≡ Some n
unfolding name_in
name_again line n s =
    let p = parts_of line s.digits n.name s.eight s.line_is in
    let here : has_parts line ≡ true = rw (p.space, p.rest, s.name) refl in
    let value : digits_after 16 0 (take 8 line) ≡ Some n.address = ap (digits_after 16 0) p.first ∙ s.address in
    rw (here, value, p.rest) refl

pub not_passed : (line : List ℕ) (n : NameView) → Spells line n → is_passed line ≡ false
not_passed line n s =
    let long : length line ≡ 8 + length (32 ∷ n.name) = ap length s.line_is ∙ length-append s.digits (32 ∷ n.name) ∙ ap (λ (k : ℕ). k + length (32 ∷ n.name)) s.eight in
    grind (arith, nat_tests)

-- ---- what is read is spelled

abbrev some : NameView → Option NameView
some n = Some n

name_is : (a b : NameView) → some a ≡ some b → a ≡ b
name_is a b e = cc

found_by : (line : List ℕ) (o : Option ℕ) (n : NameView) → has_parts line ≡ true → digits_after 16 0 (take 8 line) ≡ o → with_address o (drop 9 line) ≡ some n → Spells line n
found_by line None n parts is h = absurd cc
found_by line (Some at) n parts is h =
    let both = both_are (slice_index line 8 == 32) (is_name (drop 9 line)) parts in
    let named = both_are (nat_lt 0 (length (drop 9 line))) (list_all is_name_byte (drop 9 line)) both.1 in
    let some_left : 0 < length (drop 9 line) = ltb-true _ _ named.0 in
    let long : 9 < length line = omega (arith, some_left, length-drop 9 line) in
    let inside : 8 < length line = omega arith in
    let behind : drop 8 line ≡ 32 ∷ drop 9 line = drop-cons line 8 0 inside ∙ ap (λ (b : ℕ). b ∷ drop 9 line) (eqb-true _ _ both.0) in
    let made : NameView = record { address = at; name = drop 9 line } in
    subst (λ (m : NameView). Spells line m) (name_is made n h) (record {
      digits = take 8 line;
      eight = omega (arith, length-take 8 line);
      address = is;
      name = both.1;
      line_is = sym (take-append-drop 8 line) ∙ ap (λ (l : List ℕ). take 8 line ++ l) behind;
    })

told_by : (line : List ℕ) (b : Bool) (n : NameView) → has_parts line ≡ b → cond b (with_address (digits_after 16 0 (take 8 line)) (drop 9 line)) None ≡ some n → Spells line n
told_by line true n parts h = found_by line (digits_after 16 0 (take 8 line)) n parts refl h
told_by line false n parts h = absurd cc

pub name_told : (line : List ℕ) (n : NameView) → name_in line ≡ Some n → Spells line n
unfolding name_in
name_told line n h = told_by line (has_parts line) n refl h
