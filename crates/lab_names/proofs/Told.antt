-- Reading all lines gives the names that they tell.
use Rattle.std.proofs.Common.{◌≡◌, ℕ, ◌+◌, ◌<◌, ◌≤◌, List, [], ◌∷◌, ◌++◌, length, length-append, cond, Bool, true, false, Option, Some, None, Result, Ok, Err, refl, sym, ap, subst, ◌∙◌, arith, append_assoc, append-nil, inl, inr}
use Rattle.std.specs.Prelude.{nat_le, IfOk, ◌⊎◌}
use Rattle.std.proofs.lemmas.Bool.{lt-leb, leb-false}
use Rattle.hart_words.specs.Lines.{lines_of}
use Rattle.hart_words.specs.InTurn.{◌>>=◌}
use Rattle.lab_names.specs.Table.{table_of}
use Rattle.lab_names.specs.NamesFile.{IsPassed, Spells, Tell, IsNamesFile, IsTableOfFile, most_names}
use Rattle.lab_names.specs.NamesReading.{Fault, Gives, is_passed, name_in, with_one, with_found, with_line, with_lines, listed, names_of}
use Rattle.lab_names.specs.Name.{NameView}
use Rattle.lab_names.specs.declared.names_why.NamesWhy.TheVariants.{TooMany}
use Rattle.lab_names.specs.declared.names_error.NamesError.{NamesError}
use Rattle.lab_names.proofs.Spelled.{test_passed, passed_test, name_again, not_passed, name_told}

-- ---- what a file tells is read

pub passed_line : (line : List ℕ) (n : ℕ) (before : List NameView) → IsPassed line → with_line line n before ≡ Ok before
unfolding with_line
passed_line line n before p = rw (passed_test line p) refl

pub told_line : (line : List ℕ) (c : NameView) (n : ℕ) (before : List NameView) → Spells line c → with_line line n before ≡ with_one c n before
unfolding with_line
told_line line c n before s = rw (not_passed line c s, name_again line c s) refl

name_added : (c : NameView) (n : ℕ) (before : List NameView) → length before < most_names → with_one c n before ≡ Ok (before ++ c ∷ [])
name_added c n before few = rw (lt-leb _ _ few) refl

lines_again : (lines : List (List ℕ)) (n : ℕ) (before cs : List NameView) → Tell lines cs → length (before ++ cs) ≤ most_names → with_lines lines n before ≡ Ok (before ++ cs)
unfolding with_lines
lines_again [] n before cs h room = rw h (ap (λ (l : List NameView). Ok l) (sym (append-nil before)))
lines_again (line ∷ lines) n before cs h room = elim h [
  | inl p ↦ rw (passed_line line n before p.0) (lines_again lines (n + 1) before cs p.1 room)
  | inr t ↦
      let joined : (before ++ t.0 ∷ []) ++ t.1 ≡ before ++ cs = append_assoc before (t.0 ∷ []) t.1 ∙ ap (λ (l : List NameView). before ++ l) (sym t.2) in
      let size : length (before ++ cs) ≡ length before + (length t.1 + 1) = ap (λ (l : List NameView). length (before ++ l)) t.2 ∙ omega (arith, length-append before (t.0 ∷ t.1)) in
      let more = lines_again lines (n + 1) (before ++ t.0 ∷ []) t.1 t.4 (subst (λ (l : List NameView). length l ≤ most_names) (sym joined) room) in
      rw (told_line line t.0 n before t.3, name_added t.0 n before (omega (arith, size, room))) (more ∙ ap (λ (l : List NameView). Ok l) joined)
]

pub file_again : (bytes : List ℕ) (cs : List NameView) → IsNamesFile bytes cs → listed bytes ≡ Ok cs
unfolding listed
file_again bytes cs h = lines_again (lines_of bytes) 1 [] cs h.lines h.few

-- ---- what is read the file tells

abbrev done : List NameView → Result (List NameView) Fault
done cs = Ok cs

done_is : (a b : List NameView) → done a ≡ done b → a ≡ b
done_is a b e = cc

bind_ok : (r : Result (List NameView) Fault) (f : List NameView → Result (List NameView) Fault) (y : List NameView) → (r >>= f) ≡ done y → (x : List NameView) × (r ≡ Ok x) × (f x ≡ Ok y)
bind_ok (Ok x) f y e = (x, refl, e)
bind_ok (Err d) f y e = absurd cc

-- what a line adds
abbrev pub Adds : List ℕ → List NameView → List NameView → Type 0
Adds line before next = (IsPassed line × (next ≡ before)) ⊎ ((c : NameView) × Spells line c × (next ≡ before ++ c ∷ []) × (length before < most_names))

full_by : (b : Bool) (d : Fault) (r y : List NameView) → cond b (Err d) (Ok r) ≡ done y → (b ≡ false) × (y ≡ r)
full_by true d r y e = absurd cc
full_by false d r y e = (refl, sym (done_is r y e))

found_adds : (line : List ℕ) (o : Option NameView) (n : ℕ) (before next : List NameView) → name_in line ≡ o → with_found o n before ≡ done next → Adds line before next
found_adds line None n before next is e = absurd cc
found_adds line (Some c) n before next is e =
    let t = full_by (nat_le most_names (length before)) (record { line = n; why = TooMany }) (before ++ c ∷ []) next e in
    inr (c, name_told line c is, t.1, leb-false _ _ t.0)

added_by : (line : List ℕ) (b : Bool) (n : ℕ) (before next : List NameView) → is_passed line ≡ b → cond b (Ok before) (with_found (name_in line) n before) ≡ done next → Adds line before next
added_by line true n before next is e = inl (test_passed line is, sym (done_is before next e))
added_by line false n before next is e = found_adds line (name_in line) n before next refl e

pub line_took : (line : List ℕ) (n : ℕ) (before next : List NameView) → with_line line n before ≡ Ok next → Adds line before next
unfolding with_line
line_took line n before next e = added_by line (is_passed line) n before next refl e

pub record TookLines (lines : List (List ℕ)) (before all : List NameView) : Type 0 where
  pub names : List NameView
  pub all_are : all ≡ before ++ names
  pub tell : Tell lines names
  pub few : length all ≤ most_names

lines_took : (lines : List (List ℕ)) (n : ℕ) (before all : List NameView) → length before ≤ most_names → with_lines lines n before ≡ Ok all → TookLines lines before all
unfolding with_lines
lines_took [] n before all room e =
    let same : before ≡ all = done_is before all e in
    record { names = []; all_are = sym same ∙ sym (append-nil before); tell = refl; few = subst (λ (l : List NameView). length l ≤ most_names) same room }
lines_took (line ∷ lines) n before all room e =
    let b = bind_ok (with_line line n before) (λ cs. with_lines lines (n + 1) cs) all e in
    elim (line_took line n before b.0 b.1) [
      | inl p ↦
          let more = lines_took lines (n + 1) before all room (subst (λ (l : List NameView). with_lines lines (n + 1) l ≡ Ok all) p.1 b.2) in
          record { names = more.names; all_are = more.all_are; tell = inl (p.0, more.tell); few = more.few }
      | inr t ↦
          let longer : length (before ++ t.0 ∷ []) ≡ length before + 1 = length-append before (t.0 ∷ []) in
          let more = lines_took lines (n + 1) (before ++ t.0 ∷ []) all (omega (arith, longer, t.3)) (subst (λ (l : List NameView). with_lines lines (n + 1) l ≡ Ok all) t.2 b.2) in
          record { names = t.0 ∷ more.names; all_are = more.all_are ∙ append_assoc before (t.0 ∷ []) more.names; tell = inr (t.0, more.names, refl, t.1, more.tell); few = more.few }
    ]

file_took : (bytes : List ℕ) (cs : List NameView) → listed bytes ≡ Ok cs → IsNamesFile bytes cs
unfolding listed
file_took bytes cs e =
    let t = lines_took (lines_of bytes) 1 [] cs (omega arith) e in
    record { lines = subst (Tell (lines_of bytes)) (sym t.all_are) t.tell; few = t.few }

-- ---- its table

abbrev table_in : Result (List NameView) Fault → Result (List NameView) Fault
table_in r = r >>= λ ns. Ok (table_of ns)

pub table_again : (bytes : List ℕ) (ns : List NameView) → IsNamesFile bytes ns → names_of bytes ≡ Ok (table_of ns)
unfolding names_of
table_again bytes ns h = ap table_in (file_again bytes ns h)

table_took : (bytes : List ℕ) (table : List NameView) → names_of bytes ≡ Ok table → IsTableOfFile bytes table
unfolding names_of
table_took bytes table e =
    let b = bind_ok (listed bytes) (λ ns. Ok (table_of ns)) table e in
    record { names = b.0; file = file_took bytes b.0 b.1; table_is = sym (done_is (table_of b.0) table b.2) }

pub is_found : (bytes : List ℕ) (r : Result (List NameView) NamesError) → Gives (λ table. table) r (names_of bytes) → IfOk r (λ table. IsTableOfFile bytes table)
is_found bytes (Ok table) given = table_took bytes table given
is_found bytes (Err e) given = tt
