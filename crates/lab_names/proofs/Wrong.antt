-- What is refused is the first line in which something is wrong.
use Rattle.std.proofs.Common.{◌≡◌, ℕ, ◌+◌, ◌≤◌, List, [], ◌∷◌, ◌++◌, length, length-append, cond, Bool, true, false, Option, Some, None, Result, Ok, Err, refl, sym, ap, subst, ◌∙◌, arith, append_assoc, append-nil, inl, inr}
use Rattle.std.specs.Prelude.{nat_le, IfErr}
use Rattle.std.proofs.lemmas.Bool.{false≢true, leb-true}
use Rattle.hart_words.specs.Lines.{lines_of}
use Rattle.hart_words.specs.InTurn.{◌>>=◌}
use Rattle.lab_names.specs.Table.{table_of}
use Rattle.lab_names.specs.NamesFile.{Spells, Tell, most_names}
use Rattle.lab_names.specs.FirstWrong.{IsWrong, IsFirstWrong, RefusesFirst}
use Rattle.lab_names.specs.NamesReading.{Fault, Gives, is_passed, name_in, with_found, with_line, with_lines, listed, names_of, Fails}
use Rattle.lab_names.specs.Name.{NameView}
use Rattle.lab_names.specs.declared.names_why.NamesWhy.{NamesWhy}
use Rattle.lab_names.specs.declared.names_why.NamesWhy.TheVariants.{BadLine, TooMany}
use Rattle.lab_names.specs.declared.names_error.NamesError.{NamesError}
use Rattle.lab_names.specs.declared.names_error.NamesError.TheVariants.{Memory, Refused}
use Rattle.lab_names.proofs.Spelled.{passed_test, name_again, name_told}
use Rattle.lab_names.proofs.Told.{line_took}

abbrev failed : Fault → Result (List NameView) Fault
failed f = Err f

fault_is : (f g : Fault) → failed f ≡ failed g → f ≡ g
fault_is f g e = cc

-- this is wrong with line n
pub record WrongAt (line : List ℕ) (n : ℕ) (before : List NameView) (f : Fault) : Type 0 where
  pub number : f.line ≡ n
  pub wrong : IsWrong line before f.why

abbrev some : NameView → Option NameView
some c = Some c

none_some : (c : NameView) → None ≡ some c → ⊥
none_some c e = cc

full_wrong : (line : List ℕ) (c : NameView) (n : ℕ) (before : List NameView) (f : Fault) (full : Bool) → Spells line c → nat_le most_names (length before) ≡ full
    → cond full (Err (record { line = n; why = TooMany })) (Ok (before ++ c ∷ [])) ≡ failed f → WrongAt line n before f
full_wrong line c n before f true s is h =
    let made : Fault = record { line = n; why = TooMany } in
    subst (λ (g : Fault). WrongAt line n before g) (fault_is made f h) (record { number = refl; wrong = (c, s, leb-true _ _ is) })
full_wrong line c n before f false s is h = absurd cc

found_wrong : (line : List ℕ) (o : Option NameView) (n : ℕ) (before : List NameView) (f : Fault) → is_passed line ≡ false → name_in line ≡ o → with_found o n before ≡ failed f → WrongAt line n before f
found_wrong line None n before f other is h =
    let made : Fault = record { line = n; why = BadLine } in
    subst (λ (g : Fault). WrongAt line n before g) (fault_is made f h) (record {
      number = refl;
      wrong = (λ p. false≢true (sym other ∙ passed_test line p), λ c s. none_some c (sym is ∙ name_again line c s));
    })
found_wrong line (Some c) n before f other is h = full_wrong line c n before f (nat_le most_names (length before)) (name_told line c is) refl h

wrong_by : (line : List ℕ) (b : Bool) (n : ℕ) (before : List NameView) (f : Fault) → is_passed line ≡ b → cond b (Ok before) (with_found (name_in line) n before) ≡ failed f → WrongAt line n before f
wrong_by line true n before f is h = absurd cc
wrong_by line false n before f is h = found_wrong line (name_in line) n before f is refl h

line_wrong : (line : List ℕ) (n : ℕ) (before : List NameView) (f : Fault) → with_line line n before ≡ failed f → WrongAt line n before f
unfolding with_line
line_wrong line n before f h = wrong_by line (is_passed line) n before f refl h

-- the lines are split at the one that is refused
pub record Stops (lines : List (List ℕ)) (n : ℕ) (before : List NameView) (f : Fault) : Type 0 where
  pub front : List (List ℕ)
  pub line : List ℕ
  pub behind : List (List ℕ)
  pub lines_are : lines ≡ front ++ line ∷ behind
  pub number : f.line ≡ length front + n
  pub told : List NameView
  pub tell : Tell front told
  pub few : length (before ++ told) ≤ most_names
  pub wrong : IsWrong line (before ++ told) f.why

-- whatever the first line gave
stops_by : (line : List ℕ) (lines : List (List ℕ)) (n : ℕ) (before : List NameView) (f : Fault) (r : Result (List NameView) Fault) → length before ≤ most_names
    → ((next : List NameView) → length next ≤ most_names → with_lines lines (n + 1) next ≡ failed f → Stops lines (n + 1) next f)
    → with_line line n before ≡ r → (r >>= λ cs. with_lines lines (n + 1) cs) ≡ failed f → Stops (line ∷ lines) n before f
stops_by line lines n before f (Err g) room more is h =
    let at = line_wrong line n before f (is ∙ h) in
    let same : before ≡ before ++ [] = sym (append-nil before) in
    record {
      front = [];
      line = line;
      behind = lines;
      lines_are = refl;
      number = at.number ∙ omega arith;
      told = [];
      tell = refl;
      few = subst (λ (l : List NameView). length l ≤ most_names) same room;
      wrong = subst (λ (l : List NameView). IsWrong line l f.why) same at.wrong;
    }
stops_by line lines n before f (Ok next) room more is h = elim (line_took line n before next is) [
  | inl p ↦
      let s = more before room (subst (λ (l : List NameView). with_lines lines (n + 1) l ≡ failed f) p.1 h) in
      record { front = line ∷ s.front; line = s.line; behind = s.behind; lines_are = ap (λ (l : List (List ℕ)). line ∷ l) s.lines_are; number = s.number ∙ omega arith; told = s.told; tell = inl (p.0, s.tell); few = s.few; wrong = s.wrong }
  | inr t ↦
      let longer : length (before ++ t.0 ∷ []) ≡ length before + 1 = length-append before (t.0 ∷ []) in
      let s = more (before ++ t.0 ∷ []) (omega (arith, longer, t.3)) (subst (λ (l : List NameView). with_lines lines (n + 1) l ≡ failed f) t.2 h) in
      let joined : (before ++ t.0 ∷ []) ++ s.told ≡ before ++ t.0 ∷ s.told = append_assoc before (t.0 ∷ []) s.told in
      record {
        front = line ∷ s.front;
        line = s.line;
        behind = s.behind;
        lines_are = ap (λ (l : List (List ℕ)). line ∷ l) s.lines_are;
        number = s.number ∙ omega arith;
        told = t.0 ∷ s.told;
        tell = inr (t.0, s.told, refl, t.1, s.tell);
        few = subst (λ (l : List NameView). length l ≤ most_names) joined s.few;
        wrong = subst (λ (l : List NameView). IsWrong s.line l f.why) joined s.wrong;
      }
]

lines_stop : (lines : List (List ℕ)) (n : ℕ) (before : List NameView) (f : Fault) → length before ≤ most_names → with_lines lines n before ≡ failed f → Stops lines n before f
unfolding with_lines
lines_stop [] n before f room h = absurd cc
lines_stop (line ∷ lines) n before f room h = stops_by line lines n before f (with_line line n before) room (λ next r e. lines_stop lines (n + 1) next f r e) refl h

file_wrong : (bytes : List ℕ) (n : ℕ) (why : NamesWhy) → listed bytes ≡ Err (record { line = n; why = why }) → IsFirstWrong bytes n why
unfolding listed
file_wrong bytes n why h =
    let s = lines_stop (lines_of bytes) 1 [] (record { line = n; why = why }) (omega arith) h in
    record { front = s.front; line = s.line; behind = s.behind; lines = s.lines_are; number_is = s.number; before = s.told; told = s.tell; few = s.few; wrong = s.wrong }

-- the table of no names is refused as they are
unlisted : (r : Result (List NameView) Fault) (f : Fault) → (r >>= λ ns. Ok (table_of ns)) ≡ failed f → r ≡ failed f
unlisted (Ok ns) f h = absurd cc
unlisted (Err g) f h = h

table_wrong : (bytes : List ℕ) (n : ℕ) (why : NamesWhy) → names_of bytes ≡ Err (record { line = n; why = why }) → IsFirstWrong bytes n why
unfolding names_of
table_wrong bytes n why h = file_wrong bytes n why (unlisted (listed bytes) (record { line = n; why = why }) h)

refusal_is_first : (bytes : List ℕ) (e : NamesError) → Fails e (names_of bytes) → RefusesFirst bytes e
refusal_is_first bytes Memory given = tt
refusal_is_first bytes (Refused n why) given = table_wrong bytes n why given

pub first_is_refused : (bytes : List ℕ) (r : Result (List NameView) NamesError) → Gives (λ table. table) r (names_of bytes) → IfErr r (λ e. RefusesFirst bytes e)
first_is_refused bytes (Ok table) given = tt
first_is_refused bytes (Err e) given = refusal_is_first bytes e given
