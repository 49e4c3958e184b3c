-- What is refused is the first line in which something is wrong.
use Rattle.std.proofs.Common.{◌≡◌, ℕ, ◌+◌, ◌≤◌, List, [], ◌∷◌, ◌++◌, length, length-append, cond, Bool, true, false, Option, Some, None, Result, Ok, Err, refl, sym, ap, subst, ◌∙◌, arith, append_assoc, append-nil, inl, inr}
use Rattle.std.specs.Prelude.{nat_le, IfErr}
use Rattle.std.proofs.lemmas.Bool.{false≢true, leb-true}
use Rattle.hart_words.specs.Lines.{lines_of}
use Rattle.hart_words.specs.InTurn.{◌>>=◌}
use Rattle.board_inputs.specs.Opening.{is_passed}
use Rattle.board_inputs.proofs.LinePassed.{passed_test}
use Rattle.hart_monitor.specs.Spelling.{Spells}
use Rattle.hart_monitor.specs.Lines.{command_of}
use Rattle.hart_monitor.specs.ScriptFile.{Tell, most_commands}
use Rattle.hart_monitor.specs.FirstWrong.{IsWrong, IsFirstWrong, RefusesFirst}
use Rattle.hart_monitor.specs.ScriptReading.{Fault, Gives, with_found, with_line, with_lines, script_of}
use Rattle.hart_monitor.specs.declared.command.Command.{Command}
use Rattle.hart_monitor.specs.declared.script_why.ScriptWhy.{ScriptWhy}
use Rattle.hart_monitor.specs.declared.script_why.ScriptWhy.TheVariants.{BadLine, TooMany}
use Rattle.hart_monitor.specs.declared.script_error.ScriptError.{ScriptError}
use Rattle.hart_monitor.specs.declared.script_error.ScriptError.TheVariants.{Memory, Refused}
use Rattle.hart_monitor.proofs.CommandAgain.{command_again}
use Rattle.hart_monitor.proofs.CommandTold.{command_told}
use Rattle.hart_monitor.proofs.ScriptTold.{line_took}

abbrev failed : Fault → Result (List Command) Fault
failed f = Err f

fault_is : (f g : Fault) → failed f ≡ failed g → f ≡ g
fault_is f g e = cc

-- this is wrong with line n
pub record WrongAt (line : List ℕ) (n : ℕ) (before : List Command) (f : Fault) : Type 0 where
  pub number : f.line ≡ n
  pub wrong : IsWrong line before f.why

abbrev some : Command → Option Command
some c = Some c

none_some : (c : Command) → None ≡ some c → ⊥
none_some c e = cc

full_wrong : (line : List ℕ) (c : Command) (n : ℕ) (before : List Command) (f : Fault) (full : Bool) → Spells line c → nat_le most_commands (length before) ≡ full
    → cond full (Err (record { line = n; why = TooMany })) (Ok (before ++ c ∷ [])) ≡ failed f → WrongAt line n before f
full_wrong line c n before f true s is h =
    let made : Fault = record { line = n; why = TooMany } in
    subst (λ (g : Fault). WrongAt line n before g) (fault_is made f h) (record { number = refl; wrong = (c, s, leb-true _ _ is) })
full_wrong line c n before f false s is h = absurd cc

found_wrong : (line : List ℕ) (o : Option Command) (n : ℕ) (before : List Command) (f : Fault) → is_passed line ≡ false → command_of line ≡ o → with_found o n before ≡ failed f → WrongAt line n before f
found_wrong line None n before f other is h =
    let made : Fault = record { line = n; why = BadLine } in
    subst (λ (g : Fault). WrongAt line n before g) (fault_is made f h) (record {
      number = refl;
      wrong = (λ p. false≢true (sym other ∙ passed_test line p), λ c s. none_some c (sym is ∙ command_again line c s));
    })
found_wrong line (Some c) n before f other is h = full_wrong line c n before f (nat_le most_commands (length before)) (command_told line c is) refl h

wrong_by : (line : List ℕ) (b : Bool) (n : ℕ) (before : List Command) (f : Fault) → is_passed line ≡ b → cond b (Ok before) (with_found (command_of line) n before) ≡ failed f → WrongAt line n before f
wrong_by line true n before f is h = absurd cc
wrong_by line false n before f is h = found_wrong line (command_of line) n before f is refl h

line_wrong : (line : List ℕ) (n : ℕ) (before : List Command) (f : Fault) → with_line line n before ≡ failed f → WrongAt line n before f
unfolding with_line
line_wrong line n before f h = wrong_by line (is_passed line) n before f refl h

-- the lines are split at the one that is refused
pub record Stops (lines : List (List ℕ)) (n : ℕ) (before : List Command) (f : Fault) : Type 0 where
  pub front : List (List ℕ)
  pub line : List ℕ
  pub behind : List (List ℕ)
  pub lines_are : lines ≡ front ++ line ∷ behind
  pub number : f.line ≡ length front + n
  pub told : List Command
  pub tell : Tell front told
  pub few : length (before ++ told) ≤ most_commands
  pub wrong : IsWrong line (before ++ told) f.why

-- whatever the first line gave
stops_by : (line : List ℕ) (lines : List (List ℕ)) (n : ℕ) (before : List Command) (f : Fault) (r : Result (List Command) Fault) → length before ≤ most_commands
    → ((next : List Command) → length next ≤ most_commands → with_lines lines (n + 1) next ≡ failed f → Stops lines (n + 1) next f)
    → with_line line n before ≡ r → (r >>= λ cs. with_lines lines (n + 1) cs) ≡ failed f → Stops (line ∷ lines) n before f
stops_by line lines n before f (Err g) room more is h =
    let at = line_wrong line n before f (is ∙ h) in
    let same : before ≡ before ++ [] = sym (append-nil before) in
    record {
      front = [];
      line = line;
      behind = lines;
      lines_are = refl;
      number = at.number ∙ omega arith;
      told = [];
      tell = refl;
      few = subst (λ (l : List Command). length l ≤ most_commands) same room;
      wrong = subst (λ (l : List Command). IsWrong line l f.why) same at.wrong;
    }
stops_by line lines n before f (Ok next) room more is h = elim (line_took line n before next is) [
  | inl p ↦
      let s = more before room (subst (λ (l : List Command). with_lines lines (n + 1) l ≡ failed f) p.1 h) in
      record { front = line ∷ s.front; line = s.line; behind = s.behind; lines_are = ap (λ (l : List (List ℕ)). line ∷ l) s.lines_are; number = s.number ∙ omega arith; told = s.told; tell = inl (p.0, s.tell); few = s.few; wrong = s.wrong }
  | inr t ↦
      let longer : length (before ++ t.0 ∷ []) ≡ length before + 1 = length-append before (t.0 ∷ []) in
      let s = more (before ++ t.0 ∷ []) (omega (arith, longer, t.3)) (subst (λ (l : List Command). with_lines lines (n + 1) l ≡ failed f) t.2 h) in
      let joined : (before ++ t.0 ∷ []) ++ s.told ≡ before ++ t.0 ∷ s.told = append_assoc before (t.0 ∷ []) s.told in
      record {
        front = line ∷ s.front;
        line = s.line;
        behind = s.behind;
        lines_are = ap (λ (l : List (List ℕ)). line ∷ l) s.lines_are;
        number = s.number ∙ omega arith;
        told = t.0 ∷ s.told;
        tell = inr (t.0, s.told, refl, t.1, s.tell);
        few = subst (λ (l : List Command). length l ≤ most_commands) joined s.few;
        wrong = subst (λ (l : List Command). IsWrong s.line l f.why) joined s.wrong;
      }
]

lines_stop : (lines : List (List ℕ)) (n : ℕ) (before : List Command) (f : Fault) → length before ≤ most_commands → with_lines lines n before ≡ failed f → Stops lines n before f
unfolding with_lines
lines_stop [] n before f room h = absurd cc
lines_stop (line ∷ lines) n before f room h = stops_by line lines n before f (with_line line n before) room (λ next r e. lines_stop lines (n + 1) next f r e) refl h

script_wrong : (bytes : List ℕ) (n : ℕ) (why : ScriptWhy) → script_of bytes ≡ Err (record { line = n; why = why }) → IsFirstWrong bytes n why
unfolding script_of
script_wrong bytes n why h =
    let s = lines_stop (lines_of bytes) 1 [] (record { line = n; why = why }) (omega arith) h in
    record { front = s.front; line = s.line; behind = s.behind; lines = s.lines_are; number_is = s.number; before = s.told; told = s.tell; few = s.few; wrong = s.wrong }

refusal_is_first : (bytes : List ℕ) (e : ScriptError) → Gives (Err e) (script_of bytes) → RefusesFirst bytes e
refusal_is_first bytes Memory given = tt
refusal_is_first bytes (Refused n why) given = script_wrong bytes n why given

pub first_is_refused : (bytes : List ℕ) (r : Result (List Command) ScriptError) → Gives r (script_of bytes) → IfErr r (λ e. RefusesFirst bytes e)
first_is_refused bytes (Ok cs) given = tt
first_is_refused bytes (Err e) given = refusal_is_first bytes e given
