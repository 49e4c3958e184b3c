-- What is refused is the first line in which something is wrong.
use Rattle.std.proofs.Common.{◌≡◌, ℕ, ◌+◌, ◌<◌, ◌≤◌, ◌^◌, List, [], ◌∷◌, ◌++◌, length, length-append, cond, Bool, true, false, Result, Ok, Err, refl, sym, ap, subst, ◌∙◌, arith, append_assoc, append-nil, inl, inr}
use Rattle.std.specs.Prelude.{nat_lt, nat_le, IfErr}
use Rattle.std.proofs.lemmas.Bool.{ltb-true, ltb-false, leb-true}
use Rattle.clic_regs.specs.Shape.{ClicShape}
use Rattle.hart_board.specs.Event.{EventList, last_count}
use Rattle.hart_board.specs.declared.event.Event.{Event}
use Rattle.hart_words.specs.InTurn.{◌>>=◌}
use Rattle.board_inputs.specs.Spelling.{Spells}
use Rattle.board_inputs.specs.ScenarioFile.{file_opening, Tell, AreInOrder, most_events}
use Rattle.board_inputs.specs.FirstWrong.{IsWrong, IsFirstWrong, RefusesFirst}
use Rattle.board_inputs.specs.Lines.{meaning_of}
use Rattle.board_inputs.specs.ScenarioReading.{Fault, Gives, in_shape, in_line, with_meaning, with_line, with_lines, scenario_of}
use Rattle.board_inputs.specs.declared.line_meaning.LineMeaning.{LineMeaning}
use Rattle.board_inputs.specs.declared.line_meaning.LineMeaning.TheVariants.{Passed, Bad, Told}
use Rattle.board_inputs.specs.declared.scenario_why.ScenarioWhy.{ScenarioWhy}
use Rattle.board_inputs.specs.declared.scenario_why.ScenarioWhy.TheVariants.{BadLine, OutOfOrder, TooMany}
use Rattle.board_inputs.specs.declared.scenario_error.ScenarioError.{ScenarioError}
use Rattle.board_inputs.specs.declared.scenario_error.ScenarioError.TheVariants.{Memory, Refused}
use Rattle.board_inputs.proofs.Openings.{inputs_small}
use Rattle.board_inputs.proofs.LineAgain.{line_again}
use Rattle.board_inputs.proofs.LineTold.{line_told}
use Rattle.board_inputs.proofs.LinePassed.{passed_again}
use Rattle.board_inputs.proofs.Scenario.{order_push, line_took}

abbrev failed : Fault → Result (List Event) Fault
failed f = Err f

fault_is : (f g : Fault) → failed f ≡ failed g → f ≡ g
fault_is f g e = cc

-- this is wrong with line n
pub record WrongAt (inputs : ℕ) (line : List ℕ) (n : ℕ) (before : List Event) (f : Fault) : Type 0 where
  pub number : f.line ≡ n
  pub wrong : IsWrong inputs line before f.why

abbrev bad : LineMeaning
bad = Bad

bad_passed : Passed ≡ bad → ⊥
bad_passed e = cc

bad_told : (e : Event) → Told e ≡ bad → ⊥
bad_told e h = cc

event_wrong : (inputs : ℕ) (line : List ℕ) (e : Event) (n : ℕ) (before : List Event) (f : Fault) (late full : Bool) → Spells inputs line e → nat_lt e.at (last_count 0 before) ≡ late → nat_le most_events (length before) ≡ full
    → cond late (in_line n OutOfOrder) (cond full (in_line n TooMany) (Ok (before ++ e ∷ []))) ≡ failed f → WrongAt inputs line n before f
event_wrong inputs line e n before f true full s is_late is_full h =
    let made : Fault = record { line = n; why = OutOfOrder } in
    subst (λ (g : Fault). WrongAt inputs line n before g) (fault_is made f h) (record { number = refl; wrong = (e, s, ltb-true _ _ is_late) })
event_wrong inputs line e n before f false true s is_late is_full h =
    let made : Fault = record { line = n; why = TooMany } in
    subst (λ (g : Fault). WrongAt inputs line n before g) (fault_is made f h) (record { number = refl; wrong = (e, s, ltb-false _ _ is_late, leb-true _ _ is_full) })
event_wrong inputs line e n before f false false s is_late is_full h = absurd cc

meaning_wrong : (inputs : ℕ) (line : List ℕ) (m : LineMeaning) (n : ℕ) (before : List Event) (f : Fault) → inputs < 2 ^ 32 → meaning_of inputs line ≡ m → with_meaning m n before ≡ failed f → WrongAt inputs line n before f
meaning_wrong inputs line Passed n before f few is h = absurd cc
meaning_wrong inputs line Bad n before f few is h =
    let made : Fault = record { line = n; why = BadLine } in
    subst (λ (g : Fault). WrongAt inputs line n before g) (fault_is made f h) (record {
      number = refl;
      wrong = (λ p. bad_passed (sym (passed_again inputs line p) ∙ is), λ e s. bad_told e (sym (line_again inputs line e few s) ∙ is));
    })
meaning_wrong inputs line (Told e) n before f few is h =
    event_wrong inputs line e n before f (nat_lt e.at (last_count 0 before)) (nat_le most_events (length before)) (line_told inputs line e few is) refl refl h

line_wrong : (inputs : ℕ) (line : List ℕ) (n : ℕ) (before : List Event) (f : Fault) → inputs < 2 ^ 32 → with_line inputs line n before ≡ failed f → WrongAt inputs line n before f
unfolding with_line
line_wrong inputs line n before f few h = meaning_wrong inputs line (meaning_of inputs line) n before f few refl h

-- the lines are split at the one that is refused
pub record Stops (inputs : ℕ) (lines : List (List ℕ)) (n : ℕ) (before : List Event) (f : Fault) : Type 0 where
  pub front : List (List ℕ)
  pub line : List ℕ
  pub behind : List (List ℕ)
  pub lines_are : lines ≡ front ++ line ∷ behind
  pub number : f.line ≡ length front + n
  pub told : List Event
  pub tell : Tell inputs front told
  pub order : AreInOrder 0 (before ++ told)
  pub few : length (before ++ told) ≤ most_events
  pub wrong : IsWrong inputs line (before ++ told) f.why

-- whatever the first line gave
stops_by : (inputs : ℕ) (line : List ℕ) (lines : List (List ℕ)) (n : ℕ) (before : List Event) (f : Fault) (r : Result (List Event) Fault) → inputs < 2 ^ 32 → AreInOrder 0 before → length before ≤ most_events
    → ((next : List Event) → AreInOrder 0 next → length next ≤ most_events → with_lines inputs lines (n + 1) next ≡ failed f → Stops inputs lines (n + 1) next f)
    → with_line inputs line n before ≡ r → (r >>= λ es. with_lines inputs lines (n + 1) es) ≡ failed f → Stops inputs (line ∷ lines) n before f
stops_by inputs line lines n before f (Err g) few order room more is h =
    let at = line_wrong inputs line n before f few (is ∙ h) in
    let same : before ≡ before ++ [] = sym (append-nil before) in
    record {
      front = [];
      line = line;
      behind = lines;
      lines_are = refl;
      number = at.number ∙ omega arith;
      told = [];
      tell = refl;
      order = subst (AreInOrder 0) same order;
      few = subst (λ (l : List Event). length l ≤ most_events) same room;
      wrong = subst (λ (l : List Event). IsWrong inputs line l f.why) same at.wrong;
    }
stops_by inputs line lines n before f (Ok next) few order room more is h = elim (line_took inputs line n before next few is) [
  | inl p ↦
      let s = more before order room (subst (λ (l : List Event). with_lines inputs lines (n + 1) l ≡ failed f) p.1 h) in
      record {
        front = line ∷ s.front;
        line = s.line;
        behind = s.behind;
        lines_are = ap (λ (l : List (List ℕ)). line ∷ l) s.lines_are;
        number = s.number ∙ omega arith;
        told = s.told;
        tell = inl (p.0, s.tell);
        order = s.order;
        few = s.few;
        wrong = s.wrong;
      }
  | inr t ↦
      let longer : length (before ++ t.0 ∷ []) ≡ length before + 1 = length-append before (t.0 ∷ []) in
      let s = more (before ++ t.0 ∷ []) (order_push 0 before t.0 order t.3) (omega (arith, longer, t.4)) (subst (λ (l : List Event). with_lines inputs lines (n + 1) l ≡ failed f) t.2 h) in
      let joined : (before ++ t.0 ∷ []) ++ s.told ≡ before ++ t.0 ∷ s.told = append_assoc before (t.0 ∷ []) s.told in
      record {
        front = line ∷ s.front;
        line = s.line;
        behind = s.behind;
        lines_are = ap (λ (l : List (List ℕ)). line ∷ l) s.lines_are;
        number = s.number ∙ omega arith;
        told = t.0 ∷ s.told;
        tell = inr (t.0, s.told, refl, t.1, s.tell);
        order = subst (AreInOrder 0) joined s.order;
        few = subst (λ (l : List Event). length l ≤ most_events) joined s.few;
        wrong = subst (λ (l : List Event). IsWrong inputs s.line l f.why) joined s.wrong;
      }
]

lines_stop : (inputs : ℕ) (lines : List (List ℕ)) (n : ℕ) (before : List Event) (f : Fault) → inputs < 2 ^ 32 → AreInOrder 0 before → length before ≤ most_events → with_lines inputs lines n before ≡ failed f → Stops inputs lines n before f
unfolding with_lines
lines_stop inputs [] n before f few order room h = absurd cc
lines_stop inputs (line ∷ lines) n before f few order room h =
    stops_by inputs line lines n before f (with_line inputs line n before) few order room (λ next o r e. lines_stop inputs lines (n + 1) next f few o r e) refl h

shaped_err : (s : ClicShape) (r : Result (List Event) Fault) (f : Fault) → in_shape s r ≡ Err f → r ≡ failed f
shaped_err s (Ok list) f e = absurd cc
shaped_err s (Err g) f e = let same : g ≡ f = cc in ap failed same

scenario_wrong : (bytes : List ℕ) (n : ℕ) (why : ScenarioWhy) → scenario_of bytes ≡ Err (record { line = n; why = why }) → IsFirstWrong bytes n why
unfolding scenario_of
scenario_wrong bytes n why h =
    let o = file_opening bytes in
    let s = lines_stop o.shape.inputs o.lines 1 [] (record { line = n; why = why }) (inputs_small bytes) tt (omega arith) (shaped_err o.shape (with_lines o.shape.inputs o.lines 1 []) (record { line = n; why = why }) h) in
    record { front = s.front; line = s.line; behind = s.behind; lines = s.lines_are; number_is = s.number; before = s.told; told = s.tell; order = s.order; few = s.few; wrong = s.wrong }

refusal_is_first : (bytes : List ℕ) (e : ScenarioError) → Gives (Err e) (scenario_of bytes) → RefusesFirst bytes e
refusal_is_first bytes Memory given = tt
refusal_is_first bytes (Refused n why) given = scenario_wrong bytes n why given

pub first_is_refused : (bytes : List ℕ) (r : Result EventList ScenarioError) → Gives r (scenario_of bytes) → IfErr r (λ e. RefusesFirst bytes e)
first_is_refused bytes (Ok es) given = tt
first_is_refused bytes (Err e) given = refusal_is_first bytes e given
