-- Reading all lines gives the events that they tell.
use Rattle.std.proofs.Common.{◌≡◌, ℕ, ◌+◌, ◌<◌, ◌≤◌, ◌^◌, List, [], ◌∷◌, ◌++◌, length, length-append, cond, Bool, true, false, Result, Ok, Err, refl, sym, ap, subst, ◌∙◌, arith, append_assoc, append-nil, inl, inr}
use Rattle.std.specs.Prelude.{nat_lt, nat_le, IfOk, ◌⊎◌}
use Rattle.std.proofs.lemmas.Bool.{le-ltb, ltb-false, lt-leb, leb-false}
use Rattle.clic_regs.specs.Shape.{ClicShape}
use Rattle.hart_board.specs.Event.{EventList, last_count}
use Rattle.hart_board.specs.declared.event.Event.{Event}
use Rattle.hart_words.specs.InTurn.{◌>>=◌}
use Rattle.board_inputs.specs.Spelling.{IsPassed, Spells}
use Rattle.board_inputs.specs.ScenarioFile.{file_opening, Tell, AreInOrder, IsScenarioFile, most_events}
use Rattle.board_inputs.specs.Lines.{meaning_of}
use Rattle.board_inputs.specs.ScenarioReading.{Fault, Gives, in_shape, in_line, with_event, with_meaning, with_line, with_lines, scenario_of}
use Rattle.board_inputs.specs.declared.line_meaning.LineMeaning.{LineMeaning}
use Rattle.board_inputs.specs.declared.line_meaning.LineMeaning.TheVariants.{Passed, Bad, Told}
use Rattle.board_inputs.specs.declared.scenario_why.ScenarioWhy.TheVariants.{OutOfOrder, TooMany}
use Rattle.board_inputs.specs.declared.scenario_error.ScenarioError.{ScenarioError}
use Rattle.board_inputs.proofs.Openings.{inputs_small}
use Rattle.board_inputs.proofs.LineAgain.{line_again}
use Rattle.board_inputs.proofs.LineTold.{line_told}
use Rattle.board_inputs.proofs.LinePassed.{passed_is, passed_again}

-- ---- order
pub order_push : (n : ℕ) (es : List Event) (e : Event) → AreInOrder n es → last_count n es ≤ e.at → AreInOrder n (es ++ e ∷ [])
order_push n [] e h le = (le, tt)
order_push n (x ∷ xs) e h le = (h.0, order_push x.at xs e h.1 le)

order_last : (n : ℕ) (before : List Event) (e : Event) (es : List Event) → AreInOrder n (before ++ e ∷ es) → last_count n before ≤ e.at
order_last n [] e es h = h.0
order_last n (x ∷ xs) e es h = order_last x.at xs e es h.1

-- ---- what a file tells is read
event_added : (e : Event) (n : ℕ) (before : List Event) → last_count 0 before ≤ e.at → length before < most_events → with_event e n before ≡ Ok (before ++ e ∷ [])
event_added e n before order few =
    let late : nat_lt e.at (last_count 0 before) ≡ false = le-ltb _ _ order in
    let room : nat_le most_events (length before) ≡ false = lt-leb _ _ few in
    rw (late, room) refl

lines_again : (inputs : ℕ) (lines : List (List ℕ)) (n : ℕ) (before es : List Event) → inputs < 2 ^ 32 → Tell inputs lines es → AreInOrder 0 (before ++ es) → length (before ++ es) ≤ most_events
    → with_lines inputs lines n before ≡ Ok (before ++ es)
unfolding with_lines with_line
lines_again inputs [] n before es few h order room = rw h (ap (λ (l : List Event). Ok l) (sym (append-nil before)))
lines_again inputs (line ∷ lines) n before es few h order room = elim h [
  | inl p ↦ rw (passed_again inputs line p.0) (lines_again inputs lines (n + 1) before es few p.1 order room)
  | inr t ↦
      let e = t.0 in
      let rest = t.1 in
      let joined : (before ++ e ∷ []) ++ rest ≡ before ++ es = append_assoc before (e ∷ []) rest ∙ ap (λ (l : List Event). before ++ l) (sym t.2) in
      let ordered : AreInOrder 0 (before ++ e ∷ rest) = subst (λ (l : List Event). AreInOrder 0 (before ++ l)) t.2 order in
      let size : length (before ++ es) ≡ length before + (length rest + 1) = ap (λ (l : List Event). length (before ++ l)) t.2 ∙ omega (arith, length-append before (e ∷ rest)) in
      let added = event_added e n before (order_last 0 before e rest ordered) (omega (arith, size, room)) in
      let more = lines_again inputs lines (n + 1) (before ++ e ∷ []) rest few t.4 (subst (AreInOrder 0) (sym joined) order) (subst (λ (l : List Event). length l ≤ most_events) (sym joined) room) in
      rw (line_again inputs line e few t.3, added) (more ∙ ap (λ (l : List Event). Ok l) joined)
]

pub scenario_again : (bytes : List ℕ) (es : EventList) → IsScenarioFile bytes es → scenario_of bytes ≡ Ok es
unfolding scenario_of
scenario_again bytes es h =
    let o = file_opening bytes in
    let tells : Tell o.shape.inputs o.lines es.list = subst (λ (s : ClicShape). Tell s.inputs o.lines es.list) h.shape h.lines in
    let read : with_lines o.shape.inputs o.lines 1 [] ≡ Ok es.list = lines_again o.shape.inputs o.lines 1 [] es.list (inputs_small bytes) tells h.order h.few in
    ap (in_shape o.shape) read ∙ ap (λ (s : ClicShape). in_shape s (Ok es.list)) (sym h.shape)

-- ---- what is read the file tells
abbrev done : List Event → Result (List Event) Fault
done es = Ok es

done_is : (a b : List Event) → done a ≡ done b → a ≡ b
done_is a b e = cc

guard_ok : (b : Bool) (d : Fault) (r : Result (List Event) Fault) (y : List Event) → cond b (Err d) r ≡ done y → (b ≡ false) × (r ≡ done y)
guard_ok true d r y e = absurd cc
guard_ok false d r y e = (refl, e)

bind_ok : (r : Result (List Event) Fault) (f : List Event → Result (List Event) Fault) (y : List Event) → (r >>= f) ≡ done y → (x : List Event) × (r ≡ Ok x) × (f x ≡ Ok y)
bind_ok (Ok x) f y e = (x, refl, e)
bind_ok (Err d) f y e = absurd cc

-- what a line adds
abbrev pub Adds : ℕ → List ℕ → List Event → List Event → Type 0
Adds inputs line before next =
    (IsPassed line × (next ≡ before))
    ⊎ ((e : Event) × Spells inputs line e × (next ≡ before ++ e ∷ []) × (last_count 0 before ≤ e.at) × (length before < most_events))

added_by : (inputs : ℕ) (line : List ℕ) (m : LineMeaning) (n : ℕ) (before next : List Event) → inputs < 2 ^ 32 → meaning_of inputs line ≡ m → with_meaning m n before ≡ done next → Adds inputs line before next
added_by inputs line Passed n before next few is e = inl (passed_is inputs line is, sym (done_is before next e))
added_by inputs line Bad n before next few is e = absurd cc
added_by inputs line (Told ev) n before next few is e =
    let g = guard_ok (nat_lt ev.at (last_count 0 before)) (record { line = n; why = OutOfOrder }) (cond (nat_le most_events (length before)) (in_line n TooMany) (Ok (before ++ ev ∷ []))) next e in
    let t = guard_ok (nat_le most_events (length before)) (record { line = n; why = TooMany }) (Ok (before ++ ev ∷ [])) next g.1 in
    inr (ev, line_told inputs line ev few is, sym (done_is (before ++ ev ∷ []) next t.1), ltb-false _ _ g.0, leb-false _ _ t.0)

pub line_took : (inputs : ℕ) (line : List ℕ) (n : ℕ) (before next : List Event) → inputs < 2 ^ 32 → with_line inputs line n before ≡ Ok next → Adds inputs line before next
unfolding with_line
line_took inputs line n before next few e = added_by inputs line (meaning_of inputs line) n before next few refl e

pub record TookLines (inputs : ℕ) (lines : List (List ℕ)) (before all : List Event) : Type 0 where
  pub events : List Event
  pub all_are : all ≡ before ++ events
  pub tell : Tell inputs lines events
  pub order : AreInOrder 0 all
  pub few : length all ≤ most_events

lines_took : (inputs : ℕ) (lines : List (List ℕ)) (n : ℕ) (before all : List Event) → inputs < 2 ^ 32 → AreInOrder 0 before → length before ≤ most_events → with_lines inputs lines n before ≡ Ok all → TookLines inputs lines before all
unfolding with_lines
lines_took inputs [] n before all few order room e =
    let same : before ≡ all = done_is before all e in
    record { events = []; all_are = sym same ∙ sym (append-nil before); tell = refl; order = subst (AreInOrder 0) same order; few = subst (λ (l : List Event). length l ≤ most_events) same room }
lines_took inputs (line ∷ lines) n before all few order room e =
    let b = bind_ok (with_line inputs line n before) (λ es. with_lines inputs lines (n + 1) es) all e in
    let next = b.0 in
    elim (line_took inputs line n before next few b.1) [
      | inl p ↦
          let more = lines_took inputs lines (n + 1) before all few order room (subst (λ (l : List Event). with_lines inputs lines (n + 1) l ≡ Ok all) p.1 b.2) in
          record { events = more.events; all_are = more.all_are; tell = inl (p.0, more.tell); order = more.order; few = more.few }
      | inr t ↦
          let longer : length (before ++ t.0 ∷ []) ≡ length before + 1 = length-append before (t.0 ∷ []) in
          let more = lines_took inputs lines (n + 1) (before ++ t.0 ∷ []) all few (order_push 0 before t.0 order t.3) (omega (arith, longer, t.4)) (subst (λ (l : List Event). with_lines inputs lines (n + 1) l ≡ Ok all) t.2 b.2) in
          record {
            events = t.0 ∷ more.events;
            all_are = more.all_are ∙ append_assoc before (t.0 ∷ []) more.events;
            tell = inr (t.0, more.events, refl, t.1, more.tell);
            order = more.order;
            few = more.few;
          }
    ]

shaped_ok : (s : ClicShape) (r : Result (List Event) Fault) (es : EventList) → in_shape s r ≡ Ok es → (r ≡ done es.list) × (es.shape ≡ s)
shaped_ok s (Ok list) es e =
    let same : record { shape = s; list = list } ≡ es = cc in
    (ap (λ (x : EventList). done x.list) same, sym (ap (λ (x : EventList). x.shape) same))
shaped_ok s (Err f) es e = absurd cc

scenario_took : (bytes : List ℕ) (es : EventList) → scenario_of bytes ≡ Ok es → IsScenarioFile bytes es
unfolding scenario_of
scenario_took bytes es e =
    let o = file_opening bytes in
    let r = shaped_ok o.shape (with_lines o.shape.inputs o.lines 1 []) es e in
    let t = lines_took o.shape.inputs o.lines 1 [] es.list (inputs_small bytes) tt (omega arith) r.0 in
    record {
      shape = r.1;
      lines = subst (λ (s : ClicShape). Tell s.inputs o.lines es.list) (sym r.1) (subst (Tell o.shape.inputs o.lines) (sym t.all_are) t.tell);
      order = t.order;
      few = t.few;
    }

pub is_found : (bytes : List ℕ) (r : Result EventList ScenarioError) → Gives r (scenario_of bytes) → IfOk r (λ es. IsScenarioFile bytes es)
is_found bytes (Ok es) given = scenario_took bytes es given
is_found bytes (Err e) given = tt
