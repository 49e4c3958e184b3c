-- Reading line by line.
use Rattle.std.proofs.Common.{◌≡◌, ℕ, zero, suc, ◌+◌, ◌≤◌, List, [], ◌∷◌, length, Option, Some, None, Result, Ok, refl, sym, ap, ◌∙◌, arith, slice_get}
use Rattle.hart_words.specs.Lines.{lines_of, lines_left, left}
use Rattle.clic_regs.specs.Shape.{ClicShape}
use Rattle.hart_board.specs.Event.{EventList, last_count}
use Rattle.hart_board.specs.declared.event.Event.{Event}
use Rattle.hart_words.specs.InTurn.{◌>>=◌}
use Rattle.board_inputs.specs.ScenarioReading.{Fault, in_shape, with_line, with_lines, Becomes, Fails}
use Rattle.board_inputs.specs.declared.scenario_error.ScenarioError.{ScenarioError}
use Rattle.board_inputs.specs.declared.scenario_error.ScenarioError.TheVariants.{Memory, Refused}

-- the count of the last of the events
pub last_is : (n : ℕ) (es : List Event) (i : ℕ) (e : Event) → length es ≡ i + 1 → slice_get es i ≡ Some e → last_count n es ≡ e.at
last_is n [] i e len h = absurd (omega arith)
last_is n (x ∷ []) zero e len h = let same : x ≡ e = cc in ap (λ (v : Event). v.at) same
last_is n (x ∷ []) (suc i) e len h = absurd (omega arith)
last_is n (x ∷ y ∷ ys) zero e len h = absurd (omega arith)
last_is n (x ∷ y ∷ ys) (suc i) e len h = last_is x.at (y ∷ ys) i e (omega arith) h

-- reading on gives what reading all gives
pub record ReadsOn (inputs : ℕ) (all : Result (List Event) Fault) (room : ℕ) (rest : Option (List ℕ)) (number : ℕ) (events : List Event) : Type 0 where
  pub result : with_lines inputs (lines_left rest) number events ≡ all
  pub few : number + left rest ≤ room

pub starts : (inputs : ℕ) (room : ℕ) (rest : Option (List ℕ)) (number : ℕ) (events : List Event) → events ≡ [] → number + left rest ≤ room → ReadsOn inputs (with_lines inputs (lines_left rest) number []) room rest number events
starts inputs room rest number events none few = record { result = ap (with_lines inputs (lines_left rest) number) none; few = few }

one_line : (inputs : ℕ) (text line : List ℕ) (after : Option (List ℕ)) (number : ℕ) (events : List Event) → lines_of text ≡ line ∷ lines_left after
    → with_lines inputs (lines_of text) number events ≡ with_line inputs line number events >>= λ es. with_lines inputs (lines_left after) (number + 1) es
unfolding with_lines
one_line inputs text line after number events cuts = rw cuts refl

pub goes_on : (inputs : ℕ) (all : Result (List Event) Fault) (room : ℕ) (text line : List ℕ) (after : Option (List ℕ)) (number : ℕ) (events next : List Event) (done : Unit {0}) → lines_of text ≡ line ∷ lines_left after → left after ≤ length text → ReadsOn inputs all room (Some text) number events
    → Becomes events next (Ok done) (with_line inputs line number events) → ReadsOn inputs all room after (number + 1) next
goes_on inputs all room text line after number events next done cuts less h b =
    record { result = sym (rw b at (one_line inputs text line after number events cuts)) ∙ h.result; few = omega (arith, h.few, less) }

pub fails : (inputs : ℕ) (e : ScenarioError) (all : Result (List Event) Fault) (room : ℕ) (text line : List ℕ) (after : Option (List ℕ)) (number : ℕ) (events : List Event) → lines_of text ≡ line ∷ lines_left after → ReadsOn inputs all room (Some text) number events
    → Fails e (with_line inputs line number events) → Fails e all
fails inputs Memory all room text line after number events cuts h f = tt
fails inputs (Refused n why) all room text line after number events cuts h f = sym h.result ∙ (rw f at (one_line inputs text line after number events cuts))

pub ended : (inputs : ℕ) (all : Result (List Event) Fault) (room : ℕ) (rest : Option (List ℕ)) (number : ℕ) (events : List Event) → rest ≡ None → ReadsOn inputs all room rest number events → all ≡ Ok events
unfolding with_lines
ended inputs all room rest number events none h = sym (rw none at h.result)

-- with the shape

pub fails_in : (s : ClicShape) (e : ScenarioError) (all : Result (List Event) Fault) → Fails e all → Fails e (in_shape s all)
fails_in s Memory all h = tt
fails_in s (Refused n why) all h = ap (in_shape s) h

pub ended_in : (s : ClicShape) (all : Result (List Event) Fault) (events : EventList) → events.shape ≡ s → all ≡ Ok events.list → in_shape s all ≡ Ok events
ended_in s all events same h = ap (in_shape s) h ∙ ap (λ (r : ClicShape). in_shape r (Ok events.list)) (sym same)
