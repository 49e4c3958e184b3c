-- Positions and places after a step.
use Rattle.std.proofs.Common.{◌≡◌, ℕ, zero, suc, ◌+◌, ◌-◌, ◌≤◌, Bool, true, false, List, [], ◌∷◌, ◌++◌, refl, sym, ap, subst, ◌∙◌, arith}
use Rattle.std.specs.Prelude.{if◌then◌else◌}
use Rattle.std.specs.List.{All}
use Rattle.std.proofs.lemmas.List.Elements.{All-push}
use Rattle.device_model.specs.Meanings.{Meanings}
use Rattle.hart_report.specs.declared.stepped.Stepped.{Stepped}
use Rattle.hart_report.specs.declared.stepped.Stepped.TheVariants.{Retired, Interrupted, Raised, Halted, VectorFault}
use Rattle.hart_board.specs.State.{State}
use Rattle.hart_board.specs.Step.{Turn, step}
use Rattle.hart_board.specs.Event.{EventList, arrived}
use Rattle.hart_board.specs.declared.event.Event.{Event}
use Rattle.hart_board.proofs.Steps.{no_vector_keeps}
use Rattle.hart_board.proofs.Shapes.{step_has}
use Rattle.hart_board.proofs.Outsides.{arrived_shape}
use Rattle.lab_positions.specs.Changes.{changed, with_board}
use Rattle.lab_positions.specs.declared.change.Change.{Change}
use Rattle.lab_positions.specs.declared.change.Change.TheVariants.{Pc, Byte, Outside}
use Rattle.lab_positions.specs.Position.{Position, settled, unless_missing, next, after, told_of}
use Rattle.lab_positions.specs.Places.{PlaceState, bare_of, position_at, IsOnTime, IsFrom, IsReached}
use Rattle.lab_positions.specs.declared.timing.Timing.{Timing}

unless_other : (told : Stepped) (p made : Position) → ((id : ℕ) → told ≡ VectorFault id → ⊥) → unless_missing told p made ≡ made
unless_other (Retired pc bits length) p made other = refl
unless_other (Interrupted pc id) p made other = refl
unless_other (Raised pc code) p made other = refl
unless_other (Halted code) p made other = refl
unless_other (VectorFault id) p made other = absurd (other id refl)

module _ (m : Meanings) (timing : Timing) (es : List Event) where
  -- a step that was made
  pub next_made : (p : Position) (turn : Turn) → turn ≡ step m p.stand.board → ((id : ℕ) → turn.told ≡ VectorFault id → ⊥) → next m timing es p ≡ settled m timing es p turn
  unfolding next
  next_made p turn e other = ap (λ t. unless_missing t.told p (settled m timing es p t)) (sym e) ∙ unless_other turn.told p (settled m timing es p turn) other

  -- one that wasn't
  pub next_missing : (p : Position) (id : ℕ) → told_of m p ≡ VectorFault id → next m timing es p ≡ p
  unfolding next
  next_missing p id e = ap (λ told. unless_missing told p (settled m timing es p (step m p.stand.board))) e

  made_from : (base p made : Position) → made.steps ≡ p.steps + 1 → IsFrom m timing es base p → made ≡ next m timing es p → IsFrom m timing es base made
  unfolding after
  made_from base p made s from e =
      let l : base.steps ≤ made.steps = omega (arith, s, from.0) in
      let n : made.steps - base.steps ≡ suc (p.steps - base.steps) = omega (arith, s, from.0) in
      (l, e ∙ ap (next m timing es) from.1 ∙ sym (ap (after m timing es base) n))

  pub missing_stays : (p : Position) (t : State) (told : Stepped) (id : ℕ) → record { told = told; state = t } ≡ step m p.stand.board → told ≡ VectorFault id
      → record { steps = p.steps; fresh = p.fresh; stand = record { count = p.stand.count; board = t } } ≡ next m timing es p
  missing_stays p t told id e is =
      let there : told_of m p ≡ VectorFault id = ap (λ (turn : Turn). turn.told) (sym e) ∙ is in
      let same : t ≡ p.stand.board = ap (λ (turn : Turn). turn.state) e ∙ no_vector_keeps m p.stand.board id there in
      ap (λ b. record { steps = p.steps; fresh = p.fresh; stand = record { count = p.stand.count; board = b } }) same ∙ sym (next_missing p id there)

  from_by : (base p : Position) (told : Stepped) (made : Position) → made.steps ≡ p.steps + 1 → IsFrom m timing es base p → unless_missing told p made ≡ next m timing es p → IsFrom m timing es base (unless_missing told p made)
  from_by base p (VectorFault id) made s from e = from
  from_by base p (Retired pc bits length) made s from e = made_from base p made s from e
  from_by base p (Interrupted pc id) made s from e = made_from base p made s from e
  from_by base p (Raised pc code) made s from e = made_from base p made s from e
  from_by base p (Halted code) made s from e = made_from base p made s from e

  -- what is reached is so after the next step
  pub from_next : (base p : Position) → IsFrom m timing es base p → IsFrom m timing es base (next m timing es p)
  unfolding next
  from_next base p from = from_by base p (step m p.stand.board).told (settled m timing es p (step m p.stand.board)) refl from refl

  pub from_base : (base : Position) → IsFrom m timing es base base
  unfolding after
  from_base base =
      let l : base.steps ≤ base.steps = omega arith in
      let n : base.steps - base.steps ≡ 0 = omega arith in
      (l, sym (ap (after m timing es base) n))

-- the board's step changes neither what is ahead nor the shape
pub time_stepped : (m : Meanings) (events : EventList) (p : PlaceState) (t : State) (told : Stepped) → record { told = told; state = t } ≡ step m p.position.stand.board → IsOnTime m events p
    → IsOnTime m events (record { position = record { steps = p.position.steps; fresh = p.position.fresh; stand = record { count = p.position.stand.count; board = t } }; ahead = p.ahead })
time_stepped m events p t told e time = record {
  shape = time.shape ∙ sym (ap (λ (turn : Turn). turn.state.outside.clic.shape) e ∙ step_has m p.position.stand.board);
  ahead = time.ahead;
  passed = time.passed;
  few = time.few;
}

-- where nothing is kept, a copy is the same
pub bare_same : (p : PlaceState) → p.position.stand.board.kept ≡ [] → bare_of p ≡ p
bare_same p e = ap (λ k. record p { position = record p.position { stand = record p.position.stand { board = record p.position.stand.board { kept = k } } } }) (sym e)

pub reached_copy : (m : Meanings) (timing : Timing) (events : EventList) (base : Position) (p q : PlaceState) → q ≡ bare_of p → IsReached m timing events base p → IsReached m timing events base q
reached_copy m timing events base p q e r = subst (IsReached m timing events base) (sym (e ∙ bare_same p r.bare)) r

pub reached_base : (m : Meanings) (timing : Timing) (events : EventList) (p : PlaceState) → IsOnTime m events p → p.position.stand.board.kept ≡ [] → IsReached m timing events p.position p
reached_base m timing events p time bare = record { from = from_base m timing events.list p.position; time = time; bare = bare }

pub after_none : (m : Meanings) (timing : Timing) (es : List Event) (base : Position) → base ≡ after m timing es base 0
unfolding after
after_none m timing es base = refl

-- one step more
pub after_more : (m : Meanings) (timing : Timing) (es : List Event) (base : Position) (n : ℕ) (p q : Position) → p ≡ after m timing es base n → q ≡ next m timing es p → q ≡ after m timing es base (n + 1)
unfolding after
after_more m timing es base n p q is e = let more : n + 1 ≡ suc n = omega arith in e ∙ ap (next m timing es) is ∙ sym (ap (after m timing es base) more)

-- first some steps, and then others
pub after_both : (m : Meanings) (timing : Timing) (es : List Event) (base : Position) (a b : ℕ) → after m timing es (after m timing es base a) b ≡ after m timing es base (a + b)
unfolding after
after_both m timing es base a zero = let all : a + 0 ≡ a = omega arith in sym (ap (after m timing es base) all)
after_both m timing es base a (suc b) = let all : a + suc b ≡ suc (a + b) = omega arith in ap (next m timing es) (after_both m timing es base a b) ∙ sym (ap (after m timing es base) all)

-- from a place on the way
pub further : (m : Meanings) (timing : Timing) (es : List Event) (base p q : Position) (steps : ℕ) → IsFrom m timing es base p → p.steps ≤ steps → q ≡ after m timing es p (steps - p.steps) → q ≡ position_at m timing es base steps
further m timing es base p q steps from l e =
    let all : (p.steps - base.steps) + (steps - p.steps) ≡ steps - base.steps = omega (arith, l, from.0) in
    e ∙ ap (λ x. after m timing es x (steps - p.steps)) from.1 ∙ after_both m timing es base (p.steps - base.steps) (steps - p.steps) ∙ ap (after m timing es base) all

-- a step counts one at most
pub steps_most : (m : Meanings) (timing : Timing) (es : List Event) (p q : Position) → q ≡ next m timing es p → q.steps ≤ p.steps + 1
unfolding next
steps_most m timing es p q e =
    let all : q.steps ≡ (next m timing es p).steps = ap (λ (x : Position). x.steps) e in
    omega (arith, all, by_told (step m p.stand.board).told)
  where
    by_told : (told : Stepped) → (unless_missing told p (settled m timing es p (step m p.stand.board))).steps ≤ p.steps + 1
    by_told (Retired pc bits length) = omega arith
    by_told (Interrupted pc id) = omega arith
    by_told (Raised pc code) = omega arith
    by_told (Halted code) = omega arith
    by_told (VectorFault id) = omega arith

after_most : (m : Meanings) (timing : Timing) (es : List Event) (base : Position) (n : ℕ) → (after m timing es base n).steps ≤ base.steps + n
unfolding after
after_most m timing es base zero = omega arith
after_most m timing es base (suc n) =
    let p = after m timing es base n in
    omega (arith, after_most m timing es base n, steps_most m timing es p (next m timing es p) refl)

-- a position stands no further than it is asked for
pub at_most : (m : Meanings) (timing : Timing) (es : List Event) (base p : Position) (low : ℕ) → base.steps ≤ low → p ≡ position_at m timing es base low → p.steps ≤ low
at_most m timing es base p low l e =
    let same : p.steps ≡ (after m timing es base (low - base.steps)).steps = ap (λ (x : Position). x.steps) e in
    omega (arith, l, same, after_most m timing es base (low - base.steps))

-- ---- changes

pub changed_shape : (m : Meanings) (s : State) (change : Change) → (changed m s change).outside.clic.shape ≡ s.outside.clic.shape
unfolding arrived
changed_shape m s (Pc pc) = refl
changed_shape m s (Byte at value) = refl
changed_shape m s (Outside what) = arrived_shape m s.outside what

pub changed_kept : (m : Meanings) (s : State) (change : Change) → (changed m s change).kept ≡ s.kept
unfolding arrived
changed_kept m s (Pc pc) = refl
changed_kept m s (Byte at value) = refl
changed_kept m s (Outside what) = refl

pub time_changed : (m : Meanings) (events : EventList) (p q : PlaceState) (change : Change) → q ≡ record p { position = with_board p.position (changed m p.position.stand.board change) } → IsOnTime m events p → IsOnTime m events q
time_changed m events p q change e time = subst (IsOnTime m events) (sym e) (record {
  shape = time.shape ∙ sym (changed_shape m p.position.stand.board change);
  ahead = time.ahead;
  passed = time.passed;
  few = time.few;
})

pub reached_next : (m : Meanings) (timing : Timing) (events : EventList) (base : Position) (p q : PlaceState)
    → q.position ≡ next m timing events.list p.position → IsOnTime m events q → q.position.stand.board.kept ≡ p.position.stand.board.kept
    → IsReached m timing events base p → IsReached m timing events base q
reached_next m timing events base p q e time kept r = record {
  from = subst (IsFrom m timing events.list base) (sym e) (from_next m timing events.list base p.position r.from);
  time = time;
  bare = kept ∙ r.bare;
}

-- a place more is kept, where there was memory for it
pub pushed_all : {X : Type 0} (P : X → Type 0) (xs ys : List X) (x : X) (ok : Bool) → ys ≡ (if ok then xs ++ x ∷ [] else xs) → P x → All P xs → All P ys
pushed_all P xs ys x true e here all = subst (All P) (sym e) (All-push P xs x all here)
pushed_all P xs ys x false e here all = subst (All P) (sym e) all

pub none_all : {X : Type 0} (P : X → Type 0) (xs : List X) → xs ≡ [] → All P xs
none_all P xs e = subst (All P) (sym e) (λ k d l. absurd (omega (arith, l)))
