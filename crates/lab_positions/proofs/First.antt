-- Going forward stops at the first reason.
use Rattle.std.proofs.Common.{◌≡◌, ℕ, zero, suc, ◌+◌, ◌<◌, List, [], ◌∷◌, Bool, true, false, Option, Some, None, refl, sym, subst, ap, ◌∙◌, arith, inl, inr}
use Rattle.std.proofs.lemmas.Bool.{cases_lt}
use Rattle.device_model.specs.Meanings.{Meanings}
use Rattle.hart_memory.specs.Memory.{Memory}
use Rattle.hart_board.specs.Steps.{goes_on}
use Rattle.hart_board.specs.declared.event.Event.{Event}
use Rattle.hart_report.specs.declared.stepped.Stepped.{Stepped}
use Rattle.hart_report.specs.declared.stepped.Stepped.TheVariants.{Retired, Interrupted, Raised, Halted, VectorFault}
use Rattle.lab_positions.specs.Position.{Position, next, after, told_of}
use Rattle.lab_positions.specs.Watching.{first_changed}
use Rattle.lab_positions.specs.Sought.{Search, is_break, is_until}
use Rattle.lab_positions.specs.Forward.{Stopped, reason, first_of, halt_stop, watch_stop, stop_if, exception_stop, unless_reason, unless_vector, forward_in}
use Rattle.lab_positions.specs.Kinds.{IsPassed, ArePassed, StopsFirst, reason_behind}
use Rattle.lab_positions.specs.declared.timing.Timing.{Timing}
use Rattle.lab_positions.specs.declared.stop.Stop.{Stop}
use Rattle.lab_positions.specs.declared.stop.Stop.TheVariants.{Halt, Watch, Break, Exception, Until, Vector, Bound, Begin}
use Rattle.lab_positions.proofs.Times.{after_none, after_more}

-- ---- a reason is neither that no vector was found, nor the bound

abbrev IsReason : Option Stop → Type 0
IsReason (Some (Vector id)) = ⊥
IsReason (Some Bound) = ⊥
IsReason (Some why) = Unit {0}
IsReason None = Unit {0}

by_exception : (told : Stepped) (until : Bool) → IsReason (first_of (exception_stop told ∷ stop_if until Until ∷ []))
by_exception (Raised pc code) until = tt
by_exception (Retired pc bits length) true = tt
by_exception (Retired pc bits length) false = tt
by_exception (Interrupted pc id) true = tt
by_exception (Interrupted pc id) false = tt
by_exception (Halted code) true = tt
by_exception (Halted code) false = tt
by_exception (VectorFault id) true = tt
by_exception (VectorFault id) false = tt

by_reasons : (halted changed : Option ℕ) (here : Bool) (told : Stepped) (until : Bool) → IsReason (first_of (halt_stop halted ∷ watch_stop changed ∷ stop_if here Break ∷ exception_stop told ∷ stop_if until Until ∷ []))
by_reasons (Some code) changed here told until = tt
by_reasons None (Some at) here told until = tt
by_reasons None None true told until = tt
by_reasons None None false told until = by_exception told until

is_reason : (m : Meanings) (search : Search) (before : Memory) (told : Stepped) (here : Position) → IsReason (reason m search before told here)
unfolding reason
is_reason m search before told here =
    by_reasons (m.halted here.stand.board.outside.device) (first_changed before here.stand.board.memory search.watches) (is_break here.stand.board.pc search.breaks) told (is_until search.until here)

module _ (m : Meanings) (timing : Timing) (es : List Event) (search : Search) (p : Position) where
  one_passed : (n : ℕ) → ArePassed m timing es search p n → IsPassed m timing es search p n → ArePassed m timing es search p (n + 1)
  one_passed n before here k l = elim (cases_lt k n) [
    | inl less ↦ before k less
    | inr more ↦
        let same : n ≡ k = omega (arith, l, more) in
        subst (IsPassed m timing es search p) same here
  ]

  abbrev Stops : ℕ → Stopped → Type 0
  Stops n r = StopsFirst m timing es search p n r.at r.why

  module _ (k n : ℕ) (here : Position) (further : Stopped) (less : k < n) (before : ArePassed m timing es search p k) (is : here ≡ after m timing es p (k + 1)) (made : goes_on (told_of m (after m timing es p k)) ≡ true) where
    reason_stops : (r : Option Stop) → IsReason r → reason_behind m timing es search p k ≡ r → (r ≡ None → Stops n further) → Stops n (unless_reason r here further)
    reason_stops (Some (Vector id)) none e later = absurd none
    reason_stops (Some Bound) none e later = absurd none
    reason_stops (Some (Halt code)) some e later = (k, less, before, made, is, e)
    reason_stops (Some (Watch at)) some e later = (k, less, before, made, is, e)
    reason_stops (Some Break) some e later = (k, less, before, made, is, e)
    reason_stops (Some (Exception pc code)) some e later = (k, less, before, made, is, e)
    reason_stops (Some Until) some e later = (k, less, before, made, is, e)
    reason_stops (Some Begin) some e later = (k, less, before, made, is, e)
    reason_stops None some e later = later refl

  vector_stops : (k n : ℕ) (b : Position) (told : Stepped) (further : Stopped) → k < n → ArePassed m timing es search p k → b ≡ after m timing es p k → told ≡ told_of m b
      → (goes_on told ≡ true → Stops n further) → Stops n (unless_vector told b further)
  vector_stops k n b (VectorFault id) further less before is e later = (k, less, before, is, sym e)
  vector_stops k n b (Retired pc bits length) further less before is e later = later refl
  vector_stops k n b (Interrupted pc id) further less before is e later = later refl
  vector_stops k n b (Raised pc code) further less before is e later = later refl
  vector_stops k n b (Halted code) further less before is e later = later refl

  -- the reason, told of the position reached
  reason_is : (k : ℕ) (b : Position) → b ≡ after m timing es p k → reason_behind m timing es search p k ≡ reason m search b.stand.board.memory (told_of m b) (next m timing es b)
  reason_is k b is =
      ap (λ h. reason m search (after m timing es p k).stand.board.memory (told_of m (after m timing es p k)) h) (sym (after_more m timing es p k (after m timing es p k) (next m timing es (after m timing es p k)) refl refl))
      ∙ ap (λ x. reason m search x.stand.board.memory (told_of m x) (next m timing es x)) (sym is)

  stops_from : (n k : ℕ) (b : Position) → b ≡ after m timing es p k → ArePassed m timing es search p k → Stops (k + n) (forward_in m timing es search n b)
  unfolding forward_in
  stops_from zero k b is before =
      let same : k ≡ k + 0 = omega arith in
      (subst (ArePassed m timing es search p) same before, is ∙ ap (after m timing es p) same)
  stops_from (suc n) k b is before =
      let here = next m timing es b in
      let r = reason m search b.stand.board.memory (told_of m b) here in
      let less : k < k + suc n = omega arith in
      let there = after_more m timing es p k b here is refl in
      vector_stops k (k + suc n) b (told_of m b) (unless_reason r here (forward_in m timing es search n here)) less before is refl (λ goes.
      let made : goes_on (told_of m (after m timing es p k)) ≡ true = ap (λ x. goes_on (told_of m x)) (sym is) ∙ goes in
      reason_stops k (k + suc n) here (forward_in m timing es search n here) less before there made r (is_reason m search b.stand.board.memory (told_of m b) here) (reason_is k b is) (λ none.
      let passed : IsPassed m timing es search p k = record { made = made; free = reason_is k b is ∙ none } in
      let same : k + 1 + n ≡ k + suc n = omega arith in
      subst (λ l. Stops l (forward_in m timing es search n here)) same (stops_from n (k + 1) here there (one_passed k before passed))))

  pub stops_first : (n : ℕ) → StopsFirst m timing es search p n (forward_in m timing es search n p).at (forward_in m timing es search n p).why
  stops_first n =
      let r = forward_in m timing es search n p in
      let all : 0 + n ≡ n = omega arith in
      subst (λ l. StopsFirst m timing es search p l r.at r.why) all (stops_from n 0 p (after_none m timing es p) (λ k l. absurd (omega (arith, l))))
