-- What is found on the way back is the latest.
use Rattle.std.proofs.Common.{◌≡◌, ℕ, zero, suc, ◌+◌, ◌-◌, ◌<◌, List, Option, Some, None, refl, sym, ap, ◌∙◌, arith}
use Rattle.device_model.specs.Meanings.{Meanings}
use Rattle.hart_board.specs.declared.event.Event.{Event}
use Rattle.lab_positions.specs.Position.{Position, next, after}
use Rattle.lab_positions.specs.Sought.{Search}
use Rattle.lab_positions.specs.Forward.{Stopped}
use Rattle.lab_positions.specs.Backward.{back_reason, found_at, later_or, latest}
use Rattle.lab_positions.specs.Kinds.{reason_at, IsLatest}
use Rattle.lab_positions.specs.declared.timing.Timing.{Timing}
use Rattle.lab_positions.specs.declared.stop.Stop.{Stop}
use Rattle.lab_positions.proofs.Times.{after_both}

module _ (m : Meanings) (timing : Timing) (es : List Event) (search : Search) where
  -- from the next position on it is one step less
  one_less : (p : Position) (k : ℕ) → after m timing es (next m timing es p) k ≡ after m timing es p (k + 1)
  unfolding after
  one_less p k = let all : 1 + k ≡ k + 1 = omega arith in after_both m timing es p 1 k ∙ ap (after m timing es p) all

  reason_less : (p : Position) (k : ℕ) → reason_at m timing es search (next m timing es p) k ≡ reason_at m timing es search p (k + 1)
  reason_less p k =
      ap (λ x. back_reason search x (after m timing es (next m timing es p) (k + 1)).stand.board.memory) (one_less p k)
      ∙ ap (λ (x : Position). back_reason search (after m timing es p (k + 1)) x.stand.board.memory) (one_less p (k + 1))

  reason_first : (p : Position) → reason_at m timing es search p 0 ≡ back_reason search p (next m timing es p).stand.board.memory
  unfolding after
  reason_first p = refl

  -- none on the rest of the way
  none_later : (n : ℕ) (p : Position) → ((j : ℕ) → j < n → reason_at m timing es search (next m timing es p) j ≡ None) → (j : ℕ) → 0 < j → j < suc n → reason_at m timing es search p j ≡ None
  none_later n p none j l h =
      let less : j - 1 < n = omega (arith, l, h) in
      let same : j - 1 + 1 ≡ j = omega (arith, l) in
      ap (reason_at m timing es search p) (sym same) ∙ sym (reason_less p (j - 1)) ∙ none (j - 1) less

  one_more : (n : ℕ) (p : Position) (later : Option Stopped) (why : Option Stop) → IsLatest m timing es search (next m timing es p) n later → reason_at m timing es search p 0 ≡ why
      → IsLatest m timing es search p (suc n) (later_or later (found_at why p))
  unfolding after
  one_more n p (Some s) why w e = (
    w.0 + 1,
    omega (arith, w.1),
    w.2 ∙ one_less p w.0,
    sym (reason_less p w.0) ∙ w.3,
    λ j l h.
        let less : j - 1 < n = omega (arith, l, h) in
        let more : w.0 < j - 1 = omega (arith, l) in
        let same : j - 1 + 1 ≡ j = omega (arith, l) in
        ap (reason_at m timing es search p) (sym same) ∙ sym (reason_less p (j - 1)) ∙ w.4 (j - 1) more less,
  )
  one_more n p None (Some why) w e = (0, omega arith, refl, e, none_later n p w)
  one_more n p None None w e = at_each
    where
      at_each : (j : ℕ) → j < suc n → reason_at m timing es search p j ≡ None
      at_each zero h = e
      at_each (suc j) h = let some : 0 < suc j = omega arith in none_later n p w (suc j) some h

  pub is_latest : (n : ℕ) (p : Position) → IsLatest m timing es search p n (latest m timing es search n p)
  unfolding latest
  is_latest zero p = λ j h. absurd (omega (arith, h))
  is_latest (suc n) p =
      one_more n p (latest m timing es search n (next m timing es p)) (back_reason search p (next m timing es p).stand.board.memory) (is_latest n (next m timing es p)) (reason_first p)
