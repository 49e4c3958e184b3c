-- Going forward, step by step.
use Rattle.std.proofs.Common.{◌≡◌, ℕ, suc, ◌+◌, ◌-◌, ◌<◌, ◌≤◌, List, [], ◌∷◌, Option, Some, None, refl, sym, ap, ◌∙◌, arith}
use Rattle.device_model.specs.Meanings.{Meanings}
use Rattle.hart_memory.specs.Memory.{Memory}
use Rattle.hart_report.specs.declared.stepped.Stepped.{Stepped}
use Rattle.hart_report.specs.declared.stepped.Stepped.TheVariants.{Retired, Interrupted, Raised, Halted, VectorFault}
use Rattle.hart_board.specs.declared.event.Event.{Event}
use Rattle.lab_positions.specs.Position.{Position, next, told_of}
use Rattle.lab_positions.specs.Watching.{first_changed}
use Rattle.lab_positions.specs.Sought.{Search, is_break, is_until}
use Rattle.lab_positions.specs.Forward.{Stopped, stopped, reason, first_of, halt_stop, watch_stop, stop_if, exception_stop, unless_reason, unless_vector, unless_halted, room, forward_in, forward}
use Rattle.lab_positions.specs.declared.timing.Timing.{Timing}
use Rattle.lab_positions.specs.declared.stop.Stop.{Stop}
use Rattle.lab_positions.specs.declared.stop.Stop.TheVariants.{Break, Until, Vector, Bound}
use Rattle.lab_positions.proofs.Watches.{changed_same}

other_step : (told : Stepped) (before : Position) (further : Stopped) → ((id : ℕ) → told ≡ VectorFault id → ⊥) → unless_vector told before further ≡ further
other_step (Retired pc bits length) before further other = refl
other_step (Interrupted pc id) before further other = refl
other_step (Raised pc code) before further other = refl
other_step (Halted code) before further other = refl
other_step (VectorFault id) before further other = absurd (other id refl)

-- where no reason holds, no watch changed
watch_passed : (halt : Option Stop) (changed : Option ℕ) (rest : List (Option Stop)) → first_of (halt ∷ watch_stop changed ∷ rest) ≡ None → changed ≡ None
watch_passed (Some why) changed rest e = cc
watch_passed None (Some at) rest e = cc
watch_passed None None rest e = refl

module _ (m : Meanings) (timing : Timing) (es : List Event) (search : Search) where
  -- the memory before may be any that agrees with it on what is watched
  reason_same : (old before : Memory) (told : Stepped) (here : Position) → first_changed old before search.watches ≡ None → reason m search old told here ≡ reason m search before told here
  unfolding reason
  reason_same old before told here e =
      ap (λ c. first_of (halt_stop (m.halted here.stand.board.outside.device) ∷ watch_stop c ∷ stop_if (is_break here.stand.board.pc search.breaks) Break ∷ exception_stop told ∷ stop_if (is_until search.until here) Until ∷ []))
      (changed_same old before here.stand.board.memory search.watches e)

  pub still_same : (old : Memory) (told : Stepped) (here : Position) → reason m search old told here ≡ None → first_changed old here.stand.board.memory search.watches ≡ None
  unfolding reason
  still_same old told here e = watch_passed (halt_stop (m.halted here.stand.board.outside.device)) _ _ e

  -- a board that hasn't halted
  pub forward_runs : (most n : ℕ) (p : Position) → n ≡ room most p → m.halted p.stand.board.outside.device ≡ None → forward_in m timing es search n p ≡ forward m timing es search most p
  unfolding forward
  forward_runs most n p e h =
      ap (λ k. forward_in m timing es search k p) e ∙ sym (ap (λ o. unless_halted o p (forward_in m timing es search (room most p) p)) h)

  pub forward_done : (n k : ℕ) (p : Position) → n ≤ k → forward_in m timing es search (n - k) p ≡ stopped Bound p
  unfolding forward_in
  forward_done n k p l = let none : n - k ≡ 0 = omega (arith, l) in rw none refl

  module _ (n k : ℕ) (p q : Position) (told : Stepped) (old : Memory) (more : k < n) (is : told ≡ told_of m p) (e : q ≡ next m timing es p) (same : first_changed old p.stand.board.memory search.watches ≡ None) where
    one_step : forward_in m timing es search (n - k) p ≡ unless_vector told p (unless_reason (reason m search old told q) q (forward_in m timing es search (n - (k + 1)) q))
    unfolding forward_in
    one_step =
        let left : n - k ≡ suc (n - (k + 1)) = omega (arith, more) in
        rw left (
        ap (λ t. unless_vector t p (unless_reason (reason m search p.stand.board.memory t (next m timing es p)) (next m timing es p) (forward_in m timing es search (n - (k + 1)) (next m timing es p)))) (sym is)
        ∙ ap (λ h. unless_vector told p (unless_reason (reason m search p.stand.board.memory told h) h (forward_in m timing es search (n - (k + 1)) h))) (sym e)
        ∙ ap (λ r. unless_vector told p (unless_reason r q (forward_in m timing es search (n - (k + 1)) q))) (sym (reason_same old p.stand.board.memory told q same)))

    -- no vector was found
    pub stops_at_vector : (id : ℕ) → told ≡ VectorFault id → forward_in m timing es search (n - k) p ≡ stopped (Vector id) p
    stops_at_vector id v = one_step ∙ ap (λ t. unless_vector t p (unless_reason (reason m search old told q) q (forward_in m timing es search (n - (k + 1)) q))) v

    module _ (other : (id : ℕ) → told ≡ VectorFault id → ⊥) where
      after_step : forward_in m timing es search (n - k) p ≡ unless_reason (reason m search old told q) q (forward_in m timing es search (n - (k + 1)) q)
      after_step = one_step ∙ other_step told p (unless_reason (reason m search old told q) q (forward_in m timing es search (n - (k + 1)) q)) other

      pub stops_here : (why : Stop) → reason m search old told q ≡ Some why → forward_in m timing es search (n - k) p ≡ stopped why q
      stops_here why r = after_step ∙ ap (λ x. unless_reason x q (forward_in m timing es search (n - (k + 1)) q)) r

      pub goes_further : reason m search old told q ≡ None → forward_in m timing es search (n - k) p ≡ forward_in m timing es search (n - (k + 1)) q
      goes_further r = after_step ∙ ap (λ x. unless_reason x q (forward_in m timing es search (n - (k + 1)) q)) r
