-- A run of the monitor, step by step.
use Rattle.std.proofs.Common.{◌≡◌, ℕ, suc, ◌+◌, ◌-◌, ◌<◌, List, true, false, None, refl, sym, ap, ◌∙◌, arith}
use Rattle.device_model.specs.Meanings.{Meanings}
use Rattle.hart_board.specs.State.{State}
use Rattle.hart_board.specs.Step.{step}
use Rattle.hart_report.specs.declared.stepped.Stepped.{Stepped}
use Rattle.hart_report.specs.declared.stepped.Stepped.TheVariants.{Retired, Interrupted, Raised, Halted, VectorFault}
use Rattle.hart_monitor.specs.Breaks.{is_break}
use Rattle.hart_monitor.specs.Stopping.{Stopped, stopped, unless_break, unless_halted, unless_vector, after_step, stops_in}
use Rattle.hart_monitor.specs.declared.stop.Stop.TheVariants.{Break}

other_step : (next : Stopped) (s : State) (told : Stepped) → ((id : ℕ) → told ≡ VectorFault id → ⊥) → unless_vector told next s ≡ next
other_step next s (Retired pc bits length) other = refl
other_step next s (Interrupted pc id) other = refl
other_step next s (Raised pc code) other = refl
other_step next s (Halted code) other = refl
other_step next s (VectorFault id) other = absurd (other id refl)

module _ (m : Meanings) (breaks : List ℕ) (n k : ℕ) (s t : State) (told : Stepped) (more : k < n) (e : record { told = told; state = t } ≡ step m s) (other : (id : ℕ) → told ≡ VectorFault id → ⊥) (running : m.halted t.outside.device ≡ None) where
  -- a step, and then the tests, of which the first is passed
  one_step : stops_in m breaks (n - k) s ≡ after_step m breaks (stops_in m breaks (n - (k + 1))) (record { told = told; state = t })
  unfolding stops_in
  one_step =
      let left : n - k ≡ suc (n - (k + 1)) = omega arith in
      rw left (ap (after_step m breaks (stops_in m breaks (n - (k + 1)))) (sym e))

  place : stops_in m breaks (n - k) s ≡ unless_break (is_break t.pc breaks) (stops_in m breaks (n - (k + 1)) t) t
  place =
      one_step
      ∙ other_step (unless_halted (m.halted t.outside.device) (is_break t.pc breaks) (stops_in m breaks (n - (k + 1)) t) t) t told other
      ∙ ap (λ o. unless_halted o (is_break t.pc breaks) (stops_in m breaks (n - (k + 1)) t) t) running

  pub stops_break : is_break t.pc breaks ≡ true → stops_in m breaks (n - k) s ≡ stopped Break t
  stops_break b = place ∙ ap (λ x. unless_break x (stops_in m breaks (n - (k + 1)) t) t) b

  pub goes_on : is_break t.pc breaks ≡ false → stops_in m breaks (n - k) s ≡ stops_in m breaks (n - (k + 1)) t
  goes_on b = place ∙ ap (λ x. unless_break x (stops_in m breaks (n - (k + 1)) t) t) b
