-- A run of the monitor stops at the first step that isn't passed.
use Rattle.std.proofs.Common.{◌≡◌, ℕ, zero, suc, ◌+◌, ◌<◌, List, [], Bool, true, false, Option, Some, None, refl, sym, subst, ap, ◌∙◌, arith, inl, inr}
use Rattle.std.proofs.lemmas.Bool.{cases_lt}
use Rattle.device_model.specs.Meanings.{Meanings}
use Rattle.hart_board.specs.State.{State}
use Rattle.hart_board.specs.Step.{step}
use Rattle.hart_board.specs.Run.{Stand, every_step}
use Rattle.hart_board.specs.Steps.{stands_at, goes_on}
use Rattle.hart_board.proofs.Runs.{stands_first, stands_at_next}
use Rattle.hart_board.proofs.Steps.{no_vector_keeps}
use Rattle.hart_report.specs.declared.stepped.Stepped.{Stepped}
use Rattle.hart_report.specs.declared.stepped.Stepped.TheVariants.{Retired, Interrupted, Raised, Halted, VectorFault}
use Rattle.hart_monitor.specs.Breaks.{is_break}
use Rattle.hart_monitor.specs.Stopping.{Stopped, unless_break, unless_halted, unless_vector, stops_in}
use Rattle.hart_monitor.specs.StopKinds.{IsPassed, ArePassed, StopsBy, after_steps, next_told}
use Rattle.hart_monitor.proofs.Quiet.{nothing_comes}

module _ (m : Meanings) (breaks : List ℕ) (s : State) where
  -- a step more
  state_next : (k : ℕ) (b : State) → b ≡ after_steps m s k → (step m b).state ≡ after_steps m s (k + 1)
  state_next k b is =
      let at = stands_at m every_step [] s k in
      ap (λ x. (step m x).state) is
      ∙ nothing_comes m (at.count + 1) (step m at.board).state
      ∙ ap (λ (x : Stand). x.board) (sym (stands_at_next m every_step [] s k))

  told_next : (k : ℕ) (b : State) → b ≡ after_steps m s k → (step m b).told ≡ next_told m s k
  told_next k b is = ap (λ x. (step m x).told) is

  none_passed : ArePassed m breaks s 0
  none_passed k l = absurd (omega arith)

  one_passed : (n : ℕ) → ArePassed m breaks s n → IsPassed m breaks s n → ArePassed m breaks s (n + 1)
  one_passed n before here k l = elim (cases_lt k n) [
    | inl less ↦ before k less
    | inr more ↦
        let same : n ≡ k = omega (arith, l, more) in
        subst (IsPassed m breaks s) same here
  ]

  abbrev Stops : ℕ → Stopped → Type 0
  Stops n r = StopsBy m breaks s n r.state r.why

  module _ (k n : ℕ) (t : State) (next : Stopped) (less : k < n) (before : ArePassed m breaks s k) (is : t ≡ after_steps m s (k + 1)) (made : goes_on (next_told m s k) ≡ true) where
    break_stops : (b : Bool) → m.halted t.outside.device ≡ None → is_break t.pc breaks ≡ b → (b ≡ false → Stops n next) → Stops n (unless_break b next t)
    break_stops true running here later = (k, less, before, made, is, running, here)
    break_stops false running here later = later refl

    halt_stops : (o : Option ℕ) (b : Bool) → m.halted t.outside.device ≡ o → is_break t.pc breaks ≡ b → (o ≡ None → b ≡ false → Stops n next) → Stops n (unless_halted o b next t)
    halt_stops (Some code) b halted here later = (k, less, before, made, is, (code, halted))
    halt_stops None b running here later = break_stops b running here (later refl)

  vector_stops : (k n : ℕ) (b t : State) (told : Stepped) (next : Stopped) → k < n → ArePassed m breaks s k → b ≡ after_steps m s k → told ≡ (step m b).told → t ≡ (step m b).state
      → (goes_on told ≡ true → Stops n next) → Stops n (unless_vector told next t)
  vector_stops k n b t (VectorFault id) next less before is told_is t_is later =
      (k, less, before, t_is ∙ no_vector_keeps m b id (sym told_is) ∙ is, (id, sym (told_next k b is) ∙ sym told_is))
  vector_stops k n b t (Retired pc bits length) next less before is told_is t_is later = later refl
  vector_stops k n b t (Interrupted pc id) next less before is told_is t_is later = later refl
  vector_stops k n b t (Raised pc code) next less before is told_is t_is later = later refl
  vector_stops k n b t (Halted code) next less before is told_is t_is later = later refl

  stops_from : (n k : ℕ) (b : State) → b ≡ after_steps m s k → ArePassed m breaks s k → Stops (k + n) (stops_in m breaks n b)
  unfolding stops_in
  stops_from zero k b is before =
      let same : k ≡ k + 0 = omega arith in
      (subst (ArePassed m breaks s) same before, is ∙ ap (after_steps m s) same)
  stops_from (suc n) k b is before =
      let t = (step m b).state in
      let less : k < k + suc n = omega arith in
      let there = state_next k b is in
      vector_stops k (k + suc n) b t (step m b).told (unless_halted (m.halted t.outside.device) (is_break t.pc breaks) (stops_in m breaks n t) t) less before is refl refl (λ goes.
      let made : goes_on (next_told m s k) ≡ true = ap goes_on (sym (told_next k b is)) ∙ goes in
      halt_stops k (k + suc n) t (stops_in m breaks n t) less before there made (m.halted t.outside.device) (is_break t.pc breaks) refl refl (λ running free.
      let here : IsPassed m breaks s k = record { made = made; running = ap (λ x. m.halted x.outside.device) (sym there) ∙ running; free = ap (λ x. is_break x.pc breaks) (sym there) ∙ free } in
      let same : k + 1 + n ≡ k + suc n = omega arith in
      subst (λ l. Stops l (stops_in m breaks n t)) same (stops_from n (k + 1) t there (one_passed k before here))))

pub stops_first : (m : Meanings) (breaks : List ℕ) (n : ℕ) (s : State) → StopsBy m breaks s n (stops_in m breaks n s).state (stops_in m breaks n s).why
stops_first m breaks n s =
    let r = stops_in m breaks n s in
    let all : 0 + n ≡ n = omega arith in
    subst (λ l. StopsBy m breaks s l r.state r.why) all (stops_from m breaks s n 0 s (nothing_comes m 0 s ∙ ap (λ (x : Stand). x.board) (stands_first m every_step [] s)) (none_passed m breaks s))
