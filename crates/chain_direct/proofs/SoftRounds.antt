-- In a chain without direct services no step takes an interrupt of a hardware-vectored input.
use Rattle.std.proofs.Common.{◌≡◌, ◌≢◌, ℕ, ◌+◌, ◌-◌, ◌<◌, ◌≤◌, ⊎_elim, Bool, true, false, List, Option, Some, None, refl, sym, ap, ◌∙◌, subst, arith}
use Rattle.std.specs.Prelude.{nat_le}
use Rattle.std.proofs.lemmas.Bool.{leb-false, cases_lt}
use Rattle.device_model.specs.Meanings.{Meanings, IsSound as IsSoundDevice}
use Rattle.clic_select.specs.Top.{top}
use Rattle.clic_select.specs.declared.choice.Choice.{Choice}
use Rattle.clic_trap.specs.Due.{due}
use Rattle.hart_board.specs.State.{State}
use Rattle.hart_board.specs.Step.{Turn as StepTurn, tried}
use Rattle.hart_board.specs.declared.event.Event.{Event}
use Rattle.hart_report.specs.declared.stepped.Stepped.TheVariants.{Interrupted}
use Rattle.chain_moves.specs.Servicing.{Servicing, marks, innermost_level, is_foreground}
use Rattle.chain_moves.specs.Enter.{is_enter_due, table_address}
use Rattle.chain_moves.specs.Leave.{left}
use Rattle.chain_moves.specs.Moves.{move}
use Rattle.chain_moves.specs.Cost.{is_fused}
use Rattle.chain_core.specs.Walk.{Walk}
use Rattle.chain_moves.specs.Tests.{is_lost}
use Rattle.chain_moves.specs.Judge.{claims_above, judge_turn}
use Rattle.chain_moves.specs.Beside.{Rest, board_of}
use Rattle.chain_moves.specs.Related.{Related}
use Rattle.chain_core.specs.ChainRun.{chained_at}
use Rattle.chain_moves.specs.Watched.{Watched}
use Rattle.chain_core.specs.Progress.{Progress}
use Rattle.chain_core.specs.Rounds.{round, round_unless_halted, round_due, round_verdict, round_enter, round_leave, round_parted, round_fused, round_body, round_tried, raised_code, retired_round, halted_round, steps_made}
use Rattle.chain_moves.specs.declared.broken.Broken.{Broken}
use Rattle.chain_moves.specs.declared.broken.Broken.TheVariants.{HardVectored}
use Rattle.chain_moves.specs.declared.dispatcher.Dispatcher.{Dispatcher}
use Rattle.chain_moves.specs.declared.dispatcher.Dispatcher.TheVariants.{Looping}
use Rattle.chain_moves.specs.declared.moves.Move.TheVariants.{Leave as LeaveMove}
use Rattle.chain_moves.specs.declared.entry.Entry.{Entry}
use Rattle.chain_moves.specs.declared.entry.Entry.TheVariants.{Refused, Admitted}
use Rattle.chain_moves.specs.declared.verdict.Verdict.{Verdict}
use Rattle.chain_moves.specs.declared.verdict.Verdict.TheVariants.{Refused as BodyRefused, Plain, Reviving}
use Rattle.chain_moves.specs.declared.turn.Turn.{Turn}
use Rattle.chain_moves.specs.declared.turn.Turn.TheVariants.{Enter, Leave, Fuse, Body}
use Rattle.chain_moves.proofs.Nested.{passed}
use Rattle.chain_moves.proofs.Enters.{IsUntested}
use Rattle.chain_moves.proofs.Fused.{claims_after}
use Rattle.chain_core.proofs.EnterRuns.{enter_runs}
use Rattle.chain_core.proofs.LeaveRuns.{leave_told, leave_runs}
use Rattle.chain_core.proofs.FusedRuns.{mid, five_told, two_told, five_runs, two_runs}
use Rattle.chain_core.proofs.MoveRuns.{mid_in_run, five_in_run}
use Rattle.chain_moves.proofs.Turns.{Leaves, Fuses, TurnMeans, turn_means}
use Rattle.chain_core.proofs.Standing.{StoodFrom}
use Rattle.chain_core.proofs.RoundMeans.{judge_is, same_halt}
use Rattle.chain_core.proofs.RoundsReturn.{nonzero, looping}
use Rattle.chain_direct.specs.DirectRun.{is_vectored}
use Rattle.chain_direct.proofs.SoftSteps.{Soft, soft_at, calm_soft, retired_walk, entering_walk}

-- a round makes at most as many steps as its move has, and none where a step raises
enter_most : (m : Meanings) (es : List Event) (left : ℕ) (p : Progress) (w : Watched) (reaches : Bool) (frame : ℕ) → nat_le 14 left ≡ reaches → steps_made left (round_enter m es left p w reaches frame).told ≤ 14
enter_most m es left p w true frame e = omega arith
enter_most m es left p w false frame e = let l = leb-false 14 left e in omega (arith, l)

leave_most : (m : Meanings) (es : List Event) (left : ℕ) (p : Progress) (w : Watched) (reaches : Bool) → nat_le 16 left ≡ reaches → steps_made left (round_leave m es left p w reaches).told ≤ 16
leave_most m es left p w true e = omega arith
leave_most m es left p w false e = let l = leb-false 16 left e in omega (arith, l)

parted_most : (m : Meanings) (es : List Event) (left : ℕ) (p : Progress) (w : Watched) (reaches : Bool) (kind : Broken) → nat_le 5 left ≡ reaches → steps_made left (round_parted m es left p w reaches kind).told ≤ 5
parted_most m es left p w true kind e = omega arith
parted_most m es left p w false kind e = let l = leb-false 5 left e in omega (arith, l)

fused_most : (m : Meanings) (es : List Event) (left : ℕ) (p : Progress) (w : Watched) (reaches : Bool) (frame : ℕ) → nat_le 7 left ≡ reaches → steps_made left (round_fused m es left p w reaches frame).told ≤ 7
fused_most m es left p w true frame e = omega arith
fused_most m es left p w false frame e = let l = leb-false 7 left e in omega (arith, l)

tried_most : (m : Meanings) (es : List Event) (left : ℕ) (p : Progress) (w revived : Watched) (turn : StepTurn) (o : Option ℕ) → steps_made left (round_tried m es p w revived turn o).told ≤ 1
tried_most m es left p w revived turn (Some code) = omega arith
tried_most m es left p w revived turn None = by_loss (is_lost w.live turn.state.pc turn.state.registers)
  where
    by_loss : (lost : Bool) → steps_made left (retired_round lost) ≤ 1
    by_loss true = omega arith
    by_loss false = omega arith

body_most : (m : Meanings) (es : List Event) (left : ℕ) (p : Progress) (w : Watched) (reaches : Bool) (revived : Watched) → nat_le 1 left ≡ reaches → steps_made left (round_body m es left p w reaches revived).told ≤ 1
body_most m es left p w true revived e = tried_most m es left p w revived (tried m p.board) (raised_code (tried m p.board).told)
body_most m es left p w false revived e = let l = leb-false 1 left e in omega (arith, l)

verdict_most : (m : Meanings) (es : List Event) (left : ℕ) (p : Progress) (w : Watched) (v : Verdict) → steps_made left (round_verdict m es left p w v).told ≤ 1
verdict_most m es left p w (BodyRefused kind) = omega arith
verdict_most m es left p w Plain = body_most m es left p w (nat_le 1 left) w refl
verdict_most m es left p w (Reviving at width) = body_most m es left p w (nat_le 1 left) _ refl

-- an Enter whose tests are passed is of no hardware-vectored input
soft_choice : (s : Servicing) (t : Choice) → IsUntested s t → t.shv ≡ false
soft_choice s t untested = (passed t.shv HardVectored _ untested).0

module _ (m : Meanings) (es : List Event) (sound : IsSoundDevice m) (from : ℕ) (d : Dispatcher) (bound : ℕ) (b : State) (start : Servicing) (at : ℕ) (p : Progress) (w : Watched) (n : ℕ) (st : StoodFrom m es from d bound b start at p w n) where
  abbrev s : Servicing
  s = st.state

  abbrev x : Rest
  x = st.rest

  abbrev steps_of : Turn → ℕ
  steps_of turn = steps_made (bound - n) (round_due m es (bound - n) p w turn).told

  module _ (runs : m.halted s.outside.device ≡ None) where
    entering : (t : Choice) → top s.outside.clic ≡ Some t → is_enter_due s (Some t) ≡ true → IsUntested s t → (j : ℕ) → j < 14 → Soft m es b (n + j)
    entering t is_top is_due untested j l =
        let walk = (enter_runs m d s x t st.related runs is_top is_due untested).walk in
        entering_walk m es b 13 j n s.bodies (board_of s x) (Interrupted s.pc t.id) _ st.stands (ap (λ (w : Walk). w.told) walk) refl (ap is_vectored is_top ∙ soft_choice s t untested) refl refl l

    leaving : (u : Leaves m es d s x (move m es s) false) → (j : ℕ) → j < 16 → Soft m es b (n + j)
    leaving u j l =
        let none : is_fused d LeaveMove (claims_above (top s.outside.clic) (innermost_level (marks u.others)) s.threshold) ≡ false = ap (is_fused d LeaveMove) (sym (claims_after m d s x st.related u.at_back u.innermost u.others u.is_live)) ∙ u.is_fused in
        let walk = leave_runs m d s x u.innermost u.others st.related runs u.is_live u.at_back u.calm none in
        retired_walk m es b 16 j n s.bodies (board_of s x) (leave_told d) st.stands (ap (λ (w : Walk). w.told) walk) refl refl l

    module _ (e : Entry) (u : Fuses m es d s x (move m es s) e) where
      related : Related m Looping s x
      related = subst (λ d. Related m d s x) (looping d _ u.leaves.is_fused) st.related

      five : (j : ℕ) → j < 5 → Soft m es b (n + j)
      five j l =
          let told = (five_runs m s x u.leaves.innermost u.leaves.others u.choice related runs u.leaves.is_live u.leaves.at_back u.is_top u.leaves.calm u.soft u.above).told in
          retired_walk m es b 5 j n s.bodies (board_of s x) five_told st.stands told refl refl l

      two : IsUntested (left s u.leaves.innermost u.leaves.others) u.choice → table_address s.table u.choice.id ≢ 0 → (j : ℕ) → j < 2 → Soft m es b (n + 5 + j)
      two untested away j l =
          let run = five_in_run m es b n s.bodies s x u.leaves.innermost u.leaves.others u.choice related runs u.leaves.is_live u.leaves.at_back u.is_top st.stands u.leaves.calm u.soft u.above in
          let at = mid_in_run m es b n s.bodies s x u.leaves.innermost u.leaves.others u.choice related runs u.leaves.is_live u.leaves.at_back u.is_top u.leaves.calm u.soft u.above away in
          let stands : chained_at m es b (n + 5) ≡ record { count = s.bodies; board = mid s x u.leaves.others u.choice } = run.stands ∙ ap (λ b. record { count = s.bodies; board = b }) at in
          let walk = two_runs m s x u.leaves.innermost u.leaves.others u.choice related runs u.leaves.is_live u.leaves.at_back u.is_top untested in
          retired_walk m es b 2 j (n + 5) s.bodies (mid s x u.leaves.others u.choice) two_told stands (ap (λ (w : Walk). w.told) walk) refl refl l

      seven : IsUntested (left s u.leaves.innermost u.leaves.others) u.choice → table_address s.table u.choice.id ≢ 0 → (j : ℕ) → j < 7 → Soft m es b (n + j)
      seven untested away j l =
          ⊎_elim
          (λ (k : j < 5). five j k)
          (λ (k : 5 ≤ j). let same : n + 5 + (j - 5) ≡ n + j = omega (arith, k) in subst (Soft m es b) same (two untested away (j - 5) (omega (arith, k, l))))
          (cases_lt j 5)

    calm : is_enter_due s (top s.outside.clic) ≡ false → Soft m es b n
    unfolding due is_enter_due
    calm e = soft_at m es b n s.bodies (board_of s x) st.stands (calm_soft m (board_of s x) runs e)

    by_turn : (turn : Turn) → TurnMeans m es d s x (move m es s) turn → (j : ℕ) → j < steps_of turn → Soft m es b (n + j)
    by_turn (Enter (Refused kind)) h j l = absurd (omega (arith, l))
    by_turn (Enter (Admitted frame)) (t, is_top, is_due, (frame_is, untested, made)) j l =
        let most = enter_most m es (bound - n) p w (nat_le 14 (bound - n)) frame refl in
        entering t is_top is_due untested j (omega (arith, l, most))
    by_turn Leave u j l =
        let most = leave_most m es (bound - n) p w (nat_le 16 (bound - n)) refl in
        leaving u j (omega (arith, l, most))
    by_turn (Fuse (Refused kind)) u j l =
        let most = parted_most m es (bound - n) p w (nat_le 5 (bound - n)) kind refl in
        five (Refused kind) u j (omega (arith, l, most))
    by_turn (Fuse (Admitted frame)) u j l =
        let most = fused_most m es (bound - n) p w (nat_le 7 (bound - n)) frame refl in
        seven (Admitted frame) u u.enters.1 (nonzero m es sound from d bound b start at p w n st runs (Admitted frame) u u.enters.1) j (omega (arith, l, most))
    by_turn (Body v) (quiet, is_body, is) j l =
        let most = verdict_most m es (bound - n) p w v in
        let same : n ≡ n + j = omega (arith, l, most) in
        subst (Soft m es b) same (calm quiet)

    running : (j : ℕ) → j < steps_of (judge_turn d p.board w) → Soft m es b (n + j)
    running =
        by_turn (judge_turn d p.board w)
        (subst (TurnMeans m es d s x (move m es s)) (sym (judge_is m es sound from d bound b start at p w n st)) (turn_means m es d s x st.related runs))

  halted_none : (j : ℕ) (foreground : Bool) → j < steps_made (bound - n) (halted_round foreground) → ⊥
  halted_none j true l = omega (arith, l)
  halted_none j false l = omega (arith, l)

  by_halt : (o : Option ℕ) → m.halted p.board.outside.device ≡ o → (j : ℕ) → j < steps_made (bound - n) (round_unless_halted m es d (bound - n) p w o).told → Soft m es b (n + j)
  by_halt (Some code) e j l = absurd (halted_none j (is_foreground w.live) l)
  by_halt None e j l = running (sym (same_halt m es sound from d bound b start at p w n st) ∙ e) j l

  -- no step of a round
  pub soft_round : (j : ℕ) → j < steps_made (bound - n) (round m es d (bound - n) p w).told → Soft m es b (n + j)
  unfolding round
  soft_round j l = by_halt (m.halted p.board.outside.device) refl j l
