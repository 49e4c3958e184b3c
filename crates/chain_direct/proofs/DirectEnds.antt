-- What the end of a chain with direct services says: its services, the state, and where the sink failed.
use Rattle.std.proofs.Common.{◌≡◌, ℕ, zero, suc, ◌+◌, ◌-◌, ◌<◌, ◌≤◌, Bool, true, false, List, [], ◌++◌, inl, inr, refl, sym, ap, ◌∙◌, subst, arith, append_assoc}
use Rattle.std.specs.Prelude.{◌⊎◌, IsTrue}
use Rattle.std.proofs.lemmas.List.{append-nil}
use Rattle.std.proofs.lemmas.Bool.{false≢true}
use Rattle.board_outside.specs.Sink.{SinkView, Writes}
use Rattle.board_outside.proofs.Writing.{then_writes, stops_writing}
use Rattle.device_model.specs.Meanings.{Meanings, IsSound as IsSoundDevice}
use Rattle.hart_report.specs.Text.{StopsAfter}
use Rattle.hart_report.proofs.Texts.{same_text}
use Rattle.hart_board.specs.State.{State}
use Rattle.hart_board.specs.Event.{with_events}
use Rattle.hart_board.specs.Steps.{board_at, GoesOnBefore}
use Rattle.hart_board.specs.declared.event.Event.{Event}
use Rattle.chain_core.specs.ChainRun.{is_body}
use Rattle.chain_core.specs.End.{services_within}
use Rattle.chain_core.specs.Progress.{Progress}
use Rattle.chain_core.specs.Chain.{is_whole, is_done}
use Rattle.chain_moves.specs.declared.dispatcher.Dispatcher.{Dispatcher}
use Rattle.chain_core.specs.declared.ended.Ended.{Ended}
use Rattle.chain_core.specs.declared.chain_end.ChainEnd.{ChainEnd}
use Rattle.chain_core.specs.declared.chain_end.ChainEnd.TheVariants.{Done, BudgetSpent, SinkFailed, Broken as BrokenOff}
use Rattle.chain_core.specs.declared.round.Round.{Round}
use Rattle.chain_core.specs.declared.round.Round.TheVariants.{Made, Failed, Ended as RoundEnded, Spent}
use Rattle.chain_core.proofs.ChainEnds.{agrees}
use Rattle.chain_direct.specs.DirectMoves.{direct_machine, direct_start}
use Rattle.chain_direct.specs.DirectText.{text_after, text_to, direct_end, direct_run, direct_board, direct_report}
use Rattle.chain_direct.specs.DirectWatched.{DirectWatched, nothing_direct}
use Rattle.chain_direct.specs.DirectChain.{begun_to, StopsInStep, StopsDirect, AgreesOver, AgreesWhereOver}
use Rattle.chain_direct.specs.DirectRounds.{direct_round}
use Rattle.chain_direct.proofs.DirectSoft.{text_more}
use Rattle.chain_direct.proofs.DirectStanding.{DirectStood, DirectFinal, DirectHalt, DirectMeans}
use Rattle.chain_direct.proofs.DirectRoundMeans.{direct_means}
use Rattle.chain_direct.proofs.DirectLoop.{direct_first}
use Rattle.chain_core.specs.Both.{Starts}

module _ (m : Meanings) (es : List Event) (sound : IsSoundDevice m) (from : ℕ) (d : Dispatcher) (bound : ℕ) (b : State) where
  -- how it ends, and what holds then
  pub record DirectEnds : Type 0 where
    pub end : ChainEnd
    pub steps : ℕ
    pub progress : Progress
    pub watch : DirectWatched
    pub whole : is_whole end ≡ true
    pub final : DirectFinal m es from d bound b end steps progress
    pub halt : IsTrue (is_done end) → DirectHalt m es from d bound b steps progress watch

  -- round by round
  ends_by : (fuel n : ℕ) (t : Round) (p : Progress) (w : DirectWatched) → ((k : ℕ) → DirectStood m es from d bound b p w k → bound - k < fuel → DirectEnds) → bound - n ≤ fuel → DirectMeans m es from d bound b n t p w → DirectEnds
  ends_by fuel n (Made k) p w next l (some, st) = next (n + k) st (omega (arith, l, some, st.within))
  ends_by fuel n (Failed kind k) p w next l f = record { end = BrokenOff kind p.bodies; steps = n + k; progress = p; watch = w; whole = refl; final = f; halt = λ no. absurd (false≢true no) }
  ends_by fuel n RoundEnded p w next l (f, h) = record { end = Done n p.bodies (p.services + w.begun); steps = n; progress = p; watch = w; whole = refl; final = f; halt = λ yes. h }
  ends_by fuel n Spent p w next l f = record { end = BudgetSpent; steps = bound; progress = p; watch = w; whole = refl; final = f; halt = λ no. absurd (false≢true no) }

  ends_in : (fuel : ℕ) (p : Progress) (w : DirectWatched) (n : ℕ) → DirectStood m es from d bound b p w n → bound - n ≤ fuel → DirectEnds
  ends_in zero p w n st l =
      let r = direct_round m es d (bound - n) p w in
      ends_by zero n r.told r.progress r.watch (λ k st l. absurd (omega arith)) l (direct_means m es sound from d bound b p w n st)
  ends_in (suc fuel) p w n st l =
      let r = direct_round m es d (bound - n) p w in
      ends_by (suc fuel) n r.told r.progress r.watch (λ k st l. ends_in fuel r.progress r.watch k st (omega arith)) l (direct_means m es sound from d bound b p w n st)

  ends : (p : Progress) (w : DirectWatched) → DirectStood m es from d bound b p w 0 → DirectEnds
  ends p w st = ends_in bound p w 0 st (omega arith)

  module _ (e : DirectEnds) where
    never_fails : is_whole (direct_end m es d bound b).end ≡ true
    never_fails = ap (λ (k : Ended). is_whole k.end) e.final.ends ∙ e.whole

    -- the services that are read off the board's run
    services_are : begun_to m es b (direct_end m es d bound b).steps ≡ services_within (direct_machine m es) d bound (direct_start m es b)
    services_are = ap (λ (k : Ended). begun_to m es b k.steps) e.final.ends ∙ e.final.services

    -- until there the board's run goes on
    goes_are : GoesOnBefore m is_body es b (direct_end m es d bound b).steps
    goes_are = subst (λ (k : Ended). GoesOnBefore m is_body es b k.steps) (sym e.final.ends) e.final.goes

    -- ---- the state
    board_is : e.progress.board ≡ direct_board m es d bound b
    board_is = ap (λ (q : Progress). q.board) e.final.progress ∙ ap (λ (k : Ended). board_at m is_body es b k.steps) (sym e.final.ends)

    halt_agrees : DirectHalt m es from d bound b e.steps e.progress e.watch → AgreesOver (direct_board m es d bound b) (direct_run m es bound b)
    halt_agrees h =
        subst (AgreesOver (direct_board m es d bound b)) (sym h.over)
        (agrees h.state.chained h.rest (direct_board m es d bound b) (sym board_is ∙ h.board) h.none h.related.stands.rom.at h.related.stands.ram.at)

    done_agrees : (end : ChainEnd) → (IsTrue (is_done end) → DirectHalt m es from d bound b e.steps e.progress e.watch) → AgreesWhereOver end (direct_board m es d bound b) (direct_run m es bound b)
    done_agrees (Done steps bodies services) h = halt_agrees (h refl)
    done_agrees BudgetSpent h = tt
    done_agrees (BrokenOff kind bodies) h = tt
    done_agrees SinkFailed h = tt

    state_is : AgreesWhereOver (direct_end m es d bound b).end (direct_board m es d bound b) (direct_run m es bound b)
    state_is = done_agrees (direct_end m es d bound b).end (λ done. e.halt (subst (λ (k : Ended). IsTrue (is_done k.end)) e.final.ends done))

-- ---- the text

module _ (m : Meanings) (es : List Event) (b : State) (trace : Bool) where
  -- what more steps add
  record Longer (n k : ℕ) : Type 0 where
    more : List ℕ
    is : text_to m es trace b (n + k) ≡ text_to m es trace b n ++ more

  longer : (n k : ℕ) → Longer n k
  longer n zero = record { more = []; is = (let none : n + 0 ≡ n = omega arith in ap (text_to m es trace b) none ∙ sym (append-nil (text_to m es trace b n))) }
  longer n (suc k) =
      let h = longer n k in
      let sum : n + suc k ≡ n + k + 1 = omega arith in
      record {
        more = h.more ++ text_after m es trace b (n + k);
        is = ap (text_to m es trace b) sum ∙ (text_more m es b trace (n + k) ∙ (ap (λ l. l ++ text_after m es trace b (n + k)) h.is ∙ append_assoc (text_to m es trace b n) h.more (text_after m es trace b (n + k))));
      }

  -- what was cut off in the steps is a front of the whole text
  pub cut_text : (d : Dispatcher) (bound : ℕ) (board : State) (o v : SinkView) (rest : List ℕ) → StopsInStep m es d trace bound b board o v → Writes false o v (text_to m es trace b (direct_end m es d bound b).steps ++ rest)
  cut_text d bound board o v rest h =
      let early = h.early in
      let n = (direct_end m es d bound b).steps in
      let g = longer (h.k + 1) (n - (h.k + 1)) in
      let split : h.k + 1 + (n - (h.k + 1)) ≡ n = omega (arith, early) in
      stops_writing rest
      (same_text (sym (ap (text_to m es trace b) (sym split) ∙ (g.is ∙ ap (λ l. l ++ g.more) (text_more m es b trace h.k))))
      (stops_writing g.more (then_writes h.whole h.broken)))

-- ---- from the start
direct_from : {m : Meanings} {es : List Event} (sound : IsSoundDevice m) {d : Dispatcher} (bound : ℕ) {b : State} → Starts m es d b → DirectEnds m es sound 0 d bound b
direct_from {m = m} {es = es} sound {d = d} bound {b = b} starts =
    let p : Progress = record { board = with_events m 0 es b; bodies = 0; depth = 0; services = 0 } in
    ends m es sound 0 d bound b p nothing_direct (direct_first sound p nothing_direct starts refl refl)

module _ {m : Meanings} {es : List Event} (sound : IsSoundDevice m) {d : Dispatcher} (bound : ℕ) {b : State} (starts : Starts m es d b) where
  pub never_failed : is_whole (direct_end m es d bound b).end ≡ true
  never_failed = never_fails m es sound 0 d bound b (direct_from sound bound starts)

  pub services_from : begun_to m es b (direct_end m es d bound b).steps ≡ services_within (direct_machine m es) d bound (direct_start m es b)
  services_from = services_are m es sound 0 d bound b (direct_from sound bound starts)

  pub goes_from : GoesOnBefore m is_body es b (direct_end m es d bound b).steps
  goes_from = goes_are m es sound 0 d bound b (direct_from sound bound starts)

  pub state_from : AgreesWhereOver (direct_end m es d bound b).end (direct_board m es d bound b) (direct_run m es bound b)
  state_from = state_is m es sound 0 d bound b (direct_from sound bound starts)

-- where the sink failed, that was in the report, or in the steps
pub stops_by : (m : Meanings) (es : List Event) (d : Dispatcher) (trace : Bool) (bound : ℕ) (b board : State) (o v : SinkView) → ((board ≡ direct_board m es d bound b) × StopsAfter o v (text_to m es trace b (direct_end m es d bound b).steps) (direct_report m es d bound b)) ⊎ StopsInStep m es d trace bound b board o v → StopsDirect m es d trace bound b board o v
stops_by m es d trace bound b board o v (inl h) = inl (record { board = h.0; text = h.1 })
stops_by m es d trace bound b board o v (inr h) = inr h
