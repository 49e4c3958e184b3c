-- What a chain's end says: its services, the state, and where the sink failed.
use Rattle.std.proofs.Common.{◌≡◌, ℕ, zero, suc, ◌+◌, ◌-◌, ◌<◌, ◌≤◌, Bool, true, false, List, [], inl, inr, refl, sym, ap, ◌∙◌, subst, arith}
use Rattle.std.specs.Prelude.{◌⊎◌, IsTrue, ◌++◌, slice_index, slice_index_or}
use Rattle.chain_moves.specs.Slot.{in_slot}
use Rattle.std.proofs.lemmas.Bool.{false≢true}
use Rattle.board_outside.specs.Sink.{SinkView, Writes}
use Rattle.board_outside.proofs.Writing.{then_writes, stops_writing}
use Rattle.device_model.specs.Meanings.{Meanings, IsSound as IsSoundDevice}
use Rattle.hart_report.specs.Text.{StopsAfter}
use Rattle.hart_report.proofs.Texts.{same_text}
use Rattle.hart_board.specs.State.{State}
use Rattle.hart_board.specs.Step.{step}
use Rattle.hart_board.specs.Run.{standing}
use Rattle.hart_board.specs.Steps.{stands_at, board_at, GoesOnBefore}
use Rattle.hart_board.specs.Event.{with_events}
use Rattle.chain_core.proofs.ChainLoop.{stood_first}
use Rattle.hart_board.specs.declared.event.Event.{Event}
use Rattle.chain_moves.specs.Servicing.{Servicing, marks, innermost_level}
use Rattle.chain_moves.specs.Moves.{servicing_machine}
use Rattle.chain_moves.specs.Enter.{takes_interrupts}
use Rattle.chain_moves.specs.Start.{begun}
use Rattle.chain_core.specs.End.{services_within}
use Rattle.chain_core.specs.ChainRun.{is_body, read_to}
use Rattle.chain_moves.specs.Watched.{Watched, nothing_watched}
use Rattle.chain_moves.specs.Beside.{Rest, board_of}
use Rattle.chain_core.specs.Progress.{Progress, goes, progress_at}
use Rattle.chain_core.specs.Text.{steps_text, Cut}
use Rattle.chain_core.specs.Rounds.{round}
use Rattle.chain_core.specs.Chain.{chain_end, machine_run, board_after, is_whole, steps_part, report_part, is_done, StopsInSteps, Stops, AgreesWith, AgreesAtEnd, AgreesWhereDone}
use Rattle.chain_moves.specs.declared.dispatcher.Dispatcher.{Dispatcher}
use Rattle.chain_core.specs.declared.ended.Ended.{Ended}
use Rattle.chain_core.specs.declared.chain_end.ChainEnd.{ChainEnd}
use Rattle.chain_core.specs.declared.chain_end.ChainEnd.TheVariants.{Done, BudgetSpent, SinkFailed, Broken as BrokenOff}
use Rattle.chain_core.specs.declared.round.Round.{Round}
use Rattle.chain_core.specs.declared.round.Round.TheVariants.{Made, Failed, Ended as RoundEnded, Spent}
use Rattle.chain_core.proofs.Told.{text_add}
use Rattle.chain_core.proofs.Added.{added_steps, as_cut}
use Rattle.chain_core.proofs.Standing.{Stood, Final, AtHalt, RoundMeans}
use Rattle.chain_core.proofs.RoundMeans.{round_means}
use Rattle.chain_core.specs.Both.{Starts}

-- a board that stands beside a state in which no service is live agrees with it
pub agrees : (s : Servicing) (x : Rest) (board : State) → board ≡ board_of s x → s.live ≡ [] → ((j : ℕ) → in_slot j ≡ false → slice_index x.rom j ≡ slice_index s.memory.rom j) → ((j : ℕ) → slice_index_or s.dead j false ≡ false → slice_index x.ram j ≡ slice_index s.memory.ram j) → AgreesWith board s
unfolding marks
agrees s x board is none rom ram =
    let empty : marks s.live ≡ [] = ap marks none in
    record {
      registers = ap (λ (b : State). b.registers) is;
      pc = ap (λ (b : State). b.pc) is;
      outside = ap (λ (b : State). b.outside) is;
      rom = λ j o. ap (λ (b : State). slice_index b.memory.rom j) is ∙ rom j o;
      ram = λ j o. ap (λ (b : State). slice_index b.memory.ram j) is ∙ ram j o;
      mie = ap (λ (b : State). b.csrs.mie) is ∙ ap (λ l. takes_interrupts l s.on) empty;
      mpie = ap (λ (b : State). b.csrs.mpie) is;
      threshold = ap (λ (b : State). b.csrs.th) is;
      table = ap (λ (b : State). b.csrs.mtvt) is;
      vector = ap (λ (b : State). b.csrs.mtvec_base) is;
      scratch = ap (λ (b : State). b.csrs.mscratch) is;
      level = ap (λ (b : State). b.csrs.mil) is ∙ ap innermost_level empty;
    }

module _ (m : Meanings) (es : List Event) (sound : IsSoundDevice m) (from : ℕ) (d : Dispatcher) (bound : ℕ) (b : State) where
  -- how it ends, and what holds then
  pub record Ends : Type 0 where
    pub end : ChainEnd
    pub steps : ℕ
    pub progress : Progress
    pub watch : Watched
    pub whole : is_whole end ≡ true
    pub final : Final m es from d bound b end steps progress
    pub halt : IsTrue (is_done end) → AtHalt m es from d bound b progress watch

  -- round by round
  ends_by : (fuel n : ℕ) (t : Round) (p : Progress) (w : Watched) → ((k : ℕ) → Stood m es from d bound b p w k → bound - k < fuel → Ends) → bound - n ≤ fuel → RoundMeans m es from d bound b n t p w → Ends
  ends_by fuel n (Made k) p w next l (some, st) = next (n + k) st (omega (arith, l, some, st.within))
  ends_by fuel n (Failed kind k) p w next l f = record { end = BrokenOff kind p.bodies; steps = n + k; progress = p; watch = w; whole = refl; final = f; halt = λ no. absurd (false≢true no) }
  ends_by fuel n RoundEnded p w next l (f, h) = record { end = Done n p.bodies p.services; steps = n; progress = p; watch = w; whole = refl; final = f; halt = λ yes. h }
  ends_by fuel n Spent p w next l f = record { end = BudgetSpent; steps = bound; progress = p; watch = w; whole = refl; final = f; halt = λ no. absurd (false≢true no) }

  ends_in : (fuel : ℕ) (p : Progress) (w : Watched) (n : ℕ) → Stood m es from d bound b p w n → bound - n ≤ fuel → Ends
  ends_in zero p w n st l =
      let r = round m es d (bound - n) p w in
      ends_by zero n r.told r.progress r.watch (λ k st l. absurd (omega arith)) l (round_means m es sound from d bound b p w n st)
  ends_in (suc fuel) p w n st l =
      let r = round m es d (bound - n) p w in
      ends_by (suc fuel) n r.told r.progress r.watch (λ k st l. ends_in fuel r.progress r.watch k st (omega arith)) l (round_means m es sound from d bound b p w n st)

  pub ends : (p : Progress) (w : Watched) → Stood m es from d bound b p w 0 → Ends
  ends p w st = ends_in bound p w 0 st (omega arith)

  module _ (e : Ends) where
    pub never_fails : is_whole (chain_end m es d bound b).end ≡ true
    never_fails = ap (λ (k : Ended). is_whole k.end) e.final.ends ∙ e.whole

    -- the services that are read off the board's run
    pub services_are : (read_to m es b (chain_end m es d bound b).steps).services ≡ services_within (servicing_machine m es) d bound (begun m es b)
    services_are = ap (λ (k : Ended). (read_to m es b k.steps).services) e.final.ends ∙ e.final.services

    -- until there the board's run goes on
    pub goes_are : GoesOnBefore m is_body es b (chain_end m es d bound b).steps
    goes_are = subst (λ (k : Ended). GoesOnBefore m is_body es b k.steps) (sym e.final.ends) e.final.goes

    -- ---- the state
    board_is : e.progress.board ≡ board_after m es d bound b
    board_is = ap (λ (q : Progress). q.board) e.final.progress ∙ ap (λ (k : Ended). board_at m is_body es b k.steps) (sym e.final.ends)

    halt_agrees : AtHalt m es from d bound b e.progress e.watch → AgreesAtEnd (board_after m es d bound b) (machine_run m es bound b)
    halt_agrees h =
        subst (AgreesAtEnd (board_after m es d bound b)) (sym h.over)
        (agrees h.state h.rest (board_after m es d bound b) (sym board_is ∙ h.board) h.none h.related.stands.rom.at h.related.stands.ram.at)

    done_agrees : (end : ChainEnd) → (IsTrue (is_done end) → AtHalt m es from d bound b e.progress e.watch) → AgreesWhereDone end (board_after m es d bound b) (machine_run m es bound b)
    done_agrees (Done steps bodies services) h = halt_agrees (h refl)
    done_agrees BudgetSpent h = tt
    done_agrees (BrokenOff kind bodies) h = tt
    done_agrees SinkFailed h = tt

    pub state_is : AgreesWhereDone (chain_end m es d bound b).end (board_after m es d bound b) (machine_run m es bound b)
    state_is = done_agrees (chain_end m es d bound b).end (λ done. e.halt (subst (λ (k : Ended). IsTrue (is_done k.end)) e.final.ends done))

-- ---- the states that are kept

kept_standing : (m : Meanings) (es : List Event) (count : ℕ) (new : State) (rises : Bool) → (standing m es count new rises).board.kept ≡ new.kept
unfolding with_events
kept_standing m es count new true = refl
kept_standing m es count new false = refl

kept_at : (m : Meanings) (es : List Event) (b : State) → ((s : State) → (step m s).state.kept ≡ s.kept) → (k : ℕ) → (board_at m is_body es b k).kept ≡ b.kept
unfolding stands_at with_events
kept_at m es b stays zero = refl
kept_at m es b stays (suc k) =
    let at = stands_at m is_body es b k in
    let turn = step m at.board in
    kept_standing m es at.count turn.state (is_body turn.told) ∙ (stays at.board ∙ kept_at m es b stays k)

pub kept_after : (m : Meanings) (es : List Event) (b new : State) (k : ℕ) → ((s : State) → (step m s).state.kept ≡ s.kept) → new ≡ board_at m is_body es b k → new.kept ≡ b.kept
kept_after m es b new k stays e = ap (λ (b : State). b.kept) e ∙ kept_at m es b stays k

-- ---- the text

-- what was cut off in the steps is a front of the whole text
pub cut_text : (m : Meanings) (es : List Event) (trace : Bool) (n : ℕ) (p q : Progress) (o v : SinkView) (rest : List ℕ) → Cut m es trace n p q o v → Writes false o v (steps_text m es trace n p ++ rest)
unfolding steps_text
cut_text m es trace n p q o v rest h =
    let more = n - (h.k + 1) in
    let split : h.k + suc more ≡ n = let early = h.early in omega (arith, early) in
    stops_writing rest
    (same_text (sym (text_add m es trace h.k (suc more) p) ∙ ap (λ i. steps_text m es trace i p) split)
    (then_writes h.whole (stops_writing _ h.broken)))

pub stopped_text : {m : Meanings} {es : List Event} {d : Dispatcher} {trace : Bool} {bound : ℕ} {b board : State} {o v : SinkView} (rest : List ℕ) → StopsInSteps m es d trace bound b board o v → Writes false o v (steps_part m es d trace bound b ++ rest)
stopped_text {m = m} {es = es} {d = d} {trace = trace} {bound = bound} {b = b} {o = o} {v = v} rest h =
    let n = (chain_end m es d bound b).steps in
    same_text (ap (λ t. t ++ rest) (sym (added_steps m es trace b n)))
    (cut_text m es trace n (progress_at m es b 0) (goes m es (h.k + 1) (progress_at m es b 0)) o v rest (as_cut m es trace b h))

-- ---- from the start
pub ends_from : {m : Meanings} {es : List Event} (sound : IsSoundDevice m) {d : Dispatcher} (bound : ℕ) {b : State} → Starts m es d b → Ends m es sound 0 d bound b
ends_from {m = m} {es = es} sound {d = d} bound {b = b} starts =
    let p : Progress = record { board = with_events m 0 es b; bodies = 0; depth = 0; services = 0 } in
    ends m es sound 0 d bound b p nothing_watched (stood_first sound p nothing_watched starts refl refl)

module _ {m : Meanings} {es : List Event} (sound : IsSoundDevice m) {d : Dispatcher} (bound : ℕ) {b : State} (starts : Starts m es d b) where
  pub never_failed : is_whole (chain_end m es d bound b).end ≡ true
  never_failed = never_fails m es sound 0 d bound b (ends_from sound bound starts)

  pub services_from : (read_to m es b (chain_end m es d bound b).steps).services ≡ services_within (servicing_machine m es) d bound (begun m es b)
  services_from = services_are m es sound 0 d bound b (ends_from sound bound starts)

  pub goes_from : GoesOnBefore m is_body es b (chain_end m es d bound b).steps
  goes_from = goes_are m es sound 0 d bound b (ends_from sound bound starts)

  pub state_from : AgreesWhereDone (chain_end m es d bound b).end (board_after m es d bound b) (machine_run m es bound b)
  state_from = state_is m es sound 0 d bound b (ends_from sound bound starts)

-- where the sink failed, that was in the report, or in the steps
pub stops_by : (m : Meanings) (es : List Event) (d : Dispatcher) (trace : Bool) (bound : ℕ) (b board : State) (o v : SinkView) → ((board ≡ board_after m es d bound b) × StopsAfter o v (steps_part m es d trace bound b) (report_part m es d bound b)) ⊎ StopsInSteps m es d trace bound b board o v → Stops m es d trace bound b board o v
stops_by m es d trace bound b board o v (inl h) = inl (record { board = h.0; text = h.1 })
stops_by m es d trace bound b board o v (inr h) = inr h
