-- The loop of a chain with direct services: where it begins, what a round adds, and what its end says.
use Rattle.std.proofs.Common.{◌≡◌, ℕ, zero, suc, ◌+◌, ◌-◌, ◌^◌, ◌<◌, ◌≤◌, ◌==◌, Bool, true, false, List, [], length, refl, sym, ap, ap₂, ◌∙◌, subst, arith}
use Rattle.std.proofs.lemmas.List.{length-append}
use Rattle.board_outside.specs.Sink.{SinkView, Writes}
use Rattle.device_model.specs.Meanings.{Meanings, IsSound as IsSoundDevice}
use Rattle.hart_report.proofs.Texts.{same_text}
use Rattle.hart_report.specs.declared.stepped.Stepped.{Stepped}
use Rattle.hart_report.specs.declared.stepped.Stepped.TheVariants.{Retired, Interrupted, Raised, Halted, VectorFault}
use Rattle.clic_select.specs.Top.{top}
use Rattle.hart_board.specs.State.{State}
use Rattle.hart_board.specs.Event.{AreEventsFrom, with_events}
use Rattle.hart_board.specs.Step.{step}
use Rattle.hart_board.specs.Run.{Stand}
use Rattle.hart_board.specs.Steps.{board_at}
use Rattle.hart_board.specs.declared.event.Event.{Event}
use Rattle.chain_moves.specs.Slot.{call}
use Rattle.chain_moves.specs.Cost.{cost}
use Rattle.chain_moves.specs.Start.{begun}
use Rattle.chain_core.specs.ChainRun.{is_body, Read, nothing_read, read_to}
use Rattle.chain_moves.specs.Watched.{Watched}
use Rattle.chain_core.specs.Progress.{Progress, progress_of, progress_at, HasRoom}
use Rattle.chain_core.specs.Rounds.{Rounded, steps_made}
use Rattle.chain_core.specs.declared.course.Course.{Course}
use Rattle.chain_moves.specs.declared.dispatcher.Dispatcher.{Dispatcher}
use Rattle.chain_core.specs.declared.ended.Ended.{Ended}
use Rattle.chain_core.specs.declared.chain_end.ChainEnd.{ChainEnd}
use Rattle.chain_core.specs.declared.round.Round.{Round}
use Rattle.chain_moves.proofs.Begun.{rest_of, start_is, start_related, begun_inputs}
use Rattle.chain_core.proofs.Bounded.{steps_within}
use Rattle.chain_core.proofs.BodyRuns.{starts_run}
use Rattle.chain_moves.proofs.Watching.{begun_watched}
use Rattle.chain_core.proofs.Standing.{at_most}
use Rattle.chain_direct.specs.Directed.{beside_none, all_chained}
use Rattle.chain_direct.specs.DirectMoves.{direct_machine, direct_start}
use Rattle.chain_direct.specs.DirectRun.{is_vectored, called, entered_directly, begins_by, begins_after}
use Rattle.chain_direct.specs.DirectText.{text_to, direct_end, direct_run, dead_in_run, direct_board}
use Rattle.chain_direct.specs.DirectWatched.{DirectWatched, nothing_direct}
use Rattle.chain_direct.specs.DirectChain.{begun_to, StopsInStep}
use Rattle.chain_direct.specs.DirectRounds.{hard_due, direct_round, IsDirectMade}
use Rattle.chain_direct.proofs.DirectSoft.{begun_next}
use Rattle.chain_direct.proofs.DirectStanding.{DirectStood, DirectFinal, DirectHalt, DirectMeans, DirectSays, direct_within}
use Rattle.chain_direct.proofs.DirectRoundMeans.{direct_means, direct_told, direct_cut}
use Rattle.chain_core.specs.declared.chain_end.ChainEnd.TheVariants.{Done, BudgetSpent, Broken as BrokenOff}
use Rattle.chain_core.specs.declared.round.Round.TheVariants.{Made, Failed, Ended as RoundEnded, Spent}
use Rattle.std.specs.Prelude.{Ok, Err, IsTrue}
use Rattle.std.proofs.lemmas.Bool.{false≢true}
use Rattle.chain_core.specs.Both.{Starts}
use Rattle.chain_core.specs.Chain.{is_done}
use Rattle.chain_core.specs.Closing.{ComesTo, EndsRound}

-- ---- no more services begin than steps are made

called_most : (depth : ℕ) (new : State) (at_call : Bool) → length (called depth new at_call) ≤ 1
called_most depth new true = omega arith
called_most depth new false = omega arith

direct_most : (depth : ℕ) (new : State) (id : ℕ) (hard : Bool) → length (entered_directly depth new id hard) ≤ 1
direct_most depth new id true = omega arith
direct_most depth new id false = omega arith

begins_most : (depth : ℕ) (old new : State) (told : Stepped) → length (begins_by depth old new told) ≤ 1
begins_most depth old new (Retired pc bits size) = called_most depth new (pc == call)
begins_most depth old new (Interrupted pc id) = direct_most depth new id (is_vectored (top old.outside.clic))
begins_most depth old new (Raised pc code) = omega arith
begins_most depth old new (Halted code) = omega arith
begins_most depth old new (VectorFault id) = omega arith

after_most : (m : Meanings) (es : List Event) (b : State) (k : ℕ) → length (begins_after m es b k) ≤ 1
unfolding begins_after
after_most m es b k =
    let at = board_at m is_body es b k in
    begins_most (read_to m es b k).depth at (step m at).state (step m at).told

none_first : (m : Meanings) (es : List Event) (b : State) → begun_to m es b 0 ≡ []
unfolding begun_to
none_first m es b = refl

begun_most : (m : Meanings) (es : List Event) (b : State) (k : ℕ) → length (begun_to m es b k) ≤ k
begun_most m es b zero = let e = ap length (none_first m es b) in omega (arith, e)
begun_most m es b (suc k) =
    let e = ap length (begun_next m es b k) ∙ length-append (begun_to m es b k) (begins_after m es b k) in
    omega (arith, e, begun_most m es b k, after_most m es b k)

-- ---- the start

no_cost : (m : Meanings) (es : List Event) (d : Dispatcher) → cost (direct_machine m es) d [] ≡ 0
unfolding cost
no_cost m es d = refl

nothing_yet : (m : Meanings) (es : List Event) (b : State) → nothing_read ≡ record { depth = length (begun m es b).live; services = (begun m es b).services }
unfolding begun
nothing_yet m es b = refl

none_listed : (m : Meanings) (es : List Event) (b : State) → (beside_none (begun m es b)).services ≡ []
unfolding begun all_chained
none_listed m es b = refl

none_chained : (m : Meanings) (es : List Event) (b : State) → (begun m es b).services ≡ []
unfolding begun
none_chained m es b = refl

no_bodies : (m : Meanings) (es : List Event) (b : State) → (begun m es b).bodies ≡ 0
unfolding begun
no_bodies m es b = refl

-- how the rounds come to the end of the chain
abbrev Comes : Meanings → List Event → Dispatcher → Bool → ℕ → State → Ended → State → List Bool → SinkView → SinkView → Type 0
Comes m es d trace bound b ended board dead o v = ComesTo (direct_end m es d bound b) (direct_board m es d bound b) (dead_in_run (direct_run m es bound b)) (text_to m es trace b (direct_end m es d bound b).steps) ended board dead o v

module _ {m : Meanings} {es : List Event} (sound : IsSoundDevice m) {d : Dispatcher} {bound : ℕ} {b : State} where
  pub direct_first : (p : Progress) (w : DirectWatched) → Starts m es d b → p ≡ record { board = with_events m 0 es b; bodies = 0; depth = 0; services = 0 } → w ≡ nothing_direct → DirectStood m es 0 d bound b p w 0
  direct_first p w starts now new =
      let first = starts_run m es b in
      let stands = first.stands ∙ ap₂ (λ c b. record { count = c; board = b }) (sym (no_bodies m es b)) (sym (start_is m es b starts.level)) in
      let begun_none : w.begun ≡ 0 = ap (λ (w : DirectWatched). w.begun) new in
      let one = ap length (none_chained m es b) in
      let two = ap length (none_listed m es b) in
      record {
        made = [];
        state = beside_none (begun m es b);
        rest = rest_of b;
        leads = refl;
        costs = no_cost m es d;
        whole = refl;
        within = omega arith;
        beside = (start_related m es d sound b 0 starts.events starts.valid starts.has, stands, ap (λ (w : DirectWatched). w.kept) new);
        count = ap (λ (q : Stand). q.count) stands;
        events = subst (λ i. AreEventsFrom i 0 es) (sym (begun_inputs m es b)) starts.events;
        read = first.read ∙ nothing_yet m es b;
        goes = first.goes;
        listed = none_first m es b ∙ sym (none_listed m es b);
        counted = omega (arith, begun_none, one, two);
        progress = now ∙ sym (ap₂ (λ (q : Stand) (r : Read). record { board = q.board; bodies = q.count; depth = r.depth; services = length r.services }) first.stands first.read);
        watch = ap (λ (w : DirectWatched). w.chained) new ∙ sym (begun_watched m es b);
      }

  -- there is room for as many steps as are left
  pub direct_room : {w : DirectWatched} {n : ℕ} (board : State) (c : Course) → bound < 2 ^ 64 → DirectStood m es 0 d bound b (progress_of board c) w n → HasRoom c (bound - n)
  direct_room {n = n} board c l st =
      let most = at_most m es b n in
      let bodies : c.bodies ≡ (progress_at m es b n).bodies = ap (λ (q : Progress). q.bodies) st.progress in
      let depth : c.depth ≡ (progress_at m es b n).depth = ap (λ (q : Progress). q.depth) st.progress in
      let services : c.services ≡ (progress_at m es b n).services = ap (λ (q : Progress). q.services) st.progress in
      let within = st.within in
      (omega (arith, bodies, most.0, within, l), omega (arith, depth, most.1, within, l), omega (arith, services, most.2, within, l))

  pub begun_room : {p : Progress} {w : DirectWatched} {n : ℕ} → bound < 2 ^ 64 → DirectStood m es 0 d bound b p w n → w.begun + (bound - n) < 2 ^ 64
  begun_room {p = p} {n = n} l st =
      let most = begun_most m es b n in
      let all = ap length st.listed in
      let chained : p.services ≡ length st.state.chained.services = ap (λ (q : Progress). q.services) st.progress ∙ ap (λ (r : Read). length r.services) st.read in
      let c = st.counted in
      let within = st.within in
      omega (arith, most, all, chained, c, within, l)

  pub done_room : {n : ℕ} {p : Progress} {w : DirectWatched} → bound < 2 ^ 64 → n ≤ bound → DirectHalt m es 0 d bound b n p w → p.services + w.begun < 2 ^ 64
  done_room {n = n} l within h = let most = begun_most m es b n in let many = h.many in omega (arith, most, many, within, l)

  module _ {trace : Bool} {p q : Progress} {w w' : DirectWatched} {n : ℕ} {u v : SinkView} {E : Type 0} (st : DirectStood m es 0 d bound b p w n) where
    -- what a round came to that the code made
    pub means : {t : Round} → IsDirectMade {E = E} m es trace (bound - n) w.kept (hard_due m p.board) (direct_round m es d (bound - n) p w) (Ok t) p q w' u v → DirectMeans m es 0 d bound b n t q w'
    means made = subst (DirectSays m es 0 d bound b n) (sym made.round) (direct_means m es sound 0 d bound b p w n st)

    module _ {o : SinkView} (before : Writes true o u (text_to m es trace b n)) where
      -- the text so far, and that of the round
      pub told_on : {t : Round} → IsDirectMade {E = E} m es trace (bound - n) w.kept (hard_due m p.board) (direct_round m es d (bound - n) p w) (Ok t) p q w' u v → Writes true o v (text_to m es trace b (n + steps_made (bound - n) t))
      told_on made =
          subst (λ (r : Rounded DirectWatched). Writes true o v (text_to m es trace b (n + steps_made (bound - n) r.told))) (sym made.round)
          (direct_told m es sound 0 d bound b p w n st trace q o u v before made.tells)

      -- the sink failed in it: within the steps of the chain
      pub stops_in : {fault : E} → IsDirectMade m es trace (bound - n) w.kept (hard_due m p.board) (direct_round m es d (bound - n) p w) (Err fault) p q w' u v → StopsInStep m es d trace bound b q.board o v
      stops_in made =
          let r = direct_round m es d (bound - n) p w in
          let c = direct_cut m es sound 0 d bound b p w n st trace q o u v before made.tells in
          let early = c.early in
          let all = direct_within m es 0 d bound b n r.told r.progress r.watch st.within (direct_means m es sound 0 d bound b p w n st) in
          record {
            k = c.k;
            early = omega (arith, early, all);
            board = c.board_is;
            between = c.between;
            whole = c.whole;
            broken = c.broken;
          }

      -- ---- at the end
      comes : {t : Round} (end : ChainEnd) (steps : ℕ) → IsDirectMade {E = E} m es trace (bound - n) w.kept (hard_due m p.board) (direct_round m es d (bound - n) p w) (Ok t) p q w' u v → n + steps_made (bound - n) t ≡ steps → DirectFinal m es 0 d bound b end steps q → (IsTrue (is_done end) → w'.chained.dead ≡ dead_in_run (direct_run m es bound b)) → Comes m es d trace bound b (record { end = end; steps = steps }) q.board w'.chained.dead o v
      comes end steps made same f dead = record {
        ends = sym f.ends;
        stands = ap (λ (q : Progress). q.board) f.progress ∙ ap (λ (e : Ended). board_at m is_body es b e.steps) (sym f.ends);
        hides = dead;
        told = same_text (ap (text_to m es trace b) (same ∙ sym (ap (λ (e : Ended). e.steps) f.ends))) (told_on made);
      }

      comes_by : (t : Round) → IsDirectMade {E = E} m es trace (bound - n) w.kept (hard_due m p.board) (direct_round m es d (bound - n) p w) (Ok t) p q w' u v → DirectMeans m es 0 d bound b n t q w' → (ended : Ended) → EndsRound bound n q.bodies (q.services + w'.begun) t ended → Comes m es d trace bound b ended q.board w'.chained.dead o v
      comes_by (Made k) made f ended e = absurd e
      comes_by (Failed kind k) made f ended e = subst (λ ended. Comes m es d trace bound b ended q.board w'.chained.dead o v) (sym e) (comes (BrokenOff kind q.bodies) (n + k) made refl f (λ no. absurd (false≢true no)))
      comes_by RoundEnded made (f, h) ended e = subst (λ ended. Comes m es d trace bound b ended q.board w'.chained.dead o v) (sym e) (comes (Done n q.bodies (q.services + w'.begun)) n made (omega arith) f (λ done. ap (λ (w : Watched). w.dead) h.watch ∙ sym (ap dead_in_run h.over)))
      comes_by Spent made f ended e = subst (λ ended. Comes m es d trace bound b ended q.board w'.chained.dead o v) (sym e) (comes BudgetSpent bound made (omega (arith, st.within)) f (λ no. absurd (false≢true no)))

      pub comes_to : {t : Round} (ended : Ended) → IsDirectMade {E = E} m es trace (bound - n) w.kept (hard_due m p.board) (direct_round m es d (bound - n) p w) (Ok t) p q w' u v → EndsRound bound n q.bodies (q.services + w'.begun) t ended → Comes m es d trace bound b ended q.board w'.chained.dead o v
      comes_to {t = t} ended made e = comes_by t made (means made) ended e

  pub final_within : {end : ChainEnd} {steps : ℕ} {p : Progress} → DirectFinal m es 0 d bound b end steps p → steps ≤ bound
  final_within {steps = steps} f =
      let e : (direct_end m es d bound b).steps ≡ steps = ap (λ (e : Ended). e.steps) f.ends in
      let l = steps_within (direct_machine m es) d (direct_start m es b) bound in
      omega (arith, e, l)

pub no_text : (m : Meanings) (es : List Event) (b : State) (trace : Bool) → text_to m es trace b 0 ≡ []
unfolding text_to
no_text m es b trace = refl
