-- The loop of a chain: where it begins, what a round adds, and what its end says.
use Rattle.std.proofs.Common.{◌≡◌, ℕ, ◌+◌, ◌-◌, ◌^◌, ◌<◌, ◌≤◌, Bool, true, false, List, [], length, refl, sym, ap, ap₂, ◌∙◌, subst, arith}
use Rattle.board_outside.specs.Sink.{SinkView}
use Rattle.device_model.specs.Meanings.{Meanings, IsSound as IsSoundDevice}
use Rattle.hart_report.proofs.Texts.{same_text}
use Rattle.hart_board.specs.State.{State}
use Rattle.hart_board.specs.Event.{AreEventsFrom, with_events}
use Rattle.hart_board.specs.Run.{Stand}
use Rattle.hart_board.specs.Steps.{board_at}
use Rattle.hart_board.specs.declared.event.Event.{Event}
use Rattle.chain_core.specs.End.{end_at}
use Rattle.chain_moves.specs.Moves.{servicing_machine}
use Rattle.chain_moves.specs.Cost.{cost}
use Rattle.chain_moves.specs.Start.{begun}
use Rattle.chain_core.specs.ChainRun.{is_body, Read, nothing_read}
use Rattle.chain_moves.specs.Watched.{Watched, nothing_watched}
use Rattle.chain_core.specs.Progress.{Progress, progress_of, progress_at, HasRoom}
use Rattle.chain_core.specs.Text.{next_text, steps_text, Tells}
use Rattle.chain_core.specs.Rounds.{Rounded, round, steps_made, IsMade}
use Rattle.chain_core.specs.Chain.{chain_end, dead_in, dead_at, board_after, steps_part, is_done, StopsInSteps}
use Rattle.chain_core.specs.declared.course.Course.{Course}
use Rattle.chain_moves.specs.declared.dispatcher.Dispatcher.{Dispatcher}
use Rattle.chain_core.specs.declared.ended.Ended.{Ended}
use Rattle.chain_core.specs.declared.chain_end.ChainEnd.{ChainEnd}
use Rattle.chain_core.specs.declared.round.Round.{Round}
use Rattle.chain_moves.proofs.Begun.{rest_of, start_is, start_related, begun_inputs}
use Rattle.chain_core.proofs.Bounded.{steps_within}
use Rattle.chain_core.proofs.BodyRuns.{starts_run}
use Rattle.chain_moves.proofs.Watching.{begun_watched}
use Rattle.chain_core.proofs.Told.{then_told, within_more}
use Rattle.chain_core.proofs.Added.{added_next, from_start, added_steps}
use Rattle.chain_core.proofs.Standing.{at_most, Stood, Final, RoundMeans, Means, made_within}
use Rattle.chain_core.proofs.RoundMeans.{round_means}
use Rattle.chain_core.specs.declared.chain_end.ChainEnd.TheVariants.{Done, BudgetSpent, Broken as BrokenOff}
use Rattle.chain_core.specs.declared.round.Round.TheVariants.{Made, Failed, Ended as RoundEnded, Spent}
use Rattle.std.specs.Prelude.{Ok, Err, IsTrue}
use Rattle.std.proofs.lemmas.Bool.{false≢true}
use Rattle.chain_core.specs.Both.{Starts}
use Rattle.chain_core.specs.Closing.{ComesTo, EndsRound}

-- the machine begins with no body, no service and nothing read off
nothing_yet : (m : Meanings) (es : List Event) (b : State) → nothing_read ≡ record { depth = length (begun m es b).live; services = (begun m es b).services }
unfolding begun
nothing_yet m es b = refl

no_bodies : (m : Meanings) (es : List Event) (b : State) → (begun m es b).bodies ≡ 0
unfolding begun
no_bodies m es b = refl

no_cost : (m : Meanings) (es : List Event) (d : Dispatcher) → cost (servicing_machine m es) d [] ≡ 0
unfolding cost
no_cost m es d = refl

-- how the rounds come to the end of the chain
abbrev Comes : Meanings → List Event → Dispatcher → Bool → ℕ → State → Ended → State → List Bool → SinkView → SinkView → Type 0
Comes m es d trace bound b ended board dead o v = ComesTo (chain_end m es d bound b) (board_after m es d bound b) (dead_at m es bound b) (steps_part m es d trace bound b) ended board dead o v

module _ {m : Meanings} {es : List Event} (sound : IsSoundDevice m) {d : Dispatcher} {bound : ℕ} {b : State} where
  pub stood_first : (p : Progress) (w : Watched) → Starts m es d b → p ≡ record { board = with_events m 0 es b; bodies = 0; depth = 0; services = 0 } → w ≡ nothing_watched → Stood m es 0 d bound b p w 0
  stood_first p w starts now new =
      let first = starts_run m es b in
      record {
        made = [];
        state = begun m es b;
        rest = rest_of b;
        leads = refl;
        costs = (let none = no_cost m es d in omega (arith, none));
        whole = refl;
        within = omega arith;
        related = start_related m es d sound b 0 starts.events starts.valid starts.has;
        events = subst (λ i. AreEventsFrom i 0 es) (sym (begun_inputs m es b)) starts.events;
        stands = first.stands ∙ ap₂ (λ c b. record { count = c; board = b }) (sym (no_bodies m es b)) (sym (start_is m es b starts.level));
        read = first.read ∙ nothing_yet m es b;
        goes = first.goes;
        progress = now ∙ sym (ap₂ (λ (q : Stand) (r : Read). record { board = q.board; bodies = q.count; depth = r.depth; services = length r.services }) first.stands first.read);
        watch = new ∙ sym (begun_watched m es b);
      }

  -- there is room for as many steps as are left
  pub has_room : {w : Watched} {n : ℕ} (board : State) (c : Course) → bound < 2 ^ 64 → Stood m es 0 d bound b (progress_of board c) w n → HasRoom c (bound - n)
  has_room {n = n} board c l st =
      let most = at_most m es b n in
      let bodies : c.bodies ≡ (progress_at m es b n).bodies = ap (λ (q : Progress). q.bodies) st.progress in
      let depth : c.depth ≡ (progress_at m es b n).depth = ap (λ (q : Progress). q.depth) st.progress in
      let services : c.services ≡ (progress_at m es b n).services = ap (λ (q : Progress). q.services) st.progress in
      (omega (arith, bodies, most.0, st.within, l), omega (arith, depth, most.1, st.within, l), omega (arith, services, most.2, st.within, l))

  module _ {trace : Bool} {p q : Progress} {w w' : Watched} {n : ℕ} {u v : SinkView} {E : Type 0} (st : Stood m es 0 d bound b p w n) where
    -- what a round came to that the code made
    pub means : {t : Round} → IsMade {E = E} m es trace (bound - n) (round m es d (bound - n) p w) (Ok t) p q w' u v → RoundMeans m es 0 d bound b n t q w'
    means made = subst (Means m es 0 d bound b n) (sym made.round) (round_means m es sound 0 d bound b p w n st)

    module _ {o : SinkView} (told : Tells m es trace n true (progress_at m es b 0) p o u) where
      -- the text so far, and that of the round
      pub told_on : {t : Round} → IsMade {E = E} m es trace (bound - n) (round m es d (bound - n) p w) (Ok t) p q w' u v → Tells m es trace (n + steps_made (bound - n) t) true (progress_at m es b 0) q o v
      told_on made =
          subst (λ (r : Rounded Watched). Tells m es trace (n + steps_made (bound - n) r.told) true (progress_at m es b 0) q o v) (sym made.round)
          (then_told m es trace n (steps_made (bound - n) (round m es d (bound - n) p w).told) true (progress_at m es b 0) p q o u v told made.tells)

      -- the sink failed in it: within the steps of the chain, and the board stands in its own run
      pub stops_in : {fault : E} → IsMade m es trace (bound - n) (round m es d (bound - n) p w) (Err fault) p q w' u v → StopsInSteps m es d trace bound b q.board o v
      stops_in made =
          let r = round m es d (bound - n) p w in
          let all = then_told m es trace n (steps_made (bound - n) r.told) false (progress_at m es b 0) p q o u v told made.tells in
          let h = within_more m es trace (n + steps_made (bound - n) r.told) (chain_end m es d bound b).steps (progress_at m es b 0) q o v
          (made_within m es 0 d bound b n r.told r.progress r.watch st.within (round_means m es sound 0 d bound b p w n st)) all in
          record {
            k = h.k;
            early = h.early;
            board = ap (λ (q : Progress). q.board) (h.made ∙ from_start m es trace b (h.k + 1));
            between = h.between;
            whole = same_text (sym (added_steps m es trace b h.k)) h.whole;
            broken = same_text (ap (next_text m trace) (from_start m es trace b h.k) ∙ sym (added_next m es trace b h.k)) h.broken;
          }

      -- ---- at the end
      comes : {t : Round} (end : ChainEnd) (steps : ℕ) → IsMade {E = E} m es trace (bound - n) (round m es d (bound - n) p w) (Ok t) p q w' u v → n + steps_made (bound - n) t ≡ steps → Final m es 0 d bound b end steps q → (IsTrue (is_done end) → w'.dead ≡ dead_at m es bound b) → Comes m es d trace bound b (record { end = end; steps = steps }) q.board w'.dead o v
      comes end steps made same f dead = record {
        ends = sym f.ends;
        stands = ap (λ (q : Progress). q.board) f.progress ∙ ap (λ (e : Ended). board_at m is_body es b e.steps) (sym f.ends);
        hides = dead;
        told = same_text (ap (λ k. steps_text m es trace k (progress_at m es b 0)) (same ∙ sym (ap (λ (e : Ended). e.steps) f.ends)) ∙ sym (added_steps m es trace b (chain_end m es d bound b).steps)) (told_on made).1;
      }

      comes_by : (t : Round) → IsMade {E = E} m es trace (bound - n) (round m es d (bound - n) p w) (Ok t) p q w' u v → RoundMeans m es 0 d bound b n t q w' → (ended : Ended) → EndsRound bound n q.bodies q.services t ended → Comes m es d trace bound b ended q.board w'.dead o v
      comes_by (Made k) made f ended e = absurd e
      comes_by (Failed kind k) made f ended e = subst (λ ended. Comes m es d trace bound b ended q.board w'.dead o v) (sym e) (comes (BrokenOff kind q.bodies) (n + k) made refl f (λ no. absurd (false≢true no)))
      comes_by RoundEnded made (f, h) ended e = subst (λ ended. Comes m es d trace bound b ended q.board w'.dead o v) (sym e) (comes (Done n q.bodies q.services) n made (omega arith) f (λ done. ap (λ (w : Watched). w.dead) h.watch ∙ sym (ap dead_in h.over)))
      comes_by Spent made f ended e = subst (λ ended. Comes m es d trace bound b ended q.board w'.dead o v) (sym e) (comes BudgetSpent bound made (omega (arith, st.within)) f (λ no. absurd (false≢true no)))

      pub comes_to : {t : Round} (ended : Ended) → IsMade {E = E} m es trace (bound - n) (round m es d (bound - n) p w) (Ok t) p q w' u v → EndsRound bound n q.bodies q.services t ended → Comes m es d trace bound b ended q.board w'.dead o v
      comes_to {t = t} ended made e = comes_by t made (means made) ended e

  pub final_within : {end : ChainEnd} {steps : ℕ} {p : Progress} → Final m es 0 d bound b end steps p → steps ≤ bound
  final_within {steps = steps} f =
      let e : (end_at (servicing_machine m es) d bound (begun m es b)).steps ≡ steps = ap (λ (e : Ended). e.steps) f.ends in
      let l = steps_within (servicing_machine m es) d (begun m es b) bound in
      omega (arith, e, l)
