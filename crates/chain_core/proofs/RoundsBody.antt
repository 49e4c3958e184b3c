-- Rounds that make a body, and rounds of a board that has halted.
use Rattle.std.proofs.Common.{◌≡◌, ℕ, ◌+◌, ◌-◌, ◌<◌, ◌≤◌, inl, inr, Bool, true, false, List, [], ◌∷◌, length, Some, None, refl, sym, ap, ap₂, ◌∙◌, subst, arith}
use Rattle.std.specs.Prelude.{nat_le}
use Rattle.std.proofs.lemmas.Bool.{leb-true, leb-false}
use Rattle.device_model.specs.Meanings.{Meanings, IsSound as IsSoundDevice}
use Rattle.clic_select.specs.Top.{top}
use Rattle.hart_memory.specs.Place.{place}
use Rattle.hart_board.specs.State.{State}
use Rattle.hart_board.specs.Step.{Turn, step, tried}
use Rattle.hart_board.specs.Run.{Stand}
use Rattle.hart_board.specs.Event.{AreEventsFrom}
use Rattle.hart_board.specs.declared.event.Event.{Event}
use Rattle.chain_moves.specs.Servicing.{Live, Servicing, marks, is_foreground}
use Rattle.chain_moves.specs.Bytes.{revived_at}
use Rattle.chain_moves.specs.Tests.{is_lost}
use Rattle.chain_moves.specs.Machine.{Within, After, Breaks}
use Rattle.chain_moves.specs.Run.{Made}
use Rattle.chain_moves.specs.Moves.{move, move_unless_halted, halted_with, claims, servicing_machine}
use Rattle.chain_moves.specs.Body.{body}
use Rattle.chain_moves.specs.Cost.{body_cost}
use Rattle.chain_moves.specs.Enter.{is_enter_due}
use Rattle.chain_core.specs.ChainRun.{Read, read_to}
use Rattle.chain_moves.specs.Watched.{Watched, watched_of}
use Rattle.chain_moves.specs.Judge.{judge_body}
use Rattle.chain_moves.specs.Beside.{Rest, board_of}
use Rattle.chain_core.specs.Progress.{Progress, gone_by, goes, progress_at}
use Rattle.chain_core.specs.Rounds.{round_retired, round_turn, round_body, round_verdict, halted_round, round_halted}
use Rattle.chain_moves.specs.declared.broken.Broken.TheVariants.{RegisterLost, Exception, HaltInHandler}
use Rattle.chain_moves.specs.declared.dispatcher.Dispatcher.{Dispatcher}
use Rattle.chain_moves.specs.declared.moves.Move.{Move}
use Rattle.chain_moves.specs.declared.moves.Move.TheVariants.{Body}
use Rattle.chain_moves.specs.declared.verdict.Verdict.{Verdict}
use Rattle.chain_moves.specs.declared.verdict.Verdict.TheVariants.{Refused, Plain, Reviving}
use Rattle.chain_core.proofs.Bounded.{Late}
use Rattle.chain_moves.proofs.Bodies.{retires, Raises, Loses, Done as BodyDone, Tried, BodyMeans, body_turns}
use Rattle.chain_core.proofs.BodyRuns.{body_in_run}
use Rattle.chain_moves.proofs.Counted.{body_watched}
use Rattle.chain_core.proofs.Told.{goes_one, gone_turn}
use Rattle.chain_core.proofs.Standing.{goes_at, StoodFrom, SpentFrom, MeansFrom, goes_before}
use Rattle.chain_core.proofs.RoundsBegin.{body_whole, next_cost, board_is, bodies_are, listed_are, refused, spent_now}

module _ (m : Meanings) (es : List Event) (sound : IsSoundDevice m) (from : ℕ) (d : Dispatcher) (bound : ℕ) (b : State) (start : Servicing) (at : ℕ) (p : Progress) (w : Watched) (n : ℕ) (st : StoodFrom m es from d bound b start at p w n) where
  abbrev s : Servicing
  s = st.state

  abbrev x : Rest
  x = st.rest

  module _ (runs : m.halted s.outside.device ≡ None) (calm : is_enter_due s (top s.outside.clic) ≡ false) (is_body : move m es s ≡ body m es s) where
    -- ---- no step is left
    late_body : (dead : List Bool) → Tried m es s d x dead → bound - n < 1 → Late (servicing_machine m es) d start (bound - at) st.made (body m es s)
    late_body dead (inl r) short = let c = st.costs in subst (Late (servicing_machine m es) d start (bound - at) st.made) (sym r.breaks) (omega (arith, c, short, st.within))
    late_body dead (inr (inl l)) short = let c = st.costs in subst (Late (servicing_machine m es) d start (bound - at) st.made) (sym l.breaks) (omega (arith, c, short, st.within))
    late_body dead (inr (inr g)) short =
        let c = next_cost m es d st.made (record { kind = Body; claims = claims g.after }) at n st.costs st.whole in
        subst (Late (servicing_machine m es) d start (bound - at) st.made) (sym g.goes.makes) (omega (arith, c, short, st.within))

    body_short : (dead : List Bool) → Tried m es s d x dead → bound - n < 1 → SpentFrom m es from d bound b start at (goes m es (bound - n) p)
    body_short dead t short =
        let here : bound ≡ n = omega (arith, short, st.within) in
        spent_now m es from d bound b start at p w n st (body m es s) is_body (late_body dead t short)
        (ap (λ k. (read_to m es b k).services) here ∙ listed_are m es from d bound b start at p w n st)
        (goes_before m es b bound n (omega (arith, here)) st.goes)

    -- ---- the step that is tried
    tried_is : (turn : Turn) → tried m (board_of s x) ≡ turn → tried m p.board ≡ turn
    tried_is turn e = ap (tried m) (board_is m es from d bound b start at p w n st) ∙ e

    body_raises : (revived : Watched) → Raises m es s d x → 1 ≤ bound - n → MeansFrom m es from d bound b start at n (round_turn m es p w revived (tried m p.board))
    body_raises revived r room =
        let none : n + 0 ≡ n = omega arith in
        let c = st.costs in
        let same : record p { board = board_of s x } ≡ p = ap (λ b. record p { board = b }) (sym (board_is m es from d bound b start at p w n st)) in
        let breaks : move m es s ≡ Breaks Within (Exception r.trap.code) s.bodies = is_body ∙ r.breaks in
        subst (λ (turn : Turn). MeansFrom m es from d bound b start at n (round_turn m es p w revived turn)) (sym (tried_is _ r.tries))
        (record {
          made = st.made;
          state = s;
          when = Within;
          leads = st.leads;
          breaks = breaks ∙ ap (Breaks Within (Exception r.trap.code)) (sym (bodies_are m es from d bound b start at p w n st));
          soft = inl c;
          steps_are = c ∙ sym none;
          within = omega (arith, c, room, st.within);
          goes = goes_before m es b (n + 0) n (omega arith) st.goes;
          progress = same ∙ (st.progress ∙ ap (progress_at m es b) (sym none));
          services = ap (λ k. (read_to m es b k).services) none ∙ listed_are m es from d bound b start at p w n st;
        })

    -- a step that retires is the next one of the run
    next_progress : (turn : Turn) → tried m (board_of s x) ≡ turn → step m (board_of s x) ≡ turn → gone_by m es p turn ≡ progress_at m es b (n + 1)
    next_progress turn t e =
        gone_turn m es p turn (sym e ∙ ap (step m) (sym (board_is m es from d bound b start at p w n st)))
        ∙ (sym (goes_one m es p)
        ∙ (ap (goes m es 1) st.progress ∙ goes_at m es b 1 n))

    body_loses : (revived : Watched) → Loses m es s d x → 1 ≤ bound - n → MeansFrom m es from d bound b start at n (round_turn m es p w revived (tried m p.board))
    body_loses revived l room =
        let c = st.costs in
        let run = body_in_run m es b n s.bodies (board_of s x) l.new s.pc l.encoding.bits l.encoding.length st.stands l.steps l.outside in
        let now = next_progress (retires s.pc l.encoding l.new) l.tries l.steps in
        let breaks : move m es s ≡ Breaks After RegisterLost (s.bodies + 1) = is_body ∙ l.breaks in
        let lost : is_lost w.live l.new.pc l.new.registers ≡ true = ap (λ (w : Watched). is_lost w.live l.new.pc l.new.registers) st.watch ∙ l.lost in
        let bodies : (gone_by m es p (retires s.pc l.encoding l.new)).bodies ≡ s.bodies + 1 = ap (λ (q : Progress). q.bodies) now ∙ ap (λ (q : Stand). q.count) run.stands in
        subst (λ (turn : Turn). MeansFrom m es from d bound b start at n (round_turn m es p w revived turn)) (sym (tried_is _ l.tries))
        (subst (λ q. MeansFrom m es from d bound b start at n (round_retired (gone_by m es p (retires s.pc l.encoding l.new)) revived q)) (sym lost)
        (record {
          made = st.made;
          state = s;
          when = After;
          leads = st.leads;
          breaks = breaks ∙ ap (Breaks After RegisterLost) (sym bodies);
          soft = inl c;
          steps_are = omega (arith, c);
          within = omega (arith, c, room, st.within);
          goes = run.goes st.goes;
          progress = now;
          services = ap (λ (r : Read). r.services) run.read ∙ listed_are m es from d bound b start at p w n st;
        }))

    body_goes : (dead : List Bool) → BodyDone m es s d x dead → 1 ≤ bound - n → MeansFrom m es from d bound b start at n (round_turn m es p w (record w { dead = dead }) (tried m p.board))
    body_goes dead g room =
        let k : Made Move = record { kind = Body; claims = claims g.after } in
        let run = body_in_run m es b n s.bodies (board_of s x) g.goes.new s.pc g.goes.encoding.bits g.goes.encoding.length st.stands g.goes.steps g.goes.outside in
        let now = next_progress (retires s.pc g.goes.encoding g.goes.new) g.goes.tries g.goes.steps in
        let kept : is_lost w.live g.goes.new.pc g.goes.new.registers ≡ false = ap (λ (w : Watched). is_lost w.live g.goes.new.pc g.goes.new.registers) st.watch ∙ g.goes.kept in
        subst (λ (turn : Turn). MeansFrom m es from d bound b start at n (round_turn m es p w (record w { dead = dead }) turn)) (sym (tried_is _ g.goes.tries))
        (subst (λ q. MeansFrom m es from d bound b start at n (round_retired (gone_by m es p (retires s.pc g.goes.encoding g.goes.new)) (record w { dead = dead }) q)) (sym kept) (
          omega arith,
          record {
            made = k ∷ st.made;
            state = g.after;
            rest = g.goes.rest;
            leads = (s, st.leads, is_body ∙ g.goes.makes, refl);
            costs = next_cost m es d st.made k at n st.costs st.whole;
            whole = body_whole d (claims g.after);
            within = omega (arith, room, st.within);
            related = g.goes.related;
            events = subst (λ i. AreEventsFrom i from es) (sym g.goes.inputs) st.events;
            stands = run.stands ∙ ap₂ (λ c b. record { count = c; board = b }) (sym g.goes.bodies) g.goes.events;
            read = run.read ∙ (st.read ∙ ap₂ (λ l q. record { depth = length l; services = q }) (sym g.goes.live) (sym g.goes.services));
            goes = run.goes st.goes;
            progress = now;
            watch = ap (λ (w : Watched). record { live = w.live; dead = dead }) st.watch ∙ sym (body_watched m es s d x dead g);
          },
        ))

    trying : (dead : List Bool) → Tried m es s d x dead → 1 ≤ bound - n → MeansFrom m es from d bound b start at n (round_turn m es p w (record w { dead = dead }) (tried m p.board))
    trying dead (inl r) room = body_raises (record w { dead = dead }) r room
    trying dead (inr (inl l)) room = body_loses (record w { dead = dead }) l room
    trying dead (inr (inr g)) room = body_goes dead g room

    bodying : (dead : List Bool) (reaches : Bool) → nat_le body_cost (bound - n) ≡ reaches → Tried m es s d x dead → MeansFrom m es from d bound b start at n (round_body m es (bound - n) p w reaches (record w { dead = dead }))
    bodying dead true enough t = trying dead t (leb-true 1 (bound - n) enough)
    bodying dead false few t = body_short dead t (leb-false 1 (bound - n) few)

    pub verdict_round : (v : Verdict) → BodyMeans m es s d x v → MeansFrom m es from d bound b start at n (round_verdict m es (bound - n) p w v)
    verdict_round (Refused kind) h = refused m es from d bound b start at p w n st kind (is_body ∙ h)
    verdict_round Plain h =
        let same : record w { dead = s.dead } ≡ w = ap (λ (q : Watched). record w { dead = q.dead }) (sym st.watch) in
        subst (λ q. MeansFrom m es from d bound b start at n (round_body m es (bound - n) p w (nat_le body_cost (bound - n)) q)) same (bodying s.dead (nat_le body_cost (bound - n)) refl h)
    verdict_round (Reviving address width) h =
        let same : revived_at (place address width) width s.dead ≡ revived_at (place address width) width w.dead = ap (λ (q : Watched). revived_at (place address width) width q.dead) (sym st.watch) in
        subst (λ q. MeansFrom m es from d bound b start at n (round_body m es (bound - n) p w (nat_le body_cost (bound - n)) (record w { dead = q }))) same (bodying (revived_at (place address width) width s.dead) (nat_le body_cost (bound - n)) refl h)

    pub body_round : (v : Verdict) → v ≡ judge_body (board_of s x) (watched_of s) → MeansFrom m es from d bound b start at n (round_verdict m es (bound - n) p w v)
    body_round v e = verdict_round v (subst (BodyMeans m es s d x) (sym e) (body_turns m es s d x sound from st.events st.related runs calm))

  -- ---- a board that has halted
  module _ (code : ℕ) (halted : m.halted s.outside.device ≡ Some code) where
    move_is : (live : List Live) → s.live ≡ live → move m es s ≡ halted_with live s.bodies
    unfolding move
    move_is live e = ap (move_unless_halted m es s) halted ∙ ap (λ l. halted_with l s.bodies) e

    halting : (live : List Live) → s.live ≡ live → MeansFrom m es from d bound b start at n (record { told = halted_round (is_foreground (marks live)); progress = p; watch = w })
    unfolding marks
    halting [] e =
        record {
          made = st.made;
          state = s;
          rest = x;
          leads = st.leads;
          costs = st.costs;
          within = st.within;
          ends = move_is [] e;
          goes = st.goes;
          related = st.related;
          board = board_is m es from d bound b start at p w n st;
          bodies = bodies_are m es from d bound b start at p w n st;
          none = e;
          progress = st.progress;
          services = listed_are m es from d bound b start at p w n st;
          watch = st.watch;
        }
    halting (v ∷ vs) e = refused m es from d bound b start at p w n st HaltInHandler (move_is (v ∷ vs) e)

    pub halted_means : MeansFrom m es from d bound b start at n (round_halted p w)
    halted_means =
        let same : is_foreground (marks s.live) ≡ is_foreground w.live = ap (λ (q : Watched). is_foreground q.live) (sym st.watch) in
        subst (λ f. MeansFrom m es from d bound b start at n (record { told = halted_round f; progress = p; watch = w })) same (halting s.live refl)
