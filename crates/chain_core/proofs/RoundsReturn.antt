-- Rounds that leave a service: back to what it suspended, or on with the next service.
use Rattle.std.proofs.Common.{◌≡◌, ◌≢◌, ℕ, suc, ◌+◌, ◌-◌, ◌<◌, ◌≤◌, inr, ⊎_elim, Bool, true, false, List, ◌∷◌, length, None, refl, sym, ap, ap₂, ◌∙◌, subst, arith}
use Rattle.std.specs.Prelude.{nat_le}
use Rattle.std.proofs.lemmas.Bool.{leb-true, leb-false, cases_eq, cases_lt, true≢false, eq-eqb}
use Rattle.device_model.specs.Meanings.{Meanings, IsSound as IsSoundDevice}
use Rattle.clic_select.specs.Top.{top}
use Rattle.clic_select.specs.declared.choice.Choice.{Choice}
use Rattle.hart_memory.specs.declared.address_map.TheConstants.{RAM_BASE}
use Rattle.hart_board.specs.State.{Outside, State}
use Rattle.hart_board.specs.Run.{Stand}
use Rattle.hart_board.specs.Event.{AreEventsFrom}
use Rattle.hart_board.specs.declared.event.Event.{Event}
use Rattle.chain_moves.specs.Servicing.{Live, Servicing, marks, innermost_level}
use Rattle.chain_moves.specs.Machine.{Before, Makes, Breaks}
use Rattle.chain_moves.specs.Run.{Made, Leads}
use Rattle.chain_moves.specs.Moves.{move, claims, servicing_machine}
use Rattle.chain_moves.specs.Cost.{is_fused, price, cost, leave_cost, fused_leave_cost}
use Rattle.chain_moves.specs.Enter.{new_frame, table_address, entered}
use Rattle.chain_moves.specs.Leave.{left}
use Rattle.chain_moves.specs.Judge.{claims_above}
use Rattle.chain_core.specs.ChainRun.{chained_at, Read, read_to}
use Rattle.chain_core.specs.Walk.{walked}
use Rattle.chain_moves.specs.Watched.{Watched, with_service, without_service}
use Rattle.chain_moves.specs.Beside.{Rest, board_of}
use Rattle.chain_moves.specs.Related.{Related}
use Rattle.chain_core.specs.Progress.{Progress, goes, progress_at}
use Rattle.chain_core.specs.Rounds.{watched_after, fused_cost, round_leave, round_parted, round_fused, round_fuse}
use Rattle.chain_moves.specs.declared.broken.Broken.{Broken}
use Rattle.chain_moves.specs.declared.dispatcher.Dispatcher.{Dispatcher}
use Rattle.chain_moves.specs.declared.dispatcher.Dispatcher.TheVariants.{Looping, Returning}
use Rattle.chain_moves.specs.declared.moves.Move.{Move}
use Rattle.chain_moves.specs.declared.moves.Move.TheVariants.{Enter, Leave}
use Rattle.chain_moves.specs.declared.entry.Entry.{Entry}
use Rattle.chain_moves.specs.declared.entry.Entry.TheVariants.{Refused, Admitted}
use Rattle.chain_core.proofs.Bounded.{Late}
use Rattle.chain_moves.proofs.Leaves.{left_live, left_unmoved, left_related}
use Rattle.chain_moves.proofs.Enters.{IsUntested, passes, entered_inputs, entered_bodies}
use Rattle.chain_moves.proofs.Fused.{claims_after, fused_related}
use Rattle.chain_core.proofs.LeaveRuns.{rest_left}
use Rattle.chain_core.proofs.FusedRuns.{mid, rest_fused, five_told, two_told}
use Rattle.chain_core.proofs.Readings.{with_return}
use Rattle.chain_core.proofs.MoveRuns.{InRun, with_service as read_service, leave_in_run, five_in_run, mid_in_run, two_in_run}
use Rattle.chain_moves.proofs.Turns.{Leaves, Fuses, EntryMeans}
use Rattle.chain_moves.proofs.Watching.{left_watched, fused_watched}
use Rattle.chain_core.proofs.Standing.{goes_at, goes_to, StoodFrom, SpentFrom, MeansFrom, goes_before}
use Rattle.chain_core.proofs.RoundsBegin.{enter_whole, next_cost, half_cost, mark_is, read_entered, spent_now, still_listed}

-- a fused pair is the looping dispatcher's
pub looping : (d : Dispatcher) (claims : Bool) → is_fused d Leave claims ≡ true → d ≡ Looping
looping Looping claims e = refl
looping Returning claims e = absurd (true≢false (sym e))

fused_claims : (d : Dispatcher) (claims : Bool) → is_fused d Leave claims ≡ true → claims ≡ true
fused_claims Looping claims e = e
fused_claims Returning claims e = absurd (true≢false (sym e))

-- what is read off as a service ends
read_left : (s : Servicing) (v : Live) (vs : List Live) (r : Read) → s.live ≡ v ∷ vs → r ≡ record { depth = length s.live; services = s.services } → with_return r ≡ record { depth = length (left s v vs).live; services = (left s v vs).services }
read_left s v vs r live e =
    let depth : length s.live - 1 ≡ length (left s v vs).live = (let n : length s.live ≡ suc (length vs) = ap length live in let k : length s.live - 1 ≡ length vs = omega (arith, n) in k) ∙ sym (ap length (left_live s v vs)) in
    ap with_return e ∙ ap₂ (λ n l. record { depth = n; services = l }) depth (sym (left_unmoved s v vs).services)

module _ (m : Meanings) (es : List Event) (sound : IsSoundDevice m) (from : ℕ) (d : Dispatcher) (bound : ℕ) (b : State) (start : Servicing) (at : ℕ) (p : Progress) (w : Watched) (n : ℕ) (st : StoodFrom m es from d bound b start at p w n) (runs : m.halted st.state.outside.device ≡ None) where
  abbrev s : Servicing
  s = st.state

  abbrev x : Rest
  x = st.rest

  -- ---- a Leave back to what was suspended
  module _ (u : Leaves m es d s x (move m es s) false) where
    not_fused : is_fused d Leave (claims_above (top s.outside.clic) (innermost_level (marks u.others)) s.threshold) ≡ false
    not_fused = ap (is_fused d Leave) (sym (claims_after m d s x st.related u.at_back u.innermost u.others u.is_live)) ∙ u.is_fused

    pub leaving : (reaches : Bool) → nat_le leave_cost (bound - n) ≡ reaches → MeansFrom m es from d bound b start at n (round_leave m es (bound - n) p w reaches)
    leaving true enough =
        let room : 16 ≤ bound - n = leb-true 16 (bound - n) enough in
        let run = leave_in_run m es b n s.bodies d s x st.related runs st.stands u.innermost u.others u.is_live u.at_back u.calm not_fused in
        let k : Made Move = record { kind = Leave; claims = claims (left s u.innermost u.others) } in
        let o = left_unmoved s u.innermost u.others in (
          omega arith,
          record {
            made = k ∷ st.made;
            state = left s u.innermost u.others;
            rest = rest_left x u.innermost u.others;
            leads = (s, st.leads, u.makes, refl);
            costs = next_cost m es d st.made k at n st.costs st.whole ∙ ap (λ f. n + price Leave false f) u.is_fused;
            whole = u.is_fused;
            within = omega (arith, room);
            related = left_related m d s x st.related u.at_back sound u.innermost u.others u.is_live (rest_left x u.innermost u.others) refl refl;
            events = subst (λ (q : Outside). AreEventsFrom q.clic.shape.inputs from es) (sym o.outside) st.events;
            stands = run.stands ∙ ap (λ c. record { count = c; board = board_of (left s u.innermost u.others) (rest_left x u.innermost u.others) }) (sym o.bodies);
            read = run.read_after ∙ read_left s u.innermost u.others (read_to m es b n) u.is_live st.read;
            goes = run.goes st.goes;
            progress = ap (goes m es 16) st.progress ∙ goes_at m es b 16 n;
            watch = ap without_service st.watch ∙ sym (left_watched s u.innermost u.others u.is_live);
          },
        )
    leaving false few =
        let short : bound - n < 16 = leb-false 16 (bound - n) few in
        let run = leave_in_run m es b n s.bodies d s x st.related runs st.stands u.innermost u.others u.is_live u.at_back u.calm not_fused in
        let c = next_cost m es d st.made (record { kind = Leave; claims = claims (left s u.innermost u.others) }) at n st.costs st.whole ∙ ap (λ f. n + price Leave false f) u.is_fused in
        spent_now m es from d bound b start at p w n st (Makes Leave (left s u.innermost u.others)) u.makes (omega (arith, c, short, st.within)) (still_listed m es from d bound b start at p w n st 16 (with_return (read_to m es b n)) run.read_inside refl short) (goes_before m es b bound (n + 16) (omega (arith, short)) (run.goes st.goes))

  -- ---- a Leave, and on with the next service
  module _ (e : Entry) (u : Fuses m es d s x (move m es s) e) where
    abbrev v : Live
    v = u.leaves.innermost

    abbrev vs : List Live
    vs = u.leaves.others

    abbrev t : Choice
    t = u.choice

    abbrev between : Servicing
    between = left s v vs

    abbrev k : Made Move
    k = record { kind = Leave; claims = claims between }

    related : Related m Looping s x
    related = subst (λ d. Related m d s x) (looping d (claims between) u.leaves.is_fused) st.related

    five : InRun m es b n 5 s.bodies (walked m 5 (board_of s x)).state five_told (with_return (read_to m es b n)) (with_return (read_to m es b n))
    five = five_in_run m es b n s.bodies s x v vs t related runs u.leaves.is_live u.leaves.at_back u.is_top st.stands u.leaves.calm u.soft u.above

    leads : Leads (servicing_machine m es) (k ∷ st.made) start between
    leads = (s, st.leads, u.leaves.makes, refl)

    costs : at + cost (servicing_machine m es) d (k ∷ st.made) ≡ n + 5
    costs = next_cost m es d st.made k at n st.costs st.whole ∙ ap (λ f. n + price Leave false f) u.leaves.is_fused

    read_five : read_to m es b (n + 5) ≡ record { depth = length between.live; services = between.services }
    read_five = five.read_after ∙ read_left s v vs (read_to m es b n) u.leaves.is_live st.read

    -- too few steps are left for the Leave
    fuse_short : bound - n < 5 → SpentFrom m es from d bound b start at (goes m es (bound - n) p)
    fuse_short short =
        let c = costs in
        spent_now m es from d bound b start at p w n st (Makes Leave between) u.leaves.makes (omega (arith, c, short, st.within)) (still_listed m es from d bound b start at p w n st 5 (with_return (read_to m es b n)) five.read_inside refl short) (goes_before m es b bound (n + 5) (omega (arith, short)) (five.goes st.goes))

    -- the Enter breaks
    pub parted : (kind : Broken) (reaches : Bool) → nat_le fused_leave_cost (bound - n) ≡ reaches → move m es between ≡ Breaks Before kind between.bodies → MeansFrom m es from d bound b start at n (round_parted m es (bound - n) p w reaches kind)
    parted kind false few breaks = fuse_short (leb-false 5 (bound - n) few)
    parted kind true enough breaks =
        let room : 5 ≤ bound - n = leb-true 5 (bound - n) enough in
        let c = costs in
        let now : goes m es 5 p ≡ progress_at m es b (n + 5) = ap (goes m es 5) st.progress ∙ goes_at m es b 5 n in
        let bodies : (goes m es 5 p).bodies ≡ between.bodies = ap (λ (q : Progress). q.bodies) now ∙ (ap (λ (q : Stand). q.count) five.stands ∙ sym (left_unmoved s v vs).bodies) in
        record {
          made = k ∷ st.made;
          state = between;
          when = Before;
          leads = leads;
          breaks = breaks ∙ ap (Breaks Before kind) (sym bodies);
          soft = inr (fused_claims d (claims between) u.leaves.is_fused);
          steps_are = c;
          within = omega (arith, c, room);
          goes = five.goes st.goes;
          progress = now;
          services = ap (λ (r : Read). r.services) read_five;
        }

    -- the table's word isn't at address 0
    table_is : between.table ≡ s.table
    table_is = (left_unmoved s v vs).table

    pub nonzero : IsUntested between t → table_address s.table t.id ≢ 0
    nonzero untested none =
        let there = (passes between t untested).there in
        true≢false (sym (eq-eqb (table_address between.table t.id) 0 (ap (λ a. table_address a t.id) table_is ∙ none)) ∙ there)

    two_stands : IsUntested between t → chained_at m es b (n + 5) ≡ record { count = s.bodies; board = mid s x vs t }
    two_stands untested = five.stands ∙ ap (λ b. record { count = s.bodies; board = b }) (mid_in_run m es b n s.bodies s x v vs t related runs u.leaves.is_live u.leaves.at_back u.is_top u.leaves.calm u.soft u.above (nonzero untested))

    two : IsUntested between t → InRun m es b (n + 5) 2 s.bodies (board_of (entered between t) (rest_fused x vs t)) two_told (read_to m es b (n + 5)) (read_service (read_to m es b (n + 5)) t)
    two untested = two_in_run m es b (n + 5) s.bodies s x v vs t related runs u.leaves.is_live u.leaves.at_back u.is_top (two_stands untested) untested

    -- the Enter is made
    pub fused : (frame : ℕ) (reaches : Bool) → nat_le fused_cost (bound - n) ≡ reaches → EntryMeans between t (move m es between) (Admitted frame) → MeansFrom m es from d bound b start at n (round_fused m es (bound - n) p w reaches frame)
    fused frame true enough (frame_is, untested, made) =
        let room : 7 ≤ bound - n = leb-true 7 (bound - n) enough in
        let run = two untested in
        let seven : n + 5 + 2 ≡ n + 7 = omega arith in
        let now : goes m es 7 p ≡ progress_at m es b (n + 7) = ap (goes m es 7) st.progress ∙ goes_at m es b 7 n in
        let stands : chained_at m es b (n + 7) ≡ record { count = s.bodies; board = board_of (entered between t) (rest_fused x vs t) } = ap (chained_at m es b) (sym seven) ∙ run.stands in
        let board : (goes m es 7 p).board ≡ board_of (entered between t) (rest_fused x vs t) = ap (λ (q : Progress). q.board) now ∙ ap (λ (q : Stand). q.board) stands in
        let j : Made Move = record { kind = Enter; claims = claims (entered between t) } in
        let o = left_unmoved s v vs in (
          omega arith,
          record {
            made = j ∷ (k ∷ st.made);
            state = entered between t;
            rest = rest_fused x vs t;
            leads = (between, leads, made, refl);
            costs = half_cost m es d (k ∷ st.made) j at (n + 5) costs u.leaves.is_fused ∙ seven;
            whole = enter_whole d (claims (entered between t));
            within = omega (arith, room);
            related = fused_related m d s x st.related u.leaves.at_back sound v vs t u.leaves.is_live untested u.is_top u.above (rest_fused x vs t) refl refl;
            events = subst (λ i. AreEventsFrom i from es) (sym (entered_inputs between t)) (subst (λ (q : Outside). AreEventsFrom q.clic.shape.inputs from es) (sym o.outside) st.events);
            stands = stands ∙ ap (λ c. record { count = c; board = board_of (entered between t) (rest_fused x vs t) }) (sym (entered_bodies between t ∙ o.bodies));
            read = ap (read_to m es b) (sym seven) ∙ (run.read_after ∙ read_entered between t (read_to m es b (n + 5)) read_five);
            goes = goes_before m es b (n + 7) (n + 5 + 2) (omega arith) (run.goes (five.goes st.goes));
            progress = now;
            watch =
                ap (λ b. watched_after (without_service w) b frame) board
                ∙ (ap (watched_after (without_service w) (board_of (entered between t) (rest_fused x vs t))) frame_is
                ∙ (ap₂ (λ w k. with_service (without_service w) k (new_frame between - RAM_BASE)) st.watch (mark_is between t (rest_fused x vs t))
                ∙ sym (fused_watched s v vs t u.leaves.is_live)));
          },
        )
    fused frame false few (frame_is, untested, made) =
        let short : bound - n < 7 = leb-false 7 (bound - n) few in
        ⊎_elim
        (λ (l : bound - n < 5). fuse_short l)
        (λ (l : 5 ≤ bound - n).
        let run = two untested in
        let c = costs in
        let j : Made Move = record { kind = Enter; claims = claims (entered between t) } in
        let c' = half_cost m es d (k ∷ st.made) j at (n + 5) costs u.leaves.is_fused in
        let late : Late (servicing_machine m es) d start (bound - at) (k ∷ st.made) (move m es between) = subst (Late (servicing_machine m es) d start (bound - at) (k ∷ st.made)) (sym made) (omega (arith, c', short, st.within)) in
        let rest : bound - n - 5 < 2 = omega (arith, l, short) in
        let all : n + 5 + (bound - n - 5) ≡ bound = omega (arith, l, st.within) in
        let listed : (read_to m es b bound).services ≡ between.services =
        ap (λ j. (read_to m es b j).services) (sym all)
        ∙ (⊎_elim
        (λ (none : bound - n - 5 ≡ 0). let here : n + 5 + (bound - n - 5) ≡ n + 5 = omega (arith, none) in ap (λ j. (read_to m es b j).services) here)
        (λ (some : bound - n - 5 ≡ 0 → ⊥). ap (λ (r : Read). r.services) (run.read_inside (bound - n - 5) (omega (arith, some)) rest))
        (cases_eq (bound - n - 5) 0)
        ∙ ap (λ (r : Read). r.services) read_five) in
        record {
          made = k ∷ st.made;
          state = between;
          leads = leads;
          within = omega (arith, c, l, st.within);
          late = late;
          goes = goes_before m es b bound (n + 5 + 2) (omega (arith, short)) (run.goes (five.goes st.goes));
          progress = ap (goes m es (bound - n)) st.progress ∙ goes_to m es b bound n st.within;
          services = listed;
        })
        (cases_lt (bound - n) 5)

  pub fuse_round : (e : Entry) → Fuses m es d s x (move m es s) e → MeansFrom m es from d bound b start at n (round_fuse m es (bound - n) p w e)
  fuse_round (Refused kind) u = parted (Refused kind) u kind (nat_le fused_leave_cost (bound - n)) refl u.enters
  fuse_round (Admitted frame) u = fused (Admitted frame) u frame (nat_le fused_cost (bound - n)) refl u.enters
