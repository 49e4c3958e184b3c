-- Rounds that break, that have no steps left, or that enter a service.
use Rattle.std.proofs.Common.{◌≡◌, ℕ, ◌+◌, ◌-◌, ◌<◌, ◌≤◌, inl, ⊎_elim, Bool, true, false, List, ◌∷◌, length, Some, None, refl, sym, ap, ap₂, ◌∙◌, subst, arith}
use Rattle.std.specs.Prelude.{nat_le}
use Rattle.std.proofs.lemmas.Bool.{leb-true, leb-false, cases_eq}
use Rattle.device_model.specs.Meanings.{Meanings, IsSound as IsSoundDevice}
use Rattle.clic_select.specs.Top.{top}
use Rattle.clic_select.specs.declared.choice.Choice.{Choice}
use Rattle.hart_memory.specs.declared.address_map.TheConstants.{RAM_BASE}
use Rattle.hart_board.specs.State.{State}
use Rattle.hart_board.specs.Run.{Stand}
use Rattle.hart_board.specs.Event.{AreEventsFrom}
use Rattle.hart_board.specs.declared.event.Event.{Event}
use Rattle.chain_moves.specs.Servicing.{Servicing, marks}
use Rattle.chain_moves.specs.Machine.{Before, Moved, Makes, Breaks}
use Rattle.chain_moves.specs.Run.{Made}
use Rattle.chain_moves.specs.Moves.{move, claims, servicing_machine}
use Rattle.chain_moves.specs.Cost.{is_fused, is_halfway, price, cost, enter_cost}
use Rattle.chain_moves.specs.Enter.{is_enter_due, new_frame, entered}
use Rattle.chain_core.specs.ChainRun.{is_body, Read, read_to}
use Rattle.chain_moves.specs.Watched.{Watched, with_service}
use Rattle.chain_moves.specs.Beside.{Rest, board_of}
use Rattle.chain_core.specs.Progress.{Progress, goes, progress_at}
use Rattle.chain_core.specs.Rounds.{mark_at, watched_after, round_enter, round_entry}
use Rattle.chain_moves.specs.declared.broken.Broken.{Broken}
use Rattle.chain_moves.specs.declared.dispatcher.Dispatcher.{Dispatcher}
use Rattle.chain_moves.specs.declared.dispatcher.Dispatcher.TheVariants.{Looping, Returning}
use Rattle.chain_moves.specs.declared.moves.Move.{Move}
use Rattle.chain_moves.specs.declared.moves.Move.TheVariants.{Enter, Body}
use Rattle.chain_moves.specs.declared.entry.Entry.{Entry}
use Rattle.chain_moves.specs.declared.entry.Entry.TheVariants.{Refused, Admitted}
use Rattle.chain_core.proofs.Bounded.{Late}
use Rattle.chain_moves.proofs.Enters.{entered_framed, entered_inputs, entered_bodies}
use Rattle.chain_core.proofs.EnterRuns.{rest_entered, saved_cause, enter_runs}
use Rattle.chain_core.proofs.MoveRuns.{with_service as read_service, enter_in_run}
use Rattle.chain_moves.proofs.Turns.{EntryMeans}
use Rattle.chain_moves.proofs.Watching.{new_mark, entered_watched}
use Rattle.hart_board.specs.Steps.{GoesOnBefore}
use Rattle.chain_core.proofs.Standing.{goes_at, goes_to, StoodFrom, BrokeFrom, SpentFrom, MeansFrom, goes_before}

-- ---- what a move costs
pub enter_whole : (d : Dispatcher) (claims : Bool) → is_fused d Enter claims ≡ false
enter_whole Looping claims = refl
enter_whole Returning claims = refl

pub body_whole : (d : Dispatcher) (claims : Bool) → is_fused d Body claims ≡ false
body_whole Looping claims = refl
body_whole Returning claims = refl

-- a move from where no fused pair is halfway
pub next_cost : (m : Meanings) (es : List Event) (d : Dispatcher) (made : List (Made Move)) (k : Made Move) (at n : ℕ) → at + cost (servicing_machine m es) d made ≡ n → is_halfway (servicing_machine m es) d made ≡ false → at + cost (servicing_machine m es) d (k ∷ made) ≡ n + price k.kind false (is_fused d k.kind k.claims)
unfolding cost
next_cost m es d made k at n c w =
    let e : price k.kind (is_halfway (servicing_machine m es) d made) (is_fused d k.kind k.claims) ≡ price k.kind false (is_fused d k.kind k.claims) = ap (λ h. price k.kind h (is_fused d k.kind k.claims)) w in
    omega (arith, c, e)

-- and from halfway
pub half_cost : (m : Meanings) (es : List Event) (d : Dispatcher) (made : List (Made Move)) (k : Made Move) (at n : ℕ) → at + cost (servicing_machine m es) d made ≡ n → is_halfway (servicing_machine m es) d made ≡ true → at + cost (servicing_machine m es) d (k ∷ made) ≡ n + price k.kind true (is_fused d k.kind k.claims)
unfolding cost
half_cost m es d made k at n c w =
    let e : price k.kind (is_halfway (servicing_machine m es) d made) (is_fused d k.kind k.claims) ≡ price k.kind true (is_fused d k.kind k.claims) = ap (λ h. price k.kind h (is_fused d k.kind k.claims)) w in
    omega (arith, c, e)

-- the mark of a service whose handler begins on a board that stands beside the machine
pub mark_is : (s : Servicing) (t : Choice) (y : Rest) → mark_at (board_of (entered s t) y) (new_frame s) ≡ new_mark s t
unfolding entered marks
mark_is s t y = refl

-- what is read off as a service begins
pub read_entered : (s : Servicing) (t : Choice) (r : Read) → r ≡ record { depth = length s.live; services = s.services } → read_service r t ≡ record { depth = length (entered s t).live; services = (entered s t).services }
unfolding entered
read_entered s t r e = ap (λ r. read_service r t) e

module _ (m : Meanings) (es : List Event) (from : ℕ) (d : Dispatcher) (bound : ℕ) (b : State) (start : Servicing) (at : ℕ) (p : Progress) (w : Watched) (n : ℕ) (st : StoodFrom m es from d bound b start at p w n) where
  abbrev s : Servicing
  s = st.state

  abbrev x : Rest
  x = st.rest

  pub board_is : p.board ≡ board_of s x
  board_is = ap (λ q. q.board) st.progress ∙ ap (λ (q : Stand). q.board) st.stands

  pub bodies_are : p.bodies ≡ s.bodies
  bodies_are = ap (λ q. q.bodies) st.progress ∙ ap (λ (q : Stand). q.count) st.stands

  pub listed_are : (read_to m es b n).services ≡ s.services
  listed_are = ap (λ (r : Read). r.services) st.read

  -- ---- a test that holds before anything is done
  pub refused : (kind : Broken) → move m es s ≡ Breaks Before kind s.bodies → BrokeFrom m es from d bound b start at n kind (n + 0) p
  refused kind e =
      let none : n + 0 ≡ n = omega arith in
      let c = st.costs in
      record {
        made = st.made;
        state = s;
        when = Before;
        leads = st.leads;
        breaks = e ∙ ap (Breaks Before kind) (sym bodies_are);
        soft = inl c;
        steps_are = c ∙ sym none;
        within = omega (arith, c, st.within);
        goes = goes_before m es b (n + 0) n (omega arith) st.goes;
        progress = st.progress ∙ ap (progress_at m es b) (sym none);
        services = ap (λ k. (read_to m es b k).services) none ∙ listed_are;
      }

  -- ---- too few steps are left for what is due
  pub spent_now : (moved : Moved Move Servicing) → move m es s ≡ moved → Late (servicing_machine m es) d start (bound - at) st.made moved → (read_to m es b bound).services ≡ s.services → GoesOnBefore m is_body es b bound → SpentFrom m es from d bound b start at (goes m es (bound - n) p)
  spent_now moved e late same going =
      let c = st.costs in
      record {
        made = st.made;
        state = s;
        leads = st.leads;
        within = omega (arith, c, st.within);
        late = subst (Late (servicing_machine m es) d start (bound - at) st.made) (sym e) late;
        goes = going;
        progress = ap (goes m es (bound - n)) st.progress ∙ goes_to m es b bound n st.within;
        services = same;
      }

  -- inside a move that lists nothing before its last step
  pub still_listed : (k : ℕ) (inside : Read) → ((j : ℕ) → 0 < j → j < k → read_to m es b (n + j) ≡ inside) → inside.services ≡ (read_to m es b n).services → bound - n < k → (read_to m es b bound).services ≡ s.services
  still_listed k inside read same short =
      let all : n + (bound - n) ≡ bound = omega (arith, st.within) in
      ap (λ j. (read_to m es b j).services) (sym all)
      ∙ (⊎_elim
      (λ (none : bound - n ≡ 0). let here : n + (bound - n) ≡ n = omega (arith, none) in ap (λ j. (read_to m es b j).services) here)
      (λ (some : bound - n ≡ 0 → ⊥). ap (λ (r : Read). r.services) (read (bound - n) (omega (arith, some)) short) ∙ same)
      (cases_eq (bound - n) 0)
      ∙ listed_are)

  -- ---- Enter
  module _ (sound : IsSoundDevice m) (runs : m.halted s.outside.device ≡ None) (t : Choice) (is_top : top s.outside.clic ≡ Some t) (is_due : is_enter_due s (Some t) ≡ true) where
    entering : (frame : ℕ) (reaches : Bool) → nat_le enter_cost (bound - n) ≡ reaches → EntryMeans s t (move m es s) (Admitted frame) → MeansFrom m es from d bound b start at n (round_enter m es (bound - n) p w reaches frame)
    entering frame true enough (frame_is, untested, made) =
        let room : 14 ≤ bound - n = leb-true 14 (bound - n) enough in
        let run = enter_in_run m es b n s.bodies d s x st.related runs st.stands t is_top is_due untested in
        let facts = enter_runs m d s x t st.related runs is_top is_due untested in
        let now : goes m es 14 p ≡ progress_at m es b (n + 14) = ap (goes m es 14) st.progress ∙ goes_at m es b 14 n in
        let board : (goes m es 14 p).board ≡ board_of (entered s t) (rest_entered s x t) = ap (λ (q : Progress). q.board) now ∙ ap (λ (q : Stand). q.board) run.stands in
        let k : Made Move = record { kind = Enter; claims = claims (entered s t) } in (
          omega arith,
          record {
            made = k ∷ st.made;
            state = entered s t;
            rest = rest_entered s x t;
            leads = (s, st.leads, made, refl);
            costs = next_cost m es d st.made k at n st.costs st.whole;
            whole = enter_whole d (claims (entered s t));
            within = omega (arith, room);
            related = entered_framed m d s x t st.related untested (saved_cause s t) facts.small facts.enabled facts.level (rest_entered s x t) refl refl sound is_top is_due;
            events = subst (λ i. AreEventsFrom i from es) (sym (entered_inputs s t)) st.events;
            stands = run.stands ∙ ap (λ c. record { count = c; board = board_of (entered s t) (rest_entered s x t) }) (sym (entered_bodies s t));
            read = run.read_after ∙ read_entered s t (read_to m es b n) st.read;
            goes = run.goes st.goes;
            progress = now;
            watch =
                ap (λ b. watched_after w b frame) board
                ∙ (ap (watched_after w (board_of (entered s t) (rest_entered s x t))) frame_is
                ∙ (ap₂ (λ w k. with_service w k (new_frame s - RAM_BASE)) st.watch (mark_is s t (rest_entered s x t))
                ∙ sym (entered_watched s t)));
          },
        )
    entering frame false few (frame_is, untested, made) =
        let short : bound - n < 14 = leb-false 14 (bound - n) few in
        let run = enter_in_run m es b n s.bodies d s x st.related runs st.stands t is_top is_due untested in
        let c = next_cost m es d st.made (record { kind = Enter; claims = claims (entered s t) }) at n st.costs st.whole in
        spent_now (Makes Enter (entered s t)) made (omega (arith, c, short, st.within)) (still_listed 14 (read_to m es b n) run.read_inside refl short) (goes_before m es b bound (n + 14) (omega (arith, short)) (run.goes st.goes))

    pub entry_round : (e : Entry) → EntryMeans s t (move m es s) e → MeansFrom m es from d bound b start at n (round_entry m es (bound - n) p w e)
    entry_round (Refused kind) h = refused kind h
    entry_round (Admitted frame) h = entering frame (nat_le enter_cost (bound - n)) refl h
