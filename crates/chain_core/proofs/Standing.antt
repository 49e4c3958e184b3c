-- Where a chain stands between two rounds, and at its end.
use Rattle.std.proofs.Common.{◌≡◌, ℕ, zero, suc, ◌+◌, ◌-◌, ◌<◌, ◌≤◌, ◌==◌, ◌⊎◌, Bool, true, false, List, [], ◌∷◌, ◌++◌, length, refl, sym, ap, ap₂, ◌∙◌, subst, arith, length-append}
use Rattle.device_model.specs.Meanings.{Meanings}
use Rattle.hart_board.specs.State.{State}
use Rattle.hart_board.specs.Step.{step}
use Rattle.hart_board.specs.Run.{Stand, standing, after_step}
use Rattle.hart_board.specs.Steps.{stands_at, GoesOnBefore}
use Rattle.hart_board.specs.Event.{AreEventsFrom}
use Rattle.hart_board.specs.declared.event.Event.{Event}
use Rattle.hart_report.specs.declared.stepped.Stepped.{Stepped}
use Rattle.hart_report.specs.declared.stepped.Stepped.TheVariants.{Retired, Interrupted, Raised, Halted, VectorFault}
use Rattle.chain_moves.specs.Slot.{call, back}
use Rattle.chain_moves.specs.Servicing.{Servicing}
use Rattle.chain_moves.specs.Run.{Made, Over, run_to, Leads}
use Rattle.chain_moves.specs.Machine.{When, Breaks, Ends as MachineEnds}
use Rattle.chain_moves.specs.Moves.{move, claims, servicing_machine}
use Rattle.chain_moves.specs.Cost.{cost, is_halfway}
use Rattle.chain_core.specs.End.{steps_before, steps_needed, end_at, services_within}
use Rattle.chain_moves.specs.Start.{begun}
use Rattle.chain_core.specs.ChainRun.{is_body, chained_at, Read, read_at, read_by, read_to}
use Rattle.chain_moves.specs.Watched.{Watched, watched_of}
use Rattle.chain_moves.specs.Beside.{Rest, board_of}
use Rattle.chain_moves.specs.Related.{Related}
use Rattle.chain_core.specs.Progress.{Progress, counted, counted_by, gone, goes, progress_at}
use Rattle.chain_core.specs.Rounds.{Rounded, steps_made}
use Rattle.chain_moves.specs.declared.dispatcher.Dispatcher.{Dispatcher}
use Rattle.chain_moves.specs.declared.broken.Broken.{Broken}
use Rattle.chain_moves.specs.declared.moves.Move.{Move}
use Rattle.chain_core.specs.declared.chain_end.ChainEnd.{ChainEnd}
use Rattle.chain_core.specs.declared.chain_end.ChainEnd.TheVariants.{Done, BudgetSpent, Broken as BrokenOff}
use Rattle.chain_core.specs.declared.round.Round.{Round}
use Rattle.chain_core.specs.declared.round.Round.TheVariants.{Made as RoundMade, Failed, Ended, Spent}
use Rattle.chain_core.proofs.Ends.{over_at, needed_more}
use Rattle.chain_core.proofs.Bounded.{Late, made_before_end, done_end, broken_end, spent_end, services_are, late_last, broke_last, over_last}

-- ---- progress by steps

-- the progress of a stand and of what is read off
abbrev of_both : Stand → Read → Progress
of_both at r = record { board = at.board; bodies = at.count; depth = r.depth; services = length r.services }

counted_at : (at now : Stand) (r : Read) (new : State) (at_call at_back : Bool) → counted (of_both at r) now at_call at_back ≡ of_both now (read_at r new at_call at_back)
counted_at at now r new true at_back =
    let more : length (r.services ++ record { number = new.csrs.exccode; level = new.csrs.mil; depth = suc r.depth } ∷ []) ≡ length r.services + 1 = length-append r.services (record { number = new.csrs.exccode; level = new.csrs.mil; depth = suc r.depth } ∷ []) in
    let deeper : r.depth + 1 ≡ suc r.depth = omega arith in
    ap (λ n. record { board = now.board; bodies = now.count; depth = n; services = length r.services + 1 }) deeper
    ∙ ap (λ n. record { board = now.board; bodies = now.count; depth = suc r.depth; services = n }) (sym more)
counted_at at now r new false true = refl
counted_at at now r new false false = refl

counted_told : (at now : Stand) (r : Read) (new : State) (told : Stepped) → counted_by (of_both at r) now told ≡ of_both now (read_by r new told)
counted_told at now r new (Retired pc bits size) = counted_at at now r new (pc == call) (pc == back)
counted_told at now r new (Interrupted pc id) = refl
counted_told at now r new (Raised pc code) = refl
counted_told at now r new (Halted code) = refl
counted_told at now r new (VectorFault id) = refl

module _ (m : Meanings) (es : List Event) (b : State) where
  pub gone_at : (k : ℕ) → gone m es (progress_at m es b k) ≡ progress_at m es b (suc k)
  unfolding gone stands_at read_to
  gone_at k =
      let at = chained_at m es b k in
      let turn = step m at.board in
      counted_told at (after_step m is_body es at.count turn) (read_to m es b k) turn.state turn.told

  pub goes_at : (n k : ℕ) → goes m es n (progress_at m es b k) ≡ progress_at m es b (k + n)
  unfolding goes
  goes_at zero k = let e : k ≡ k + 0 = omega arith in ap (progress_at m es b) e
  goes_at (suc n) k = let e : suc k + n ≡ k + suc n = omega arith in ap (goes m es n) (gone_at k) ∙ (goes_at n (suc k) ∙ ap (progress_at m es b) e)

  -- as many steps as are left
  pub goes_to : (bound k : ℕ) → k ≤ bound → goes m es (bound - k) (progress_at m es b k) ≡ progress_at m es b bound
  goes_to bound k l = let e : k + (bound - k) ≡ bound = omega arith in goes_at (bound - k) k ∙ ap (progress_at m es b) e

-- a run that goes on for some steps goes on for fewer
pub goes_before : (m : Meanings) (es : List Event) (b : State) (k n : ℕ) → k ≤ n → GoesOnBefore m is_body es b n → GoesOnBefore m is_body es b k
goes_before m es b k n few h i early = h i (omega (arith, few, early))

-- ---- no count is above the number of steps

abbrev AtMost : Progress → ℕ → Type 0
AtMost p k = (p.bodies ≤ k) × (p.depth ≤ k) × (p.services ≤ k)

most_counted : (p : Progress) (at : Stand) (k : ℕ) (at_call at_back : Bool) → AtMost p k → at.count ≤ suc k → AtMost (counted p at at_call at_back) (suc k)
most_counted p at k true at_back h c = (c, omega (arith, h.1), omega (arith, h.2))
most_counted p at k false true h c = (c, omega (arith, h.1), omega (arith, h.2))
most_counted p at k false false h c = (c, omega (arith, h.1), omega (arith, h.2))

most_told : (p : Progress) (at : Stand) (k : ℕ) (told : Stepped) → AtMost p k → at.count ≤ suc k → AtMost (counted_by p at told) (suc k)
most_told p at k (Retired pc bits size) h c = most_counted p at k (pc == call) (pc == back) h c
most_told p at k (Interrupted pc id) h c = (c, omega (arith, h.1), omega (arith, h.2))
most_told p at k (Raised pc code) h c = (c, omega (arith, h.1), omega (arith, h.2))
most_told p at k (Halted code) h c = (c, omega (arith, h.1), omega (arith, h.2))
most_told p at k (VectorFault id) h c = (c, omega (arith, h.1), omega (arith, h.2))

most_standing : (m : Meanings) (es : List Event) (count k : ℕ) (new : State) (rises : Bool) → count ≤ k → (standing m es count new rises).count ≤ suc k
most_standing m es count k new true l = omega (arith, l)
most_standing m es count k new false l = omega (arith, l)

pub at_most : (m : Meanings) (es : List Event) (b : State) (k : ℕ) → AtMost (progress_at m es b k) k
unfolding stands_at read_to
at_most m es b zero = (omega arith, omega arith, omega arith)
at_most m es b (suc k) =
    let at = chained_at m es b k in
    let turn = step m at.board in
    let h = at_most m es b k in
    subst (λ q. AtMost q (suc k)) (counted_told at (after_step m is_body es at.count turn) (read_to m es b k) turn.state turn.told)
    (most_told (of_both at (read_to m es b k)) (after_step m is_body es at.count turn) k turn.told h (most_standing m es at.count k turn.state (is_body turn.told) h.0))

-- ---- between rounds, and at the end

module _ (m : Meanings) (es : List Event) (from : ℕ) (d : Dispatcher) (bound : ℕ) (b : State) where
  -- ---- what a round says, from any state that the board stands beside after so many steps
  module _ (start : Servicing) (at : ℕ) where
    -- some moves were made, and are no half of a fused pair; the board has made as many steps as they cost, and stands beside the servicing state
    pub record StoodFrom (p : Progress) (w : Watched) (n : ℕ) : Type 0 where
      pub made : List (Made Move)
      pub state : Servicing
      pub rest : Rest
      pub leads : Leads (servicing_machine m es) made start state
      pub costs : at + cost (servicing_machine m es) d made ≡ n
      pub whole : is_halfway (servicing_machine m es) d made ≡ false
      pub within : n ≤ bound
      pub related : Related m d state rest
      pub events : AreEventsFrom state.outside.clic.shape.inputs from es
      pub stands : chained_at m es b n ≡ record { count = state.bodies; board = board_of state rest }
      pub read : read_to m es b n ≡ record { depth = length state.live; services = state.services }
      pub goes : GoesOnBefore m is_body es b n
      pub progress : p ≡ progress_at m es b n
      pub watch : w ≡ watched_of state

    -- after some moves a test holds, and the bound reaches to it; it is made where the round began, n steps after the start, or where an Enter of an input that is not hardware-vectored is due
    pub record BrokeFrom (n : ℕ) (kind : Broken) (steps : ℕ) (p : Progress) : Type 0 where
      pub made : List (Made Move)
      pub state : Servicing
      pub when : When
      pub leads : Leads (servicing_machine m es) made start state
      pub breaks : move m es state ≡ Breaks when kind p.bodies
      pub soft : (at + cost (servicing_machine m es) d made ≡ n) ⊎ (claims state ≡ true)
      pub steps_are : at + steps_before when (cost (servicing_machine m es) d made) ≡ steps
      pub within : at + steps_needed when (cost (servicing_machine m es) d made) ≤ bound
      pub goes : GoesOnBefore m is_body es b steps
      pub progress : p ≡ progress_at m es b steps
      pub services : (read_to m es b steps).services ≡ state.services

    -- after some moves the board has halted with no service live
    pub record OverFrom (n : ℕ) (p : Progress) (w : Watched) : Type 0 where
      pub made : List (Made Move)
      pub state : Servicing
      pub rest : Rest
      pub leads : Leads (servicing_machine m es) made start state
      pub costs : at + cost (servicing_machine m es) d made ≡ n
      pub within : n ≤ bound
      pub ends : move m es state ≡ MachineEnds
      pub goes : GoesOnBefore m is_body es b n
      pub related : Related m d state rest
      pub board : p.board ≡ board_of state rest
      pub bodies : p.bodies ≡ state.bodies
      pub none : state.live ≡ []
      pub progress : p ≡ progress_at m es b n
      pub services : (read_to m es b n).services ≡ state.services
      pub watch : w ≡ watched_of state

    -- what is due after some moves is beyond the bound
    pub record SpentFrom (p : Progress) : Type 0 where
      pub made : List (Made Move)
      pub state : Servicing
      pub leads : Leads (servicing_machine m es) made start state
      pub within : at + cost (servicing_machine m es) d made ≤ bound
      pub late : Late (servicing_machine m es) d start (bound - at) made (move m es state)
      pub goes : GoesOnBefore m is_body es b bound
      pub progress : p ≡ progress_at m es b bound
      pub services : (read_to m es b bound).services ≡ state.services

    -- of a round that begins after n steps
    abbrev pub RoundMeansFrom : ℕ → Round → Progress → Watched → Type 0
    RoundMeansFrom n (RoundMade k) p w = (0 < k) × StoodFrom p w (n + k)
    RoundMeansFrom n (Failed kind k) p w = BrokeFrom n kind (n + k) p
    RoundMeansFrom n Ended p w = OverFrom n p w
    RoundMeansFrom n Spent p w = SpentFrom p

    abbrev pub MeansFrom : ℕ → Rounded Watched → Type 0
    MeansFrom n o = RoundMeansFrom n o.told o.progress o.watch

  -- ---- the same from the start of a chain

  abbrev pub Stood : Progress → Watched → ℕ → Type 0
  Stood p w n = StoodFrom (begun m es b) 0 p w n

  -- the machine's run ends so, and the board has made so many steps, before each of which its run goes on
  pub record Final (end : ChainEnd) (steps : ℕ) (p : Progress) : Type 0 where
    pub ends : end_at (servicing_machine m es) d bound (begun m es b) ≡ record { end = end; steps = steps }
    pub goes : GoesOnBefore m is_body es b steps
    pub progress : p ≡ progress_at m es b steps
    pub services : (read_to m es b steps).services ≡ services_within (servicing_machine m es) d bound (begun m es b)

  -- the board has halted with no service live, beside the machine's last state
  pub record AtHalt (p : Progress) (w : Watched) : Type 0 where
    pub made : List (Made Move)
    pub state : Servicing
    pub rest : Rest
    pub over : run_to (servicing_machine m es) (begun m es b) (suc bound) ≡ Over made state
    pub related : Related m d state rest
    pub board : p.board ≡ board_of state rest
    pub none : state.live ≡ []
    pub watch : w ≡ watched_of state

  -- what a round that begins after n steps says
  abbrev pub RoundMeans : ℕ → Round → Progress → Watched → Type 0
  RoundMeans n (RoundMade k) p w = (0 < k) × Stood p w (n + k)
  RoundMeans n (Failed kind k) p w = Final (BrokenOff kind p.bodies) (n + k) p
  RoundMeans n Ended p w = Final (Done n p.bodies p.services) n p × AtHalt p w
  RoundMeans n Spent p w = Final BudgetSpent bound p

  abbrev pub Means : ℕ → Rounded Watched → Type 0
  Means n o = RoundMeans n o.told o.progress o.watch

  broke_final : (n : ℕ) (kind : Broken) (steps : ℕ) (p : Progress) → BrokeFrom (begun m es b) 0 n kind steps p → Final (BrokenOff kind p.bodies) steps p
  broke_final n kind steps p h =
      let c : ℕ = cost (servicing_machine m es) d h.made in
      let e = h.steps_are in
      let steps_are : steps_before h.when c ≡ steps = omega (arith, e) in
      record {
        ends = broken_end (servicing_machine m es) d (begun m es b) bound h.made h.state h.when kind p.bodies h.leads h.breaks (omega (arith, h.within))
            ∙ ap (λ k. record { end = BrokenOff kind p.bodies; steps = k }) steps_are;
        goes = h.goes;
        progress = h.progress;
        services = h.services ∙ sym (services_are (servicing_machine m es) d (begun m es b) bound h.made h.state h.leads (omega (arith, h.within, needed_more (servicing_machine m es) d h.when c)) (broke_last (servicing_machine m es) d (begun m es b) bound h.made (move m es h.state) h.when kind p.bodies h.breaks));
      }

  over_final : (n : ℕ) (p : Progress) (w : Watched) → OverFrom (begun m es b) 0 n p w → Final (Done n p.bodies p.services) n p × AtHalt p w
  over_final n p w h =
      let e = h.costs in
      let c : cost (servicing_machine m es) d h.made ≡ n = omega (arith, e) in
      let many : p.services ≡ length h.state.services = ap (λ (q : Progress). q.services) h.progress ∙ ap length h.services in (
        record {
          ends = done_end (servicing_machine m es) d (begun m es b) bound h.made h.state h.leads h.ends (omega (arith, c, h.within))
              ∙ (ap (λ k. record { end = Done k h.state.bodies (length h.state.services); steps = k }) c
              ∙ ap₂ (λ i j. record { end = Done n i j; steps = n }) (sym h.bodies) (sym many));
          goes = h.goes;
          progress = h.progress;
          services = h.services ∙ sym (services_are (servicing_machine m es) d (begun m es b) bound h.made h.state h.leads (omega (arith, c, h.within)) (over_last (servicing_machine m es) d (begun m es b) bound h.made (move m es h.state) h.ends));
        },
        record {
          made = h.made;
          state = h.state;
          rest = h.rest;
          over = over_at (servicing_machine m es) d bound (begun m es b) h.state h.made h.leads h.ends (omega (arith, c, h.within));
          related = h.related;
          board = h.board;
          none = h.none;
          watch = h.watch;
        },
      )

  spent_final : (p : Progress) → SpentFrom (begun m es b) 0 p → Final BudgetSpent bound p
  spent_final p h =
      let all : bound - 0 ≡ bound = omega arith in
      let late : Late (servicing_machine m es) d (begun m es b) bound h.made (move m es h.state) = subst (λ k. Late (servicing_machine m es) d (begun m es b) k h.made (move m es h.state)) all h.late in
      record {
        ends = spent_end (servicing_machine m es) d (begun m es b) bound h.made h.state h.leads late;
        goes = h.goes;
        progress = h.progress;
        services = h.services ∙ sym (services_are (servicing_machine m es) d (begun m es b) bound h.made h.state h.leads (omega (arith, h.within)) (late_last (servicing_machine m es) d (begun m es b) bound h.made (move m es h.state) late));
      }

  pub from_start : (n : ℕ) (t : Round) (p : Progress) (w : Watched) → RoundMeansFrom (begun m es b) 0 n t p w → RoundMeans n t p w
  from_start n (RoundMade k) p w h = h
  from_start n (Failed kind k) p w h = broke_final n kind (n + k) p h
  from_start n Ended p w h = over_final n p w h
  from_start n Spent p w h = spent_final p h

  -- the steps of a round are made before the end
  pub made_within : (n : ℕ) (t : Round) (p : Progress) (w : Watched) → n ≤ bound → RoundMeans n t p w → n + steps_made (bound - n) t ≤ (end_at (servicing_machine m es) d bound (begun m es b)).steps
  made_within n (RoundMade k) p w l (some, st) =
      let c = made_before_end (servicing_machine m es) d (begun m es b) bound st.made st.state st.leads (omega (arith, st.costs, st.within)) in
      omega (arith, c, st.costs)
  made_within n (Failed kind k) p w l f = let e = ap (λ e. e.steps) f.ends in omega (arith, e)
  made_within n Ended p w l (f, h) = let e = ap (λ e. e.steps) f.ends in omega (arith, e)
  made_within n Spent p w l f = let e = ap (λ e. e.steps) f.ends in omega (arith, e, l)
