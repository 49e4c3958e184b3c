-- Where a chain with direct services stands between two rounds, and at its end.
use Rattle.std.proofs.Common.{◌≡◌, ℕ, suc, ◌+◌, ◌-◌, ◌<◌, ◌≤◌, false, List, [], length, Option, Some, None, sym, ap, ap₂, ◌∙◌, arith}
use Rattle.device_model.specs.Meanings.{Meanings}
use Rattle.hart_board.specs.State.{State}
use Rattle.hart_board.specs.Event.{AreEventsFrom}
use Rattle.hart_board.specs.declared.event.Event.{Event}
use Rattle.chain_moves.specs.Servicing.{Servicing}
use Rattle.chain_moves.specs.Machine.{When, Before, Breaks, Ends, Machine}
use Rattle.chain_moves.specs.Run.{Made, Over, run_to, Leads}
use Rattle.chain_moves.specs.Cost.{cost, is_halfway}
use Rattle.chain_core.specs.End.{steps_before, steps_needed, end_at, services_within}
use Rattle.chain_core.specs.ChainRun.{is_body, chained_at, read_to}
use Rattle.chain_moves.specs.Watched.{watched_of}
use Rattle.chain_moves.specs.Beside.{Rest, board_of}
use Rattle.chain_moves.specs.Related.{Related}
use Rattle.chain_core.specs.Progress.{Progress, goes, progress_at}
use Rattle.chain_core.specs.Rounds.{Rounded, steps_made}
use Rattle.chain_moves.specs.declared.broken.Broken.{Broken}
use Rattle.chain_moves.specs.declared.dispatcher.Dispatcher.{Dispatcher}
use Rattle.chain_core.specs.declared.chain_end.ChainEnd.{ChainEnd}
use Rattle.chain_core.specs.declared.chain_end.ChainEnd.TheVariants.{Done, BudgetSpent, Broken as BrokenOff}
use Rattle.chain_core.specs.declared.round.Round.{Round}
use Rattle.chain_core.specs.declared.round.Round.TheVariants.{Made as RoundMade, Failed, Ended, Spent}
use Rattle.chain_core.proofs.Ends.{needed_more}
use Rattle.chain_core.proofs.Bounded.{Late, made_before_end, done_end, broken_end, spent_end, services_are, late_last, broke_last, over_last}
use Rattle.hart_board.specs.Steps.{GoesOnBefore}
use Rattle.chain_core.proofs.Standing.{goes_to, goes_before}
use Rattle.chain_direct.specs.Kind.{Kind}
use Rattle.chain_direct.specs.Directed.{Direct, Listed, Directed}
use Rattle.chain_direct.specs.DirectMoves.{direct_move, direct_machine, direct_start}
use Rattle.chain_direct.specs.DirectBeside.{direct_board_of}
use Rattle.chain_direct.specs.DirectRelated.{DirectRelated}
use Rattle.chain_direct.specs.DirectWatched.{DirectWatched}
use Rattle.chain_direct.specs.DirectChain.{begun_to}

module _ (m : Meanings) (es : List Event) (from : ℕ) (d : Dispatcher) (bound : ℕ) (b : State) where
  abbrev machine : Machine Kind Directed Listed
  machine = direct_machine m es

  abbrev start : Directed
  start = direct_start m es b

  -- no direct service is live, or one: what the board stands beside then, and what is kept of it
  abbrev pub BesideBy : Servicing → Rest → ℕ → Option (List ℕ) → Option Direct → Type 0
  BesideBy s x n kept None = Related m d s x × (chained_at m es b n ≡ record { count = s.bodies; board = board_of s x }) × (kept ≡ None)
  BesideBy s x n kept (Some v) = DirectRelated m d s v x × (chained_at m es b n ≡ record { count = s.bodies; board = direct_board_of s v x }) × (kept ≡ Some v.kept)

  -- some moves were made, and are no half of a fused pair; the board has made as many steps as they cost, and stands beside the machine's state
  pub record DirectStood (p : Progress) (w : DirectWatched) (n : ℕ) : Type 0 where
    pub made : List (Made Kind)
    pub state : Directed
    pub rest : Rest
    pub leads : Leads machine made start state
    pub costs : cost machine d made ≡ n
    pub whole : is_halfway machine d made ≡ false
    pub within : n ≤ bound
    pub beside : BesideBy state.chained rest n w.kept state.direct
    pub count : (chained_at m es b n).count ≡ state.chained.bodies
    pub events : AreEventsFrom state.chained.outside.clic.shape.inputs from es
    pub read : read_to m es b n ≡ record { depth = length state.chained.live; services = state.chained.services }
    pub goes : GoesOnBefore m is_body es b n
    pub listed : begun_to m es b n ≡ state.services
    pub counted : w.begun + length state.chained.services ≡ length state.services
    pub progress : p ≡ progress_at m es b n
    pub watch : w.chained ≡ watched_of state.chained

  -- the machine's run ends so, and the board has made so many steps, before each of which its run goes on
  pub record DirectFinal (end : ChainEnd) (steps : ℕ) (p : Progress) : Type 0 where
    pub ends : end_at machine d bound start ≡ record { end = end; steps = steps }
    pub goes : GoesOnBefore m is_body es b steps
    pub progress : p ≡ progress_at m es b steps
    pub services : begun_to m es b steps ≡ services_within machine d bound start

  -- the board has halted with no service live, beside the machine's last state
  pub record DirectHalt (n : ℕ) (p : Progress) (w : DirectWatched) : Type 0 where
    pub made : List (Made Kind)
    pub state : Directed
    pub rest : Rest
    pub over : run_to machine start (suc bound) ≡ Over made state
    pub related : Related m d state.chained rest
    pub board : p.board ≡ board_of state.chained rest
    pub none : state.chained.live ≡ []
    pub many : p.services + w.begun ≡ length (begun_to m es b n)
    pub watch : w.chained ≡ watched_of state.chained

  -- what a round that begins after n steps says
  abbrev pub DirectMeans : ℕ → Round → Progress → DirectWatched → Type 0
  DirectMeans n (RoundMade k) p w = (0 < k) × DirectStood p w (n + k)
  DirectMeans n (Failed kind k) p w = DirectFinal (BrokenOff kind p.bodies) (n + k) p
  DirectMeans n Ended p w = DirectFinal (Done n p.bodies (p.services + w.begun)) n p × DirectHalt n p w
  DirectMeans n Spent p w = DirectFinal BudgetSpent bound p

  abbrev pub DirectSays : ℕ → Rounded DirectWatched → Type 0
  DirectSays n o = DirectMeans n o.told o.progress o.watch

  -- the steps of a round are made before the end
  pub direct_within : (n : ℕ) (t : Round) (p : Progress) (w : DirectWatched) → n ≤ bound → DirectMeans n t p w → n + steps_made (bound - n) t ≤ (end_at machine d bound start).steps
  direct_within n (RoundMade k) p w l (some, st) =
      let c = made_before_end machine d start bound st.made st.state st.leads (omega (arith, st.costs, st.within)) in
      omega (arith, c, st.costs)
  direct_within n (Failed kind k) p w l f = let e = ap (λ e. e.steps) f.ends in omega (arith, e)
  direct_within n Ended p w l (f, h) = let e = ap (λ e. e.steps) f.ends in omega (arith, e)
  direct_within n Spent p w l f = let e = ap (λ e. e.steps) f.ends in omega (arith, e, l)

  -- ---- ends, by the moves that were made and the one that is due

  pub final_broken : (made : List (Made Kind)) (t : Directed) (when : When) (kind : Broken) (k steps : ℕ) (p : Progress) → Leads machine made start t → direct_move m es t ≡ Breaks when kind k → steps_needed when (cost machine d made) ≤ bound → steps_before when (cost machine d made) ≡ steps → p.bodies ≡ k → p ≡ progress_at m es b steps → begun_to m es b steps ≡ t.services → GoesOnBefore m is_body es b steps
      → DirectFinal (BrokenOff kind p.bodies) steps p
  final_broken made t when kind k steps p leads breaks within steps_are bodies progress services going =
      record {
        ends = broken_end machine d start bound made t when kind k leads breaks within ∙ ap₂ (λ k steps. record { end = BrokenOff kind k; steps = steps }) (sym bodies) steps_are;
        goes = going;
        progress = progress;
        services = services ∙ sym (services_are machine d start bound made t leads (omega (arith, within, needed_more machine d when (cost machine d made))) (broke_last machine d start bound made (direct_move m es t) when kind k breaks));
      }

  pub final_spent : (made : List (Made Kind)) (t : Directed) (p : Progress) → Leads machine made start t → Late machine d start bound made (direct_move m es t) → cost machine d made ≤ bound → p ≡ progress_at m es b bound → begun_to m es b bound ≡ t.services → GoesOnBefore m is_body es b bound → DirectFinal BudgetSpent bound p
  final_spent made t p leads late within progress services going =
      record {
        ends = spent_end machine d start bound made t leads late;
        goes = going;
        progress = progress;
        services = services ∙ sym (services_are machine d start bound made t leads within (late_last machine d start bound made (direct_move m es t) late));
      }

  pub final_over : (made : List (Made Kind)) (t : Directed) (n : ℕ) (p : Progress) (w : DirectWatched) → Leads machine made start t → direct_move m es t ≡ Ends → cost machine d made ≡ n → n ≤ bound → p.bodies ≡ t.chained.bodies → p.services + w.begun ≡ length t.services → p ≡ progress_at m es b n → begun_to m es b n ≡ t.services → GoesOnBefore m is_body es b n
      → DirectFinal (Done n p.bodies (p.services + w.begun)) n p
  final_over made t n p w leads ends c within bodies many progress services going =
      record {
        goes = going;
        ends = done_end machine d start bound made t leads ends (omega (arith, c, within))
            ∙ (ap (λ k. record { end = Done k t.chained.bodies (length t.services); steps = k }) c
            ∙ ap₂ (λ i j. record { end = Done n i j; steps = n }) (sym bodies) (sym many));
        progress = progress;
        services = services ∙ sym (services_are machine d start bound made t leads (omega (arith, c, within)) (over_last machine d start bound made (direct_move m es t) ends));
      }

  -- ---- from where it stands
  module _ (p : Progress) (w : DirectWatched) (n : ℕ) (st : DirectStood p w n) where
    pub bodies_are : p.bodies ≡ st.state.chained.bodies
    bodies_are = ap (λ q. q.bodies) st.progress ∙ st.count

    -- a test that holds before anything is done
    pub refused_now : (kind : Broken) → direct_move m es st.state ≡ Breaks Before kind st.state.chained.bodies → DirectFinal (BrokenOff kind p.bodies) (n + 0) p
    refused_now kind e =
        let none : n + 0 ≡ n = omega arith in
        let c = st.costs in
        final_broken st.made st.state Before kind st.state.chained.bodies (n + 0) p st.leads e (omega (arith, c, st.within)) (c ∙ sym none) bodies_are (st.progress ∙ ap (progress_at m es b) (sym none)) (ap (begun_to m es b) none ∙ st.listed) (goes_before m es b (n + 0) n (omega arith) st.goes)

    -- no step is left for what is due
    pub spent_short : Late machine d start bound st.made (direct_move m es st.state) → bound - n < 1 → DirectFinal BudgetSpent bound (goes m es (bound - n) p)
    spent_short late short =
        let here : bound ≡ n = omega (arith, short, st.within) in
        let c = st.costs in
        final_spent st.made st.state (goes m es (bound - n) p) st.leads late (omega (arith, c, st.within)) (ap (goes m es (bound - n)) st.progress ∙ goes_to m es b bound n st.within) (ap (begun_to m es b) here ∙ st.listed) (goes_before m es b bound n (omega (arith, here)) st.goes)
