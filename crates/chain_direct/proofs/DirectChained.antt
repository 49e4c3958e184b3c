-- Rounds of the chained services, in a chain with direct ones.
use Rattle.std.proofs.Common.{◌≡◌, ℕ, ◌+◌, ◌-◌, ◌<◌, ◌≤◌, ◌⊎◌, inl, inr, ⊎_elim, true, List, [], ◌∷◌, ◌++◌, length, None, refl, sym, ap, ap₂, ◌∙◌, subst, arith}
use Rattle.std.proofs.lemmas.List.{length-append}
use Rattle.device_model.specs.Meanings.{Meanings, IsSound as IsSoundDevice}
use Rattle.hart_board.specs.State.{State}
use Rattle.hart_board.specs.Run.{Stand}
use Rattle.hart_board.specs.declared.event.Event.{Event}
use Rattle.chain_moves.specs.Judge.{judge_turn}
use Rattle.chain_moves.specs.Servicing.{Service, Servicing}
use Rattle.chain_moves.specs.Machine.{Machine}
use Rattle.chain_moves.specs.Run.{Made, Leads}
use Rattle.chain_moves.specs.Cost.{cost}
use Rattle.chain_core.specs.End.{steps_before, steps_needed}
use Rattle.chain_moves.specs.Moves.{claims, servicing_machine}
use Rattle.chain_core.specs.ChainRun.{chained_at, read_to}
use Rattle.chain_moves.specs.Watched.{Watched}
use Rattle.chain_moves.specs.Beside.{Rest, board_of}
use Rattle.chain_moves.specs.Related.{Related}
use Rattle.chain_core.specs.Progress.{Progress}
use Rattle.chain_core.specs.Fitting.{EntersFit, FusesFit}
use Rattle.chain_core.specs.Rounds.{round, steps_made}
use Rattle.chain_moves.specs.declared.broken.Broken.{Broken}
use Rattle.chain_moves.specs.declared.dispatcher.Dispatcher.{Dispatcher}
use Rattle.chain_moves.specs.declared.moves.Move.{Move}
use Rattle.chain_core.specs.declared.round.Round.{Round}
use Rattle.chain_core.specs.declared.round.Round.TheVariants.{Made as RoundMade, Failed, Ended, Spent}
use Rattle.chain_core.proofs.Ends.{moves_below, over_at}
use Rattle.chain_core.proofs.Standing.{StoodFrom, BrokeFrom, OverFrom, SpentFrom, RoundMeansFrom}
use Rattle.chain_core.proofs.RoundMeans.{round_from, enter_room, fuse_room}
use Rattle.chain_direct.specs.Kind.{Kind}
use Rattle.chain_direct.specs.Directed.{Listed, Directed, all_chained}
use Rattle.chain_direct.specs.DirectMoves.{direct_machine, direct_start}
use Rattle.chain_direct.specs.DirectWatched.{DirectWatched, with_chained}
use Rattle.chain_direct.specs.DirectChain.{begun_to}
use Rattle.chain_direct.specs.DirectRounds.{hard_due, round_chained}
use Rattle.chain_direct.proofs.NothingDirect.{alone, all_plain, all_as_many, same_halfway}
use Rattle.chain_direct.proofs.Raised.{leads_on, half_on, needed_on, before_on, Raised, raised, raised_ends, all_cost, late_on, breaks_on}
use Rattle.chain_direct.proofs.SoftSteps.{Soft}
use Rattle.chain_direct.proofs.SoftRounds.{soft_round}
use Rattle.chain_direct.proofs.DirectSoft.{listed_on}
use Rattle.chain_direct.proofs.DirectStanding.{DirectStood, DirectMeans, DirectSays, final_broken, final_spent, final_over}

heads : {a b : Service} {x y : List Service} → a ∷ x ≡ b ∷ y → x ≡ y
heads e = cc

cancelled : (a x y : List Service) → a ++ x ≡ a ++ y → x ≡ y
cancelled [] x y e = e
cancelled (s ∷ a) x y e = cancelled a x y (heads e)

no_cost : (m : Meanings) (es : List Event) (d : Dispatcher) → cost (servicing_machine m es) d [] ≡ 0
unfolding cost
no_cost m es d = refl

module _ (m : Meanings) (es : List Event) (sound : IsSoundDevice m) (from : ℕ) (d : Dispatcher) (bound : ℕ) (b : State) (p : Progress) (w : DirectWatched) (n : ℕ) (st : DirectStood m es from d bound b p w n) where
  abbrev s : Servicing
  s = st.state.chained

  abbrev x : Rest
  x = st.rest

  abbrev l : List Listed
  l = st.state.services

  abbrev machine : Machine Kind Directed Listed
  machine = direct_machine m es

  abbrev first : Directed
  first = direct_start m es b

  module _ (none : st.state.direct ≡ None) (related : Related m d s x) (stands : chained_at m es b n ≡ record { count = s.bodies; board = board_of s x }) (kept : w.kept ≡ None) where
    from_here : StoodFrom m es from d bound b s n p w.chained n
    from_here = record {
      made = [];
      state = s;
      rest = x;
      leads = refl;
      costs = (let c = no_cost m es d in omega (arith, c));
      whole = refl;
      within = st.within;
      related = related;
      events = st.events;
      stands = stands;
      read = st.read;
      goes = st.goes;
      progress = st.progress;
      watch = st.watch;
    }

    leads_here : Leads machine st.made first (alone s l)
    leads_here = subst (Leads machine st.made first) (ap (λ o. record { chained = s; direct = o; services = l }) none) st.leads

    -- what was read off of the moves since then
    listed_is : (k : ℕ) (made : List (Made Move)) (t : Servicing) (r : Raised m es s t made l) → ((j : ℕ) → j < k → Soft m es b (n + j)) → (read_to m es b (n + k)).services ≡ t.services → begun_to m es b (n + k) ≡ r.listed
    listed_is k made t r soft e =
        let q = listed_on m es b n k soft in
        let same : q.new ≡ r.new = cancelled s.services q.new r.new (ap (λ y. y ++ q.new) (sym (ap (λ y. y.services) st.read)) ∙ (sym q.read ∙ (e ∙ r.read))) in
        q.begun ∙ (ap₂ (λ y z. y ++ all_chained z) st.listed same ∙ sym r.listed_are)

    many : (made : List (Made Move)) (t : Servicing) (r : Raised m es s t made l) → w.begun + length t.services ≡ length r.listed
    many made t r =
        let one = ap length r.read ∙ length-append s.services r.new in
        let two = ap length r.listed_are ∙ length-append l (all_chained r.new) in
        let three = all_as_many r.new in
        let c = st.counted in
        omega (arith, one, two, three, c)

    cost_is : (made : List (Made Move)) → cost machine d (all_plain made ++ st.made) ≡ n + cost (servicing_machine m es) d made
    cost_is made = all_cost m es d n bound st.made first s s made l st.whole st.costs st.within made

    went : (k : ℕ) (q : Progress) (w' : Watched) → ((j : ℕ) → j < k → Soft m es b (n + j)) → StoodFrom m es from d bound b s n q w' (n + k) → DirectStood m es from d bound b q (with_chained w w') (n + k)
    went k q w' soft h =
        let r = raised m es h.made s h.state l h.leads in
        record {
          made = all_plain h.made ++ st.made;
          state = alone h.state r.listed;
          rest = h.rest;
          leads = leads_on machine d (all_plain h.made) st.made first (alone s l) (alone h.state r.listed) leads_here r.leads;
          costs = cost_is h.made ∙ h.costs;
          whole = half_on machine d (all_plain h.made) st.made st.whole ∙ (same_halfway m es d h.made ∙ h.whole);
          within = h.within;
          beside = (h.related, h.stands, kept);
          count = ap (λ (at : Stand). at.count) h.stands;
          events = h.events;
          read = h.read;
          goes = h.goes;
          listed = listed_is k h.made h.state r soft (ap (λ y. y.services) h.read);
          counted = many h.made h.state r;
          progress = h.progress;
          watch = h.watch;
        }

    broke : (quiet : hard_due m (board_of s x) ≡ None) (kind : Broken) (k : ℕ) (q : Progress) → ((j : ℕ) → j < k → Soft m es b (n + j)) → BrokeFrom m es from d bound b s n n kind (n + k) q → DirectMeans m es from d bound b n (Failed kind k) q w
    broke quiet kind k q soft h =
        let r = raised m es h.made s h.state l h.leads in
        let c : cost machine d (all_plain h.made ++ st.made) ≡ n + cost (servicing_machine m es) d h.made = cost_is h.made in
        let short : (length h.made ≤ 0) ⊎ (claims h.state ≡ true) =
        ⊎_elim
        (λ (e : n + cost (servicing_machine m es) d h.made ≡ n). inl (omega (arith, e, moves_below (servicing_machine m es) d h.made)))
        (λ (e : claims h.state ≡ true). inr e)
        h.soft in
        let needed : steps_needed h.when (cost machine d (all_plain h.made ++ st.made)) ≡ n + steps_needed h.when (cost (servicing_machine m es) d h.made) = ap (steps_needed h.when) c ∙ needed_on h.when n (cost (servicing_machine m es) d h.made) in
        final_broken m es from d bound b (all_plain h.made ++ st.made) (alone h.state r.listed) h.when kind q.bodies (n + k) q
        (leads_on machine d (all_plain h.made) st.made first (alone s l) (alone h.state r.listed) leads_here r.leads)
        (breaks_on m es s h.state x h.made r.listed h.when kind q.bodies quiet h.leads short h.breaks)
        (let within = h.within in omega (arith, needed, within))
        (ap (steps_before h.when) c ∙ (before_on h.when n (cost (servicing_machine m es) d h.made) ∙ h.steps_are))
        refl h.progress (listed_is k h.made h.state r soft h.services) h.goes

    over : (q : Progress) (w' : Watched) → OverFrom m es from d bound b s n n q w' → DirectMeans m es from d bound b n Ended q (with_chained w w')
    over q w' h =
        let r = raised m es h.made s h.state l h.leads in
        let c : cost machine d (all_plain h.made ++ st.made) ≡ n = cost_is h.made ∙ h.costs in
        let leads = leads_on machine d (all_plain h.made) st.made first (alone s l) (alone h.state r.listed) leads_here r.leads in
        let ends = raised_ends m es h.state r.listed h.ends in
        let here : n + 0 ≡ n = omega arith in
        let services : q.services ≡ length h.state.services = ap (λ (q : Progress). q.services) h.progress ∙ ap length h.services in
        let all = many h.made h.state r in
        let sum : q.services + w.begun ≡ length r.listed = omega (arith, services, all) in
        let listed : begun_to m es b n ≡ r.listed = ap (begun_to m es b) (sym here) ∙ listed_is 0 h.made h.state r (λ j few. absurd (omega (arith, few))) (ap (λ i. (read_to m es b i).services) here ∙ h.services) in (
          final_over m es from d bound b (all_plain h.made ++ st.made) (alone h.state r.listed) n q (with_chained w w') leads ends c st.within h.bodies sum h.progress listed h.goes,
          record {
            made = all_plain h.made ++ st.made;
            state = alone h.state r.listed;
            rest = h.rest;
            over = over_at machine d bound first (alone h.state r.listed) (all_plain h.made ++ st.made) leads ends (let within = st.within in omega (arith, c, within));
            related = h.related;
            board = h.board;
            none = h.none;
            many = sum ∙ ap length (sym listed);
            watch = h.watch;
          },
        )

    spent : (q : Progress) → ((j : ℕ) → j < bound - n → Soft m es b (n + j)) → SpentFrom m es from d bound b s n q → DirectMeans m es from d bound b n Spent q w
    spent q soft h =
        let r = raised m es h.made s h.state l h.leads in
        let c : cost machine d (all_plain h.made ++ st.made) ≡ n + cost (servicing_machine m es) d h.made = cost_is h.made in
        let all : n + (bound - n) ≡ bound = (let within = st.within in omega (arith, within)) in
        final_spent m es from d bound b (all_plain h.made ++ st.made) (alone h.state r.listed) q
        (leads_on machine d (all_plain h.made) st.made first (alone s l) (alone h.state r.listed) leads_here r.leads)
        (late_on m es d n bound st.made first s h.state h.made r.listed st.whole st.costs st.within h.late)
        (let within = h.within in omega (arith, c, within))
        h.progress
        (ap (begun_to m es b) (sym all) ∙ listed_is (bound - n) h.made h.state r soft (ap (λ i. (read_to m es b i).services) all ∙ h.services)) h.goes

    by_told : (quiet : hard_due m (board_of s x) ≡ None) (t : Round) (q : Progress) (w' : Watched) → ((j : ℕ) → j < steps_made (bound - n) t → Soft m es b (n + j)) → RoundMeansFrom m es from d bound b s n n t q w' → DirectMeans m es from d bound b n t q (with_chained w w')
    by_told quiet (RoundMade k) q w' soft (some, h) = (some, went k q w' soft h)
    by_told quiet (Failed kind k) q w' soft h = broke quiet kind k q soft h
    by_told quiet Ended q w' soft h = over q w' h
    by_told quiet Spent q w' soft h = spent q soft h

    pub chained_soft : (j : ℕ) → j < steps_made (bound - n) (round m es d (bound - n) p w.chained).told → Soft m es b (n + j)
    chained_soft = soft_round m es sound from d bound b s n p w.chained n from_here

    pub chained_means : hard_due m (board_of s x) ≡ None → DirectSays m es from d bound b n (round_chained w (round m es d (bound - n) p w.chained))
    chained_means quiet =
        let r = round m es d (bound - n) p w.chained in
        by_told quiet r.told r.progress r.watch chained_soft (round_from m es sound from d bound b s n p w.chained n from_here)

    -- what the code has to know of an Enter before it makes it
    module _ (runs : m.halted s.outside.device ≡ None) where
      pub chained_enters : EntersFit w.chained (judge_turn d p.board w.chained)
      unfolding from_here
      chained_enters = enter_room m es sound from d bound b s n p w.chained n from_here runs

      pub chained_fuses : FusesFit w.chained (judge_turn d p.board w.chained)
      unfolding from_here
      chained_fuses = fuse_room m es sound from d bound b s n p w.chained n from_here runs
