-- Rounds of a direct service: it begins, goes on, and ends.
use Rattle.std.proofs.Common.{◌≡◌, ℕ, suc, ◌+◌, ◌-◌, ◌<◌, ◌≤◌, ◌⊎◌, inl, inr, Bool, true, false, List, [], ◌∷◌, ◌++◌, length, Option, Some, None, refl, sym, ap, ap₂, ◌∙◌, subst, arith}
use Rattle.std.specs.Prelude.{nat_le}
use Rattle.std.proofs.lemmas.Bool.{leb-true, leb-false}
use Rattle.std.proofs.lemmas.List.{length-append, append-nil}
use Rattle.device_model.specs.Meanings.{Meanings, IsSound as IsSoundDevice}
use Rattle.clic_select.specs.Top.{top}
use Rattle.clic_select.specs.declared.choice.Choice.{Choice}
use Rattle.hart_memory.specs.Place.{place}
use Rattle.hart_board.specs.State.{State}
use Rattle.hart_board.specs.Step.{Turn, step, tried}
use Rattle.hart_board.specs.Run.{Stand}
use Rattle.hart_board.specs.Event.{AreEventsFrom}
use Rattle.hart_board.specs.declared.event.Event.{Event}
use Rattle.hart_report.specs.declared.stepped.Stepped.TheVariants.{Interrupted, Retired, Raised}
use Rattle.rvc_encoding.specs.declared.encoding.Encoding.{Encoding}
use Rattle.chain_moves.specs.Slot.{in_slot}
use Rattle.chain_moves.specs.Servicing.{marks}
use Rattle.chain_moves.specs.Bytes.{revived_at}
use Rattle.chain_moves.specs.Tests.{first_broken}
use Rattle.chain_moves.specs.Machine.{When, Within, After, Moved, Makes, Breaks, Machine}
use Rattle.chain_core.specs.End.{steps_needed}
use Rattle.chain_moves.specs.Run.{Made}
use Rattle.chain_moves.specs.Cost.{is_fused, is_halfway, price, cost, body_cost}
use Rattle.chain_moves.specs.Enter.{is_enter_due, table_address}
use Rattle.chain_core.specs.ChainRun.{chained_at, Read, read_to}
use Rattle.chain_moves.specs.Watched.{Watched, watched_of}
use Rattle.chain_moves.specs.Beside.{Rest, board_of}
use Rattle.chain_moves.specs.Related.{Related}
use Rattle.chain_core.specs.Progress.{Progress, gone_by, goes, progress_at}
use Rattle.chain_moves.specs.declared.broken.Broken.{Broken}
use Rattle.chain_moves.specs.declared.broken.Broken.TheVariants.{RegisterLost, Exception, BadTable, HaltInHandler}
use Rattle.chain_moves.specs.declared.dispatcher.Dispatcher.{Dispatcher}
use Rattle.chain_core.specs.declared.chain_end.ChainEnd.TheVariants.{BudgetSpent, Broken as BrokenOff}
use Rattle.chain_moves.specs.declared.moves.Move.TheVariants.{Body}
use Rattle.chain_moves.specs.declared.verdict.Verdict.TheVariants.{Refused, Plain as Quiet, Reviving}
use Rattle.chain_moves.proofs.OneOfThree.{at_made}
use Rattle.chain_core.proofs.Bounded.{Late}
use Rattle.chain_core.proofs.BodyRuns.{body_in_run}
use Rattle.chain_core.proofs.RoundsBegin.{body_whole}
use Rattle.chain_core.proofs.Told.{goes_one, gone_turn, events_hart}
use Rattle.chain_core.proofs.Standing.{goes_at, goes_before}
use Rattle.chain_direct.specs.Kind.{Kind, Begin, Plain, costs_as}
use Rattle.chain_direct.specs.Directed.{Direct, Listed, Directed}
use Rattle.chain_direct.specs.DirectBody.{are_same, direct_body}
use Rattle.chain_direct.specs.DirectMoves.{begin_tests, vectored, direct_move, direct_claims, direct_machine, direct_start}
use Rattle.chain_direct.specs.DirectRun.{is_vectored}
use Rattle.chain_direct.specs.DirectBeside.{direct_board_of}
use Rattle.chain_direct.specs.DirectRelated.{DirectRelated}
use Rattle.chain_direct.specs.DirectJudge.{judge_direct_body}
use Rattle.chain_direct.specs.DirectSteps.{new_direct, DirectRaises, DirectGoes, DirectTried, ReturnLoses, ReturnGoes, DirectBodyMeans}
use Rattle.chain_direct.specs.DirectWatched.{DirectWatched, without_direct}
use Rattle.chain_direct.specs.DirectChain.{begun_to}
use Rattle.chain_direct.specs.DirectRounds.{only_hard, hard_by, ended_round, round_tested, round_begun, round_begin, round_returned, round_ended, round_direct_turn, round_direct_body, round_direct_due, round_serving}
use Rattle.chain_direct.specs.declared.direct_verdict.DirectVerdict.{DirectVerdict}
use Rattle.chain_direct.specs.declared.direct_verdict.DirectVerdict.TheVariants.{Ends, Goes}
use Rattle.chain_direct.proofs.FourMoves.{IsPlainBody, body_plain}
use Rattle.chain_direct.proofs.DirectTurns.{direct_halts, direct_carries}
use Rattle.chain_direct.proofs.DirectBegins.{bad_by, begin_breaks, begins_so}
use Rattle.chain_direct.proofs.DirectBodies.{direct_body_turns}
use Rattle.chain_direct.proofs.DirectRuns.{BeginInRun, begin_in_run, none_begins}
use Rattle.chain_direct.proofs.DirectSoft.{begun_next}
use Rattle.chain_direct.proofs.DirectStanding.{BesideBy, DirectStood, DirectFinal, DirectSays, final_broken, refused_now, spent_short, bodies_are}

-- a move of one step
one_cost : (m : Meanings) (es : List Event) (d : Dispatcher) (made : List (Made Kind)) (kind : Kind) (claims : Bool) → costs_as kind ≡ Body → cost (direct_machine m es) d (record { kind = kind; claims = claims } ∷ made) ≡ cost (direct_machine m es) d made + 1
unfolding cost
one_cost m es d made kind claims e = ap (λ k. cost (direct_machine m es) d made + price k (is_halfway (direct_machine m es) d made) (is_fused d k claims)) e

one_whole : (m : Meanings) (es : List Event) (d : Dispatcher) (made : List (Made Kind)) (kind : Kind) (claims : Bool) → costs_as kind ≡ Body → is_halfway (direct_machine m es) d (record { kind = kind; claims = claims } ∷ made) ≡ false
one_whole m es d made kind claims e = ap (λ k. is_fused d k claims) e ∙ body_whole d claims

-- which input is taken directly
pub record HardDue (halted : Option ℕ) (o : Option Choice) (is_due : Bool) (t : Choice) : Type 0 where
  pub runs : halted ≡ None
  pub is_top : o ≡ Some t
  pub due : is_due ≡ true
  pub hard : t.shv ≡ true

not_some : {t : Choice} → None ≡ Some t → ⊥
not_some e = cc

same_choice : {t u : Choice} → Some t ≡ Some u → t ≡ u
same_choice e = cc

by_shv : (t u : Choice) (shv : Bool) → t.shv ≡ shv → only_hard t shv ≡ Some u → HardDue None (Some t) true u
by_shv t u true e h = let same = same_choice h in record { runs = refl; is_top = h; due = refl; hard = ap (λ (c : Choice). c.shv) (sym same) ∙ e }
by_shv t u false e h = absurd (not_some h)

pub hard_told : (halted : Option ℕ) (o : Option Choice) (is_due : Bool) (u : Choice) → hard_by halted o is_due ≡ Some u → HardDue halted o is_due u
hard_told (Some code) o is_due u h = absurd (not_some h)
hard_told None (Some t) true u h = by_shv t u t.shv refl h
hard_told None (Some t) false u h = absurd (not_some h)
hard_told None None is_due u h = absurd (not_some h)

module _ (m : Meanings) (es : List Event) (sound : IsSoundDevice m) (from : ℕ) (d : Dispatcher) (bound : ℕ) (b : State) (p : Progress) (w : DirectWatched) (n : ℕ) (st : DirectStood m es from d bound b p w n) where
  abbrev s : Directed
  s = st.state

  abbrev x : Rest
  x = st.rest

  abbrev machine : Machine Kind Directed Listed
  machine = direct_machine m es

  abbrev first : Directed
  first = direct_start m es b

  now : goes m es 1 p ≡ progress_at m es b (n + 1)
  now = ap (goes m es 1) st.progress ∙ goes_at m es b 1 n

  -- what is due is one step, and none is left
  late_made : (kind : Kind) (u : Directed) → costs_as kind ≡ Body → bound - n < 1 → Late machine d first bound st.made (Makes kind u)
  late_made kind u e short = let one = one_cost m es d st.made kind (direct_claims u) e in let c = st.costs in let within = st.within in omega (arith, one, c, short, within)

  -- ---- one begins
  module _ (none : s.direct ≡ None) (related : Related m d s.chained x) (stands : chained_at m es b n ≡ record { count = s.chained.bodies; board = board_of s.chained x }) (t : Choice) (h : HardDue (m.halted s.chained.outside.device) (top s.chained.outside.clic) (is_enter_due s.chained (top s.chained.outside.clic)) t) where
    chained_services : (vectored s t).chained.services ≡ s.chained.services
    unfolding vectored
    chained_services = refl

    is_due : is_enter_due s.chained (Some t) ≡ true
    is_due = ap (is_enter_due s.chained) (sym h.is_top) ∙ h.due

    pub board_is : p.board ≡ board_of s.chained x
    board_is = ap (λ (q : Progress). q.board) st.progress ∙ ap (λ (q : Stand). q.board) stands

    begun_now : first_broken (begin_tests s.chained.dead (table_address s.chained.table t.id)) ≡ None → (reaches : Bool) → nat_le body_cost (bound - n) ≡ reaches → DirectSays m es from d bound b n (round_begun m es (bound - n) p w reaches)
    begun_now untested false few =
        let g = begins_so m es s t none h.runs h.is_top is_due h.hard d x related untested in
        let short : bound - n < 1 = leb-false 1 (bound - n) few in
        spent_short m es from d bound b p w n st (subst (Late machine d first bound st.made) (sym g.makes) (late_made Begin (vectored s t) refl short)) short
    begun_now untested true enough =
        let g = begins_so m es s t none h.runs h.is_top is_due h.hard d x related untested in
        let room : 1 ≤ bound - n = leb-true 1 (bound - n) enough in
        let run = begin_in_run m es b n s.chained.bodies (board_of s.chained x) (direct_board_of (vectored s t).chained (new_direct s t) x) stands s.chained.pc t.id h.runs g.steps (ap is_vectored h.is_top ∙ h.hard) in
        let one = one_cost m es d st.made Begin (direct_claims (vectored s t)) refl in
        let one_more : n + 1 ≡ suc n = omega arith in
        let depth : (read_to m es b n).depth ≡ length s.chained.live = ap (λ (r : Read). r.depth) st.read in
        let c = st.costs in
        let counted = st.counted in
        let longer : length (vectored s t).services ≡ length s.services + 1 = ap length g.services ∙ length-append s.services _ in
        let chained : length (vectored s t).chained.services ≡ length s.chained.services = ap length chained_services in (
          omega arith,
          record {
            made = record { kind = Begin; claims = direct_claims (vectored s t) } ∷ st.made;
            state = vectored s t;
            rest = x;
            leads = (s, st.leads, g.makes, refl);
            costs = one ∙ ap (λ k. k + 1) c;
            whole = one_whole m es d st.made Begin (direct_claims (vectored s t)) refl;
            within = omega (arith, room, st.within);
            beside = subst (BesideBy m es from d bound b (vectored s t).chained x (n + 1) (Some p.board.registers)) (sym g.live) (g.related, run.stands ∙ ap (λ c. record { count = c; board = direct_board_of (vectored s t).chained (new_direct s t) x }) (sym g.bodies), ap (λ (q : State). Some q.registers) board_is);
            count = ap (λ (q : Stand). q.count) run.stands ∙ sym g.bodies;
            events = subst (λ i. AreEventsFrom i from es) (sym g.inputs) st.events;
            read = run.read ∙ (st.read ∙ ap₂ (λ y z. record { depth = length y; services = z }) (sym g.frames) (sym chained_services));
            goes = run.goes st.goes;
            listed = ap (begun_to m es b) one_more ∙ (begun_next m es b n ∙ (ap₂ (λ y z. y ++ z) st.listed (run.begins ∙ ap (λ k. record { direct = true; service = record { number = t.id; level = t.level; depth = suc k } } ∷ []) depth) ∙ sym g.services));
            counted = omega (arith, counted, longer, chained);
            progress = now;
            watch = st.watch ∙ ap₂ (λ y z. record { live = marks y; dead = z }) (sym g.frames) (sym g.dead);
          },
        )

    tested : (o : Option Broken) → first_broken (begin_tests s.chained.dead (table_address s.chained.table t.id)) ≡ o → DirectSays m es from d bound b n (round_tested m es (bound - n) p w o)
    tested (Some kind) e =
        let is_bad : kind ≡ BadTable = bad_by _ _ kind e in
        subst (λ k. DirectFinal m es from d bound b (BrokenOff k p.bodies) (n + 0) p) (sym is_bad) (refused_now m es from d bound b p w n st BadTable (begin_breaks m es s t none h.runs h.is_top is_due h.hard kind e))
    tested None e = begun_now e (nat_le body_cost (bound - n)) refl

    pub same_test : first_broken (begin_tests s.chained.dead (table_address s.chained.table t.id)) ≡ first_broken (begin_tests w.chained.dead (table_address p.board.csrs.mtvt t.id))
    same_test = ap₂ (λ (q : Watched) (c : State). first_broken (begin_tests q.dead (table_address c.csrs.mtvt t.id))) (sym st.watch) (sym board_is)

    pub begin_means : DirectSays m es from d bound b n (round_begin m es (bound - n) p w t)
    begin_means = tested (first_broken (begin_tests w.chained.dead (table_address p.board.csrs.mtvt t.id))) same_test

    -- its step, and what that adds
    pub begin_step : first_broken (begin_tests s.chained.dead (table_address s.chained.table t.id)) ≡ None → step m (board_of s.chained x) ≡ record { told = Interrupted s.chained.pc t.id; state = direct_board_of (vectored s t).chained (new_direct s t) x }
    begin_step untested = (begins_so m es s t none h.runs h.is_top is_due h.hard d x related untested).steps

    pub begin_runs : first_broken (begin_tests s.chained.dead (table_address s.chained.table t.id)) ≡ None → BeginInRun m es b n s.chained.bodies t.id (direct_board_of (vectored s t).chained (new_direct s t) x) (Interrupted s.chained.pc t.id)
    begin_runs untested =
        let g = begins_so m es s t none h.runs h.is_top is_due h.hard d x related untested in
        begin_in_run m es b n s.chained.bodies (board_of s.chained x) (direct_board_of (vectored s t).chained (new_direct s t) x) stands s.chained.pc t.id h.runs g.steps (ap is_vectored h.is_top ∙ h.hard)

  -- ---- one is live
  module _ (v : Direct) (live : s.direct ≡ Some v) (related : DirectRelated m d s.chained v x) (stands : chained_at m es b n ≡ record { count = s.chained.bodies; board = direct_board_of s.chained v x }) (kept : w.kept ≡ Some v.kept) where
    abbrev a : State
    a = direct_board_of s.chained v x

    pub live_board : p.board ≡ a
    live_board = ap (λ (q : Progress). q.board) st.progress ∙ ap (λ (q : Stand). q.board) stands

    halted_now : (code : ℕ) → m.halted s.chained.outside.device ≡ Some code → DirectFinal m es from d bound b (BrokenOff HaltInHandler p.bodies) (n + 0) p
    halted_now code e = refused_now m es from d bound b p w n st HaltInHandler (direct_halts m es s v code live e)

    module _ (runs : m.halted s.chained.outside.device ≡ None) where
      is_body : direct_move m es s ≡ direct_body m es s v
      is_body = direct_carries m es s v live runs

      turn_now : (turn : Turn) → step m a ≡ turn → gone_by m es p turn ≡ progress_at m es b (n + 1)
      turn_now turn e = gone_turn m es p turn (sym e ∙ ap (step m) (sym live_board)) ∙ (sym (goes_one m es p) ∙ now)

      -- nothing begins with it
      still : (pc : ℕ) (e : Encoding) (new : State) → step m a ≡ record { told = Retired pc e.bits e.length; state = new } → in_slot pc ≡ false → begun_to m es b (n + 1) ≡ s.services
      still pc e new turn out =
          let more : n + 1 ≡ suc n = omega arith in
          ap (begun_to m es b) more ∙ (begun_next m es b n ∙ (ap₂ (λ y z. y ++ z) st.listed (none_begins m es b n s.chained.bodies a new stands pc e.bits e.length turn out) ∙ append-nil s.services))

      chained_same : (after : Directed) → direct_body m es s v ≡ Makes (Plain Body) after → after.chained.services ≡ s.chained.services
      chained_same after e = (at_made (IsPlainBody s) (direct_body m es s v) (body_plain m es s v) (Plain Body) after e).4

      late_body : bound - n < 1 → (moved : Moved Kind Directed) → direct_body m es s v ≡ moved → Late machine d first bound st.made moved → DirectFinal m es from d bound b BudgetSpent bound (goes m es (bound - n) p)
      late_body short moved e late = spent_short m es from d bound b p w n st (subst (Late machine d first bound st.made) (sym (is_body ∙ e)) late) short

      late_test : (when : When) (kind : Broken) (k : ℕ) → bound - n < 1 → steps_needed when (cost machine d st.made) ≡ cost machine d st.made + 1 → Late machine d first bound st.made (Breaks when kind k)
      late_test when kind k short e = let c = st.costs in let within = st.within in omega (arith, e, c, short, within)

      -- ---- its MRET
      registers_now : (e : Encoding) (new : State) → step m a ≡ record { told = Retired s.chained.pc e.bits e.length; state = new } → in_slot s.chained.pc ≡ false → (goes m es 1 p).board.registers ≡ new.registers
      registers_now e new turn out =
          let run = body_in_run m es b n s.chained.bodies a new s.chained.pc e.bits e.length stands turn out in
          ap (λ (q : Progress). q.board.registers) now ∙ (ap (λ (q : Stand). q.board.registers) run.stands ∙ (events_hart m (s.chained.bodies + 1) es new).registers)

      return_loses : 1 ≤ bound - n → ReturnLoses m es d s v x → DirectSays m es from d bound b n (round_returned (goes m es 1 p) w v.kept)
      return_loses room r =
          let run = body_in_run m es b n s.chained.bodies a r.new s.chained.pc r.encoding.bits r.encoding.length stands r.steps r.outside in
          let c = st.costs in
          let within = st.within in
          let lost : are_same v.kept (goes m es 1 p).board.registers 32 ≡ false = ap (λ l. are_same v.kept l 32) (registers_now r.encoding r.new r.steps r.outside) ∙ r.lost in
          let bodies : (goes m es 1 p).bodies ≡ s.chained.bodies + 1 = ap (λ (q : Progress). q.bodies) now ∙ ap (λ (q : Stand). q.count) run.stands in
          subst (λ k. DirectSays m es from d bound b n (record { told = ended_round k; progress = goes m es 1 p; watch = without_direct w })) (sym lost)
          (final_broken m es from d bound b st.made s After RegisterLost (s.chained.bodies + 1) (n + 1) (goes m es 1 p) st.leads (is_body ∙ r.breaks) (omega (arith, c, within, room)) (ap (λ k. k + 1) c) bodies now (still s.chained.pc r.encoding r.new r.steps r.outside) (run.goes st.goes))

      return_goes : 1 ≤ bound - n → ReturnGoes m es d s v x → DirectSays m es from d bound b n (round_returned (goes m es 1 p) w v.kept)
      return_goes room g =
          let run = body_in_run m es b n s.chained.bodies a g.new s.chained.pc g.encoding.bits g.encoding.length stands g.steps g.outside in
          let c = st.costs in
          let within = st.within in
          let same : are_same v.kept (goes m es 1 p).board.registers 32 ≡ true = ap (λ l. are_same v.kept l 32) (registers_now g.encoding g.new g.steps g.outside) ∙ g.same in
          let chained = chained_same g.after g.makes in
          let there = run.stands ∙ ap₂ (λ c b. record { count = c; board = b }) (sym g.bodies) g.events in
          subst (λ k. DirectSays m es from d bound b n (record { told = ended_round k; progress = goes m es 1 p; watch = without_direct w })) (sym same) (
            omega arith,
            record {
              made = record { kind = Plain Body; claims = direct_claims g.after } ∷ st.made;
              state = g.after;
              rest = g.rest;
              leads = (s, st.leads, is_body ∙ g.makes, refl);
              costs = one_cost m es d st.made (Plain Body) (direct_claims g.after) refl ∙ ap (λ k. k + 1) c;
              whole = one_whole m es d st.made (Plain Body) (direct_claims g.after) refl;
              within = omega (arith, room, within);
              beside = subst (BesideBy m es from d bound b g.after.chained g.rest (n + 1) None) (sym g.direct) (g.related, there, refl);
              count = ap (λ (q : Stand). q.count) there;
              events = subst (λ i. AreEventsFrom i from es) (sym g.inputs) st.events;
              read = run.read ∙ (st.read ∙ ap₂ (λ y z. record { depth = length y; services = z }) (sym g.live) (sym chained));
              goes = run.goes st.goes;
              listed = still s.chained.pc g.encoding g.new g.steps g.outside ∙ sym g.services;
              counted = ap (λ l. w.begun + length l) chained ∙ (st.counted ∙ ap length (sym g.services));
              progress = now;
              watch = st.watch ∙ ap₂ (λ y z. record { live = marks y; dead = z }) (sym g.live) (sym g.dead_is);
            },
          )

      return_short : bound - n < 1 → ReturnLoses m es d s v x ⊎ ReturnGoes m es d s v x → DirectFinal m es from d bound b BudgetSpent bound (goes m es (bound - n) p)
      return_short short (inl r) = late_body short _ r.breaks (late_test After RegisterLost (s.chained.bodies + 1) short refl)
      return_short short (inr g) = late_body short _ g.makes (late_made (Plain Body) g.after refl short)

      returning : (reaches : Bool) → nat_le body_cost (bound - n) ≡ reaches → ReturnLoses m es d s v x ⊎ ReturnGoes m es d s v x → DirectSays m es from d bound b n (round_ended m es (bound - n) p w v.kept reaches)
      returning false few t = return_short (leb-false 1 (bound - n) few) t
      returning true enough (inl r) = return_loses (leb-true 1 (bound - n) enough) r
      returning true enough (inr g) = return_goes (leb-true 1 (bound - n) enough) g

      -- ---- another of its instructions
      raising : (dead : List Bool) → 1 ≤ bound - n → DirectRaises m es d s v x → DirectSays m es from d bound b n (round_direct_turn m es p w dead (tried m p.board))
      raising dead room r =
          let none : n + 0 ≡ n = omega arith in
          let c = st.costs in
          let within = st.within in
          let same : record p { board = a } ≡ p = ap (λ b. record p { board = b }) (sym live_board) in
          let is : tried m p.board ≡ record { told = Raised s.chained.pc r.trap.code; state = a } = ap (tried m) live_board ∙ r.tries in
          subst (λ (turn : Turn). DirectSays m es from d bound b n (round_direct_turn m es p w dead turn)) (sym is)
          (final_broken m es from d bound b st.made s Within (Exception r.trap.code) s.chained.bodies (n + 0) (record p { board = a }) st.leads (is_body ∙ r.breaks) (omega (arith, c, within, room)) (c ∙ sym none) (bodies_are m es from d bound b p w n st) (same ∙ (st.progress ∙ ap (progress_at m es b) (sym none))) (ap (begun_to m es b) none ∙ st.listed) (goes_before m es b (n + 0) n (omega arith) st.goes))

      going : (dead : List Bool) → 1 ≤ bound - n → DirectGoes m es d s v x dead → DirectSays m es from d bound b n (round_direct_turn m es p w dead (tried m p.board))
      going dead room g =
          let run = body_in_run m es b n s.chained.bodies a g.new s.chained.pc g.encoding.bits g.encoding.length stands g.steps g.outside in
          let c = st.costs in
          let within = st.within in
          let chained = chained_same g.after g.makes in
          let there = run.stands ∙ ap₂ (λ c b. record { count = c; board = b }) (sym g.bodies) g.events in
          let is : tried m p.board ≡ record { told = Retired s.chained.pc g.encoding.bits g.encoding.length; state = g.new } = ap (tried m) live_board ∙ g.tries in
          subst (λ (turn : Turn). DirectSays m es from d bound b n (round_direct_turn m es p w dead turn)) (sym is) (
            omega arith,
            record {
              made = record { kind = Plain Body; claims = direct_claims g.after } ∷ st.made;
              state = g.after;
              rest = g.rest;
              leads = (s, st.leads, is_body ∙ g.makes, refl);
              costs = one_cost m es d st.made (Plain Body) (direct_claims g.after) refl ∙ ap (λ k. k + 1) c;
              whole = one_whole m es d st.made (Plain Body) (direct_claims g.after) refl;
              within = omega (arith, room, within);
              beside = subst (BesideBy m es from d bound b g.after.chained g.rest (n + 1) w.kept) (sym (g.direct ∙ live)) (g.related, there, kept);
              count = ap (λ (q : Stand). q.count) there;
              events = subst (λ i. AreEventsFrom i from es) (sym g.inputs) st.events;
              read = run.read ∙ (st.read ∙ ap₂ (λ y z. record { depth = length y; services = z }) (sym g.live) (sym chained));
              goes = run.goes st.goes;
              listed = still s.chained.pc g.encoding g.new g.steps g.outside ∙ sym g.services;
              counted = ap (λ l. w.begun + length l) chained ∙ (st.counted ∙ ap length (sym g.services));
              progress = turn_now (record { told = Retired s.chained.pc g.encoding.bits g.encoding.length; state = g.new }) g.steps;
              watch = ap (λ (q : Watched). record { live = q.live; dead = dead }) st.watch ∙ ap₂ (λ y z. record { live = marks y; dead = z }) (sym g.live) (sym g.dead_is);
            },
          )

      tried_short : (dead : List Bool) → bound - n < 1 → DirectTried m es d s v x dead → DirectFinal m es from d bound b BudgetSpent bound (goes m es (bound - n) p)
      tried_short dead short (inl r) = late_body short _ r.breaks (late_test Within (Exception r.trap.code) s.chained.bodies short refl)
      tried_short dead short (inr g) = late_body short _ g.makes (late_made (Plain Body) g.after refl short)

      trying : (dead : List Bool) (reaches : Bool) → nat_le body_cost (bound - n) ≡ reaches → DirectTried m es d s v x dead → DirectSays m es from d bound b n (round_direct_body m es (bound - n) p w reaches dead)
      trying dead false few t = tried_short dead (leb-false 1 (bound - n) few) t
      trying dead true enough (inl r) = raising dead (leb-true 1 (bound - n) enough) r
      trying dead true enough (inr g) = going dead (leb-true 1 (bound - n) enough) g

      dead_is : w.chained.dead ≡ s.chained.dead
      dead_is = ap (λ (q : Watched). q.dead) st.watch

      by_verdict : (verdict : DirectVerdict) → DirectBodyMeans m es d s v x verdict → DirectSays m es from d bound b n (round_direct_due m es (bound - n) p w v.kept verdict)
      by_verdict Ends t = returning (nat_le body_cost (bound - n)) refl t
      by_verdict (Goes (Refused kind)) e = refused_now m es from d bound b p w n st kind (is_body ∙ e)
      by_verdict (Goes Quiet) t = subst (λ dead. DirectSays m es from d bound b n (round_direct_body m es (bound - n) p w (nat_le body_cost (bound - n)) dead)) (sym dead_is) (trying s.chained.dead (nat_le body_cost (bound - n)) refl t)
      by_verdict (Goes (Reviving at width)) t = subst (λ dead. DirectSays m es from d bound b n (round_direct_body m es (bound - n) p w (nat_le body_cost (bound - n)) (revived_at (place at width) width dead))) (sym dead_is) (trying (revived_at (place at width) width s.chained.dead) (nat_le body_cost (bound - n)) refl t)

      carried : DirectSays m es from d bound b n (round_direct_due m es (bound - n) p w v.kept (judge_direct_body p.board w.chained))
      carried =
          let same : judge_direct_body p.board w.chained ≡ judge_direct_body a (watched_of s.chained) = ap₂ judge_direct_body live_board st.watch in
          subst (λ verdict. DirectSays m es from d bound b n (round_direct_due m es (bound - n) p w v.kept verdict)) (sym same) (by_verdict (judge_direct_body a (watched_of s.chained)) (direct_body_turns m es d s v x sound from st.events related runs))

    by_halt : (o : Option ℕ) → m.halted s.chained.outside.device ≡ o → DirectSays m es from d bound b n (round_serving m es (bound - n) p w v.kept o)
    by_halt (Some code) e = halted_now code e
    by_halt None e = carried e

    pub serving_means : DirectSays m es from d bound b n (round_serving m es (bound - n) p w v.kept (m.halted p.board.outside.device))
    serving_means = by_halt (m.halted p.board.outside.device) (ap (λ (q : State). m.halted q.outside.device) (sym live_board))
