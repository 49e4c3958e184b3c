-- A round of a chain with direct services keeps step with the machine, or ends as it does; and what it writes.
use Rattle.std.proofs.Common.{◌≡◌, ℕ, suc, ◌+◌, ◌-◌, ◌<◌, ◌≤◌, Bool, true, false, List, [], ◌++◌, Option, Some, None, refl, sym, ap, ap₂, ◌∙◌, subst, arith}
use Rattle.std.specs.Prelude.{nat_le}
use Rattle.std.proofs.lemmas.Bool.{leb-false}
use Rattle.std.proofs.lemmas.List.{append-nil}
use Rattle.board_outside.specs.Sink.{SinkView, Writes}
use Rattle.board_outside.proofs.Writing.{then_writes}
use Rattle.device_model.specs.Meanings.{Meanings, IsSound as IsSoundDevice}
use Rattle.clic_select.specs.Top.{top}
use Rattle.clic_select.specs.declared.choice.Choice.{Choice}
use Rattle.hart_report.specs.Trace.{step_text}
use Rattle.hart_report.proofs.Texts.{same_text}
use Rattle.hart_board.specs.State.{State}
use Rattle.hart_board.specs.Step.{Turn, step, tried}
use Rattle.hart_board.specs.Run.{Stand}
use Rattle.hart_board.specs.Steps.{board_at}
use Rattle.hart_board.specs.declared.event.Event.{Event}
use Rattle.hart_report.specs.declared.stepped.Stepped.TheVariants.{Interrupted}
use Rattle.chain_moves.specs.Tests.{first_broken}
use Rattle.chain_moves.specs.Enter.{is_enter_due, table_address}
use Rattle.chain_moves.specs.Cost.{body_cost}
use Rattle.chain_core.specs.ChainRun.{is_body, chained_at, read_to}
use Rattle.chain_moves.specs.Watched.{Watched}
use Rattle.chain_moves.specs.Judge.{judge_turn}
use Rattle.chain_moves.specs.Beside.{Rest, board_of}
use Rattle.chain_moves.specs.Related.{Related}
use Rattle.chain_core.specs.Progress.{Progress, goes, progress_at}
use Rattle.chain_core.specs.Fitting.{EntersFit, FusesFit}
use Rattle.chain_core.specs.Text.{turn_text, next_text, steps_text, Cut, Tells}
use Rattle.chain_core.specs.Rounds.{raised_code, steps_made}
use Rattle.chain_moves.specs.declared.broken.Broken.{Broken}
use Rattle.chain_moves.specs.declared.dispatcher.Dispatcher.{Dispatcher}
use Rattle.chain_moves.specs.declared.verdict.Verdict.TheVariants.{Refused, Plain as Quiet, Reviving}
use Rattle.chain_core.proofs.OneStep.{masked}
use Rattle.chain_core.proofs.Standing.{goes_at}
use Rattle.chain_direct.specs.Directed.{Direct, Directed}
use Rattle.chain_direct.specs.DirectBody.{are_same}
use Rattle.chain_direct.specs.DirectMoves.{begin_tests, vectored}
use Rattle.chain_direct.specs.DirectBeside.{direct_board_of}
use Rattle.chain_direct.specs.DirectSteps.{new_direct}
use Rattle.chain_direct.specs.DirectJudge.{judge_direct_body}
use Rattle.chain_direct.specs.DirectText.{direct_line, listed_lines, text_after, text_to}
use Rattle.chain_direct.specs.DirectWatched.{DirectWatched}
use Rattle.chain_direct.specs.DirectRounds.{hard_due, ended_round, round_begun, round_tested, round_ended, round_direct_tried, round_direct_body, round_direct_due, round_serving, direct_round_by, direct_round, BeginTells, RoundTells}
use Rattle.chain_direct.specs.declared.direct_verdict.DirectVerdict.{DirectVerdict}
use Rattle.chain_direct.specs.declared.direct_verdict.DirectVerdict.TheVariants.{Ends, Goes}
use Rattle.chain_direct.proofs.Raised.{hard_is}
use Rattle.chain_direct.proofs.SoftSteps.{Soft, soft_at, calm_soft, soft_next, one_more}
use Rattle.chain_direct.proofs.DirectSoft.{text_more, soft_on}
use Rattle.chain_direct.proofs.DirectStanding.{BesideBy, DirectStood, DirectSays}
use Rattle.chain_direct.proofs.DirectChained.{chained_soft, chained_means, chained_enters, chained_fuses}
use Rattle.chain_direct.proofs.DirectLive.{HardDue, hard_told, begin_means, begin_step, begin_runs, serving_means}

not_kept : {kept : List ℕ} → Some kept ≡ None → ⊥
not_kept e = cc

-- ---- what was written over some steps

-- the sink failed in what a step adds; the board has made this step
pub record CutAt (m : Meanings) (es : List Event) (trace : Bool) (b board : State) (n : ℕ) (o v : SinkView) : Type 0 where
  pub k : ℕ
  pub early : k < n
  pub board_is : board ≡ board_at m is_body es b (k + 1)
  pub between : SinkView
  pub whole : Writes true o between (text_to m es trace b k)
  pub broken : Writes false between v (text_after m es trace b k)

module _ (m : Meanings) (es : List Event) (trace : Bool) (b : State) (n : ℕ) (p q : Progress) (o u v : SinkView) (at : p ≡ progress_at m es b n) (before : Writes true o u (text_to m es trace b n)) where
  soft_told : (k : ℕ) (w : SinkView) → ((j : ℕ) → j < k → Soft m es b (n + j)) → Writes true u w (steps_text m es trace k p) → Writes true o w (text_to m es trace b (n + k))
  soft_told k w soft h = same_text (ap (λ p. text_to m es trace b n ++ steps_text m es trace k p) at ∙ sym (soft_on m es b trace n k soft)) (then_writes before h)

  -- the steps of a chained service, or of one that is live
  pub tells_soft : (k : ℕ) → ((j : ℕ) → j < k → Soft m es b (n + j)) → Tells m es trace k true p q u v → Writes true o v (text_to m es trace b (n + k))
  tells_soft k soft h = soft_told k v soft h.1

  pub cut_soft : (k : ℕ) → ((j : ℕ) → j < k → Soft m es b (n + j)) → Cut m es trace k p q u v → CutAt m es trace b q.board (n + k) o v
  cut_soft k soft h =
      let early = h.early in
      let there : goes m es (h.k + 1) p ≡ progress_at m es b (n + (h.k + 1)) = ap (goes m es (h.k + 1)) at ∙ goes_at m es b (h.k + 1) n in
      let sum : n + (h.k + 1) ≡ n + h.k + 1 = omega arith in
      record {
        k = n + h.k;
        early = omega (arith, early);
        board_is = ap (λ (q : Progress). q.board) (h.made ∙ (there ∙ ap (progress_at m es b) sum));
        between = h.between;
        whole = soft_told h.k h.between (λ j l. soft j (omega (arith, l, early))) h.whole;
        broken = same_text (ap (next_text m trace) (ap (goes m es h.k) at ∙ goes_at m es b h.k n) ∙ sym (soft_next m es b trace (n + h.k) (soft h.k early))) h.broken;
      }

-- ---- a round of a direct service that is live makes a step at most

module _ (m : Meanings) (es : List Event) (left : ℕ) (p : Progress) (w : DirectWatched) where
  ended_most : (same : Bool) → steps_made left (ended_round same) ≤ 1
  ended_most true = omega arith
  ended_most false = omega arith

  return_most : (kept : List ℕ) (reaches : Bool) → nat_le body_cost left ≡ reaches → steps_made left (round_ended m es left p w kept reaches).told ≤ 1
  return_most kept true e = ended_most (are_same kept (goes m es body_cost p).board.registers 32)
  return_most kept false e = let l = leb-false 1 left e in omega (arith, l)

  tried_most : (dead : List Bool) (turn : Turn) (o : Option ℕ) → steps_made left (round_direct_tried m es p w dead turn o).told ≤ 1
  tried_most dead turn (Some code) = omega arith
  tried_most dead turn None = omega arith

  body_most : (dead : List Bool) (reaches : Bool) → nat_le body_cost left ≡ reaches → steps_made left (round_direct_body m es left p w reaches dead).told ≤ 1
  body_most dead true e = tried_most dead (tried m p.board) (raised_code (tried m p.board).told)
  body_most dead false e = let l = leb-false 1 left e in omega (arith, l)

  due_most : (kept : List ℕ) (verdict : DirectVerdict) → steps_made left (round_direct_due m es left p w kept verdict).told ≤ 1
  due_most kept Ends = return_most kept (nat_le body_cost left) refl
  due_most kept (Goes (Refused kind)) = omega arith
  due_most kept (Goes Quiet) = body_most w.chained.dead (nat_le body_cost left) refl
  due_most kept (Goes (Reviving at width)) = body_most _ (nat_le body_cost left) refl

-- ---- a round

module _ (m : Meanings) (es : List Event) (sound : IsSoundDevice m) (from : ℕ) (d : Dispatcher) (bound : ℕ) (b : State) (p : Progress) (w : DirectWatched) (n : ℕ) (st : DirectStood m es from d bound b p w n) where
  abbrev s : Directed
  s = st.state

  abbrev x : Rest
  x = st.rest

  abbrev left : ℕ
  left = bound - n

  -- ---- no direct service is live
  module _ (none : s.direct ≡ None) (related : Related m d s.chained x) (stands : chained_at m es b n ≡ record { count = s.chained.bodies; board = board_of s.chained x }) (kept : w.kept ≡ None) where
    board_is : p.board ≡ board_of s.chained x
    board_is = ap (λ (q : Progress). q.board) st.progress ∙ ap (λ (q : Stand). q.board) stands

    quiet : hard_due m p.board ≡ None → hard_due m (board_of s.chained x) ≡ None
    quiet e = ap (hard_due m) (sym board_is) ∙ e

    hard : (t : Choice) → hard_due m p.board ≡ Some t → HardDue (m.halted s.chained.outside.device) (top s.chained.outside.clic) (is_enter_due s.chained (top s.chained.outside.clic)) t
    hard t e = hard_told _ _ _ t (sym (hard_is m es s.chained x) ∙ (ap (hard_due m) (sym board_is) ∙ e))

    by_hard : (o : Option Choice) → hard_due m p.board ≡ o → DirectSays m es from d bound b n (direct_round_by m es d left p w None o)
    by_hard None e = chained_means m es sound from d bound b p w n st none related stands kept (quiet e)
    by_hard (Some t) e = begin_means m es sound from d bound b p w n st none related stands t (hard t e)

    -- what is added by the step with which one begins
    module _ (t : Choice) (h : HardDue (m.halted s.chained.outside.device) (top s.chained.outside.clic) (is_enter_due s.chained (top s.chained.outside.clic)) t) (untested : first_broken (begin_tests s.chained.dead (table_address s.chained.table t.id)) ≡ None) where
      begin_text : (trace : Bool) (q : Progress) → q ≡ goes m es 1 p → text_after m es trace b n ≡ steps_text m es trace 1 p ++ direct_line t.id q.board.csrs.mil (p.depth + 1)
      unfolding text_after listed_lines next_text
      begin_text trace q e =
          let run = begin_runs m es sound from d bound b p w n st none related stands t h untested in
          let turn = begin_step m es sound from d bound b p w n st none related stands t h untested in
          let level : q.board.csrs.mil ≡ (direct_board_of (vectored s t).chained (new_direct s t) x).csrs.mil = ap (λ (q : Progress). q.board.csrs.mil) (e ∙ (ap (goes m es 1) st.progress ∙ goes_at m es b 1 n)) ∙ ap (λ (q : Stand). q.board.csrs.mil) run.stands in
          let depth : p.depth ≡ (read_to m es b n).depth = ap (λ (q : Progress). q.depth) st.progress in
          let deep : suc (read_to m es b n).depth ≡ p.depth + 1 = omega (arith, depth) in
          let line : direct_line t.id (direct_board_of (vectored s t).chained (new_direct s t) x).csrs.mil (suc (read_to m es b n).depth) ≡ direct_line t.id q.board.csrs.mil (p.depth + 1) = ap₂ (λ y z. direct_line t.id y z) (sym level) deep in
          let told = ap (λ (q : Stand). step_text trace (step m q.board).told) stands ∙ ap (λ (u : Turn). step_text trace u.told) turn in
          let next : next_text m trace p ≡ step_text trace (Interrupted s.chained.pc t.id) ++ [] = ap (λ a. turn_text trace p.depth (step m a)) board_is ∙ ap (turn_text trace p.depth) turn in
          ap₂ (λ y z. y ++ listed_lines z) told run.begins
          ∙ (ap (λ z. step_text trace (Interrupted s.chained.pc t.id) ++ z) (append-nil _ ∙ line)
          ∙ sym (ap (λ y. y ++ direct_line t.id q.board.csrs.mil (p.depth + 1)) (one_more m es b trace p ∙ (next ∙ append-nil _))))

    module _ (trace : Bool) (q : Progress) (o u v : SinkView) (before : Writes true o u (text_to m es trace b n)) (t : Choice) (h : HardDue (m.halted s.chained.outside.device) (top s.chained.outside.clic) (is_enter_due s.chained (top s.chained.outside.clic)) t) where
      begun_text : (test : Option Broken) → first_broken (begin_tests s.chained.dead (table_address s.chained.table t.id)) ≡ test → BeginTells m es trace left t (round_tested m es left p w test).told true p q u v → Writes true o v (text_to m es trace b (n + steps_made left (round_tested m es left p w test).told))
      begun_text (Some kind) e g = tells_soft m es trace b n p q o u v st.progress before 0 (λ j few. absurd (omega (arith, few))) g
      begun_text None e g = by_room (nat_le body_cost left) refl g
        where
          by_room : (reaches : Bool) → nat_le body_cost left ≡ reaches → BeginTells m es trace left t (round_begun m es left p w reaches).told true p q u v → Writes true o v (text_to m es trace b (n + steps_made left (round_begun m es left p w reaches).told))
          by_room true r g = same_text (ap (λ y. text_to m es trace b n ++ y) (sym (begin_text t h e trace q g.0)) ∙ sym (text_more m es b trace n)) (then_writes before g.1)
          by_room false r g = let short = leb-false 1 left r in tells_soft m es trace b n p q o u v st.progress before left (λ j few. absurd (omega (arith, few, short))) g

      begun_cut : (test : Option Broken) → first_broken (begin_tests s.chained.dead (table_address s.chained.table t.id)) ≡ test → BeginTells m es trace left t (round_tested m es left p w test).told false p q u v → CutAt m es trace b q.board (n + steps_made left (round_tested m es left p w test).told) o v
      begun_cut (Some kind) e g = cut_soft m es trace b n p q o u v st.progress before 0 (λ j few. absurd (omega (arith, few))) g
      begun_cut None e g = by_room (nat_le body_cost left) refl g
        where
          by_room : (reaches : Bool) → nat_le body_cost left ≡ reaches → BeginTells m es trace left t (round_begun m es left p w reaches).told false p q u v → CutAt m es trace b q.board (n + steps_made left (round_begun m es left p w reaches).told) o v
          by_room true r g = record {
            k = n;
            early = omega arith;
            board_is = ap (λ (q : Progress). q.board) (g.0 ∙ (ap (goes m es 1) st.progress ∙ goes_at m es b 1 n));
            between = u;
            whole = before;
            broken = same_text (sym (begin_text t h e trace q g.0)) g.1;
          }
          by_room false r g = let short = leb-false 1 left r in cut_soft m es trace b n p q o u v st.progress before left (λ j few. absurd (omega (arith, few, short))) g

    same_test' : (t : Choice) → first_broken (begin_tests s.chained.dead (table_address s.chained.table t.id)) ≡ first_broken (begin_tests w.chained.dead (table_address p.board.csrs.mtvt t.id))
    same_test' t = ap₂ (λ (q : Watched) (c : State). first_broken (begin_tests q.dead (table_address c.csrs.mtvt t.id))) (sym st.watch) (sym board_is)

    told_by : (trace : Bool) (q : Progress) (o u v : SinkView) → Writes true o u (text_to m es trace b n) → (choice : Option Choice) → hard_due m p.board ≡ choice → RoundTells m es trace left None choice (direct_round_by m es d left p w None choice).told true p q u v → Writes true o v (text_to m es trace b (n + steps_made left (direct_round_by m es d left p w None choice).told))
    told_by trace q o u v before None e g = tells_soft m es trace b n p q o u v st.progress before _ (chained_soft m es sound from d bound b p w n st none related stands kept) g
    told_by trace q o u v before (Some t) e g = begun_text trace q o u v before t (hard t e) _ (same_test' t) g

    cut_by : (trace : Bool) (q : Progress) (o u v : SinkView) → Writes true o u (text_to m es trace b n) → (choice : Option Choice) → hard_due m p.board ≡ choice → RoundTells m es trace left None choice (direct_round_by m es d left p w None choice).told false p q u v → CutAt m es trace b q.board (n + steps_made left (direct_round_by m es d left p w None choice).told) o v
    cut_by trace q o u v before None e g = cut_soft m es trace b n p q o u v st.progress before _ (chained_soft m es sound from d bound b p w n st none related stands kept) g
    cut_by trace q o u v before (Some t) e g = begun_cut trace q o u v before t (hard t e) _ (same_test' t) g

  -- ---- one is live
  module _ (v : Direct) (live : s.direct ≡ Some v) (stands : chained_at m es b n ≡ record { count = s.chained.bodies; board = direct_board_of s.chained v x }) where
    board_there : p.board ≡ direct_board_of s.chained v x
    board_there = ap (λ (q : Progress). q.board) st.progress ∙ ap (λ (q : Stand). q.board) stands

    masked_soft : m.halted s.chained.outside.device ≡ None → Soft m es b n
    masked_soft runs = soft_at m es b n s.chained.bodies (direct_board_of s.chained v x) stands (calm_soft m (direct_board_of s.chained v x) runs (masked (direct_board_of s.chained v x).csrs (top s.chained.outside.clic) refl))

    soft_by : (o : Option ℕ) → m.halted p.board.outside.device ≡ o → (j : ℕ) → j < steps_made left (round_serving m es left p w v.kept o).told → Soft m es b (n + j)
    soft_by (Some code) e j few = absurd (omega (arith, few))
    soft_by None e j few =
        let most = due_most m es left p w v.kept (judge_direct_body p.board w.chained) in
        let here : n ≡ n + j = omega (arith, few, most) in
        subst (Soft m es b) here (masked_soft (ap (λ (a : State). m.halted a.outside.device) (sym board_there) ∙ e))

  -- ---- whichever it is
  abbrev round_is : Option (List ℕ) → Type 0
  round_is kept = DirectSays m es from d bound b n (direct_round_by m es d left p w kept (hard_due m p.board))

  by_direct : (o : Option Direct) → s.direct ≡ o → BesideBy m es from d bound b s.chained x n w.kept o → round_is w.kept
  by_direct None e (related, stands, kept) = subst round_is (sym kept) (by_hard e related stands kept (hard_due m p.board) refl)
  by_direct (Some v) e (related, stands, kept) = subst round_is (sym kept) (serving_means m es sound from d bound b p w n st v e related stands kept)

  pub direct_means : DirectSays m es from d bound b n (direct_round m es d left p w)
  unfolding direct_round
  direct_means = by_direct s.direct refl st.beside

  -- its text
  module _ (trace : Bool) (q : Progress) (o u v : SinkView) (before : Writes true o u (text_to m es trace b n)) where
    abbrev text_is : Option (List ℕ) → Type 0
    text_is kept = RoundTells m es trace left kept (hard_due m p.board) (direct_round_by m es d left p w kept (hard_due m p.board)).told true p q u v → Writes true o v (text_to m es trace b (n + steps_made left (direct_round_by m es d left p w kept (hard_due m p.board)).told))

    text_by : (direct : Option Direct) → s.direct ≡ direct → BesideBy m es from d bound b s.chained x n w.kept direct → text_is w.kept
    text_by None e (related, stands, kept) = subst text_is (sym kept) (λ g. told_by e related stands kept trace q o u v before (hard_due m p.board) refl g)
    text_by (Some y) e (related, stands, kept) = subst text_is (sym kept) (λ g. tells_soft m es trace b n p q o u v st.progress before _ (soft_by y e stands (m.halted p.board.outside.device) refl) g)

    pub direct_told : RoundTells m es trace left w.kept (hard_due m p.board) (direct_round m es d left p w).told true p q u v → Writes true o v (text_to m es trace b (n + steps_made left (direct_round m es d left p w).told))
    unfolding direct_round
    direct_told = text_by s.direct refl st.beside

    abbrev cut_is : Option (List ℕ) → Type 0
    cut_is kept = RoundTells m es trace left kept (hard_due m p.board) (direct_round_by m es d left p w kept (hard_due m p.board)).told false p q u v → CutAt m es trace b q.board (n + steps_made left (direct_round_by m es d left p w kept (hard_due m p.board)).told) o v

    cuts_by : (direct : Option Direct) → s.direct ≡ direct → BesideBy m es from d bound b s.chained x n w.kept direct → cut_is w.kept
    cuts_by None e (related, stands, kept) = subst cut_is (sym kept) (λ g. cut_by e related stands kept trace q o u v before (hard_due m p.board) refl g)
    cuts_by (Some y) e (related, stands, kept) = subst cut_is (sym kept) (λ g. cut_soft m es trace b n p q o u v st.progress before _ (soft_by y e stands (m.halted p.board.outside.device) refl) g)

    pub direct_cut : RoundTells m es trace left w.kept (hard_due m p.board) (direct_round m es d left p w).told false p q u v → CutAt m es trace b q.board (n + steps_made left (direct_round m es d left p w).told) o v
    unfolding direct_round
    direct_cut = cuts_by s.direct refl st.beside

  -- ---- what the code has to know of an Enter before it makes it
  module _ (kept : w.kept ≡ None) (runs : m.halted p.board.outside.device ≡ None) where
    enters_by : (o : Option Direct) → s.direct ≡ o → BesideBy m es from d bound b s.chained x n w.kept o → EntersFit w.chained (judge_turn d p.board w.chained)
    enters_by None e (related, stands, same) frame = chained_enters m es sound from d bound b p w n st e related stands same (ap (λ (a : State). m.halted a.outside.device) (sym (board_is e related stands same)) ∙ runs) frame
    enters_by (Some v) e (related, stands, same) frame = absurd (not_kept (sym same ∙ kept))

    pub direct_enters : EntersFit w.chained (judge_turn d p.board w.chained)
    direct_enters = enters_by s.direct refl st.beside

    fuses_by : (o : Option Direct) → s.direct ≡ o → BesideBy m es from d bound b s.chained x n w.kept o → FusesFit w.chained (judge_turn d p.board w.chained)
    fuses_by None e (related, stands, same) frame = chained_fuses m es sound from d bound b p w n st e related stands same (ap (λ (a : State). m.halted a.outside.device) (sym (board_is e related stands same)) ∙ runs) frame
    fuses_by (Some v) e (related, stands, same) frame = absurd (not_kept (sym same ∙ kept))

    pub direct_fuses : FusesFit w.chained (judge_turn d p.board w.chained)
    direct_fuses = fuses_by s.direct refl st.beside
