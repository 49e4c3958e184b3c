-- A round keeps step with the servicing machine, or ends as it does.
use Rattle.std.proofs.Common.{◌≡◌, ℕ, suc, ◌+◌, ◌-◌, ◌<◌, ◌≤◌, true, List, [], ◌∷◌, length, Option, Some, None, refl, sym, ap, ◌∙◌, subst, arith}
use Rattle.std.specs.Prelude.{◌&&◌, nat_le, nat_lt}
use Rattle.std.proofs.lemmas.Bool.{and_parts, ltb-true}
use Rattle.device_model.specs.Meanings.{Meanings, IsSound as IsSoundDevice}
use Rattle.clic_select.specs.declared.choice.Choice.{Choice}
use Rattle.hart_board.proofs.Privileged.{top_is_choice}
use Rattle.hart_memory.specs.declared.address_map.TheConstants.{RAM_BASE, BANK_LEN}
use Rattle.hart_board.specs.State.{State}
use Rattle.hart_board.specs.declared.event.Event.{Event}
use Rattle.chain_moves.specs.Slot.{frame_size}
use Rattle.chain_moves.specs.Servicing.{Live, Servicing, marks, innermost_level}
use Rattle.chain_moves.specs.Moves.{move}
use Rattle.chain_moves.specs.Enter.{takes_interrupts, is_enter_due}
use Rattle.chain_moves.specs.Leave.{left}
use Rattle.chain_moves.specs.Watched.{Watched, watched_of}
use Rattle.chain_moves.specs.Judge.{judge_turn}
use Rattle.chain_moves.specs.Beside.{Rest, board_of}
use Rattle.chain_core.specs.Progress.{Progress}
use Rattle.chain_core.specs.Fitting.{EntersFit, FusesFit}
use Rattle.chain_core.specs.Rounds.{round_due, round_unless_halted, round}
use Rattle.chain_moves.specs.Cost.{leave_cost}
use Rattle.chain_moves.specs.Start.{begun}
use Rattle.chain_moves.specs.declared.dispatcher.Dispatcher.{Dispatcher}
use Rattle.chain_moves.specs.declared.turn.Turn.{Turn}
use Rattle.chain_moves.specs.declared.turn.Turn.TheVariants.{Enter, Leave, Fuse, Body}
use Rattle.chain_moves.specs.declared.entry.Entry.TheVariants.{Admitted}
use Rattle.chain_moves.proofs.Nested.{depth_below}
use Rattle.chain_moves.proofs.Depth.{innermost_small}
use Rattle.chain_moves.proofs.Enters.{passes}
use Rattle.chain_moves.proofs.Turns.{TurnMeans, turn_means}
use Rattle.chain_core.proofs.Standing.{StoodFrom, MeansFrom, Stood, Means, from_start}
use Rattle.chain_core.proofs.RoundsBegin.{board_is, entry_round}
use Rattle.chain_core.proofs.RoundsReturn.{leaving, fuse_round}
use Rattle.chain_core.proofs.RoundsBody.{body_round, halted_means}

length-marks : (live : List Live) → length (marks live) ≡ length live
unfolding marks
length-marks [] = refl
length-marks (v ∷ vs) = ap suc (length-marks vs)

-- an Enter that is due has a level above the innermost one
above : (s : Servicing) (t : Choice) → is_enter_due s (Some t) ≡ true → innermost_level (marks s.live) < t.level
unfolding is_enter_due
above s t e =
    let both = and_parts (takes_interrupts (marks s.live) s.on) (nat_lt (innermost_level (marks s.live)) t.level && nat_lt s.threshold t.level) e in
    let parts = and_parts (nat_lt (innermost_level (marks s.live)) t.level) (nat_lt s.threshold t.level) both.1 in
    ltb-true (innermost_level (marks s.live)) t.level parts.0

module _ (m : Meanings) (es : List Event) (sound : IsSoundDevice m) (from : ℕ) (d : Dispatcher) (bound : ℕ) (b : State) (start : Servicing) (at : ℕ) (p : Progress) (w : Watched) (n : ℕ) (st : StoodFrom m es from d bound b start at p w n) where
  abbrev s : Servicing
  s = st.state

  abbrev x : Rest
  x = st.rest

  pub judge_is : judge_turn d p.board w ≡ judge_turn d (board_of s x) (watched_of s)
  judge_is = ap (λ b. judge_turn d b w) (board_is m es from d bound b start at p w n st) ∙ ap (judge_turn d (board_of s x)) st.watch

  module _ (runs : m.halted s.outside.device ≡ None) where
    due_round : (turn : Turn) → TurnMeans m es d s x (move m es s) turn → MeansFrom m es from d bound b start at n (round_due m es (bound - n) p w turn)
    due_round (Enter e) (t, is_top, is_due, h) = entry_round m es from d bound b start at p w n st sound runs t is_top is_due e h
    due_round Leave u = leaving m es sound from d bound b start at p w n st runs u (nat_le leave_cost (bound - n)) refl
    due_round (Fuse e) u = fuse_round m es sound from d bound b start at p w n st runs e u
    due_round (Body v) (calm, is_body, is) = body_round m es sound from d bound b start at p w n st runs calm is_body v is

    running : MeansFrom m es from d bound b start at n (round_due m es (bound - n) p w (judge_turn d p.board w))
    running = subst (λ turn. MeansFrom m es from d bound b start at n (round_due m es (bound - n) p w turn)) (sym judge_is) (due_round (judge_turn d (board_of s x) (watched_of s)) (turn_means m es d s x st.related runs))

    -- what the code has to know of an Enter before it makes it
    at_turn : (turn : Turn) → judge_turn d p.board w ≡ turn → TurnMeans m es d s x (move m es s) turn
    at_turn turn e = subst (TurnMeans m es d s x (move m es s)) (sym judge_is ∙ e) (turn_means m es d s x st.related runs)

    many : length w.live ≡ length s.live
    many = ap (λ (q : Watched). length q.live) st.watch ∙ length-marks s.live

    deep : length s.live ≤ innermost_level (marks s.live)
    deep = depth_below s.live st.related.serves.rising

    pub enter_room : EntersFit w (judge_turn d p.board w)
    enter_room frame e =
        let u = at_turn (Enter (Admitted frame)) e in
        let is_top = u.1 in
        let over = above s u.0 u.2 in
        let small = (top_is_choice s.outside.clic u.0 st.related.serves.range.board.outside.clic is_top).level in
        let fit = passes s u.0 u.3.1 in
        let is = u.3.0 in
        let room : length w.live < 255 = omega (arith, many, deep, over, small) in
        (room, subst (λ f. RAM_BASE ≤ f) (sym is) fit.low, subst (λ f. f + frame_size ≤ RAM_BASE + BANK_LEN) (sym is) fit.high)

    some_live : (live : List Live) (v : Live) (vs : List Live) → live ≡ v ∷ vs → 0 < length live
    some_live live v vs e = let n : length live ≡ suc (length vs) = ap length e in omega (arith, n)

    pub fuse_room : FusesFit w (judge_turn d p.board w)
    fuse_room frame e =
        let u = at_turn (Fuse (Admitted frame)) e in
        let some = some_live s.live u.leaves.innermost u.leaves.others u.leaves.is_live in
        let small = innermost_small s.live st.related.serves.range.live in
        let fit = passes (left s u.leaves.innermost u.leaves.others) u.choice u.enters.1 in
        let is = u.enters.0 in
        let most : length w.live ≤ 255 = omega (arith, many, deep, small) in
        (omega (arith, many, some), most, subst (λ f. RAM_BASE ≤ f) (sym is) fit.low, subst (λ f. f + frame_size ≤ RAM_BASE + BANK_LEN) (sym is) fit.high)

  by_halt : (o : Option ℕ) → m.halted s.outside.device ≡ o → MeansFrom m es from d bound b start at n (round_unless_halted m es d (bound - n) p w o)
  by_halt None e = running e
  by_halt (Some code) e = halted_means m es sound from d bound b start at p w n st code e

  pub same_halt : m.halted p.board.outside.device ≡ m.halted s.outside.device
  same_halt = ap (λ (b : State). m.halted b.outside.device) (board_is m es from d bound b start at p w n st)

  pub round_from : MeansFrom m es from d bound b start at n (round m es d (bound - n) p w)
  unfolding round
  round_from = by_halt (m.halted p.board.outside.device) (sym same_halt)

  -- where the board hasn't halted
  pub runs_still : m.halted p.board.outside.device ≡ None → m.halted s.outside.device ≡ None
  runs_still e = sym same_halt ∙ e

-- and so in a chain from its start
pub round_means : (m : Meanings) (es : List Event) (sound : IsSoundDevice m) (from : ℕ) (d : Dispatcher) (bound : ℕ) (b : State) (p : Progress) (w : Watched) (n : ℕ) → Stood m es from d bound b p w n → Means m es from d bound b n (round m es d (bound - n) p w)
round_means m es sound from d bound b p w n st =
    let r = round m es d (bound - n) p w in
    from_start m es from d bound b n r.told r.progress r.watch (round_from m es sound from d bound b (begun m es b) 0 p w n st)
