-- The controller keeps its plain shape, in the present state and in all that are kept.
use Rattle.std.proofs.Common.{◌≡◌, ℕ, zero, suc, ◌+◌, List, [], ◌∷◌, length, Bool, true, false, Option, Some, None, Err, refl, sym, subst, ◌∙◌, arith}
use Rattle.std.specs.List.{All}
use Rattle.std.proofs.lemmas.List.Elements.{All-take}
use Rattle.hart_memory.specs.declared.address_map.TheConstants.{MAX_KEPT}
use Rattle.device_model.specs.Meanings.{Meanings}
use Rattle.clic_regs.specs.Shape.{plain_shape}
use Rattle.hart_memory.specs.Image.{ImageView}
use Rattle.clic_regs.specs.ClicState.{reset_clic}
use Rattle.hart_board.specs.State.{State, Moment, moment, with_kept, back_to, gone_back, reset}
use Rattle.hart_board.specs.Outside.{with_device, reset_outside}
use Rattle.hart_board.specs.declared.outside.TheConstants.{FIRST_DEVICE_INPUT}
use Rattle.hart_board.proofs.Outsides.{lines_shape}
use Rattle.board_inputs.specs.ImageLoading.{loaded}
use Rattle.hart_board.specs.Step.{step}
use Rattle.hart_board.specs.Event.{applied}
use Rattle.hart_board.specs.Run.{every_step, run_of, steps_of}
use Rattle.hart_board.specs.Steps.{stands_at, board_at}
use Rattle.hart_board.specs.declared.what.What.TheVariants.{Line as LineOf}
use Rattle.hart_board.proofs.Ending.{run_stands}
use Rattle.hart_board.proofs.Shapes.{step_has, applied_has}
use Rattle.hart_report.specs.declared.stepped.Stepped.{Stepped}
use Rattle.hart_report.specs.declared.stepped.Stepped.TheVariants.{Retired, Interrupted, Raised, Halted, VectorFault}
use Rattle.hart_monitor.specs.Breaks.{is_break}
use Rattle.hart_monitor.specs.Stopping.{Stopped, unless_break, unless_halted, unless_vector, stops_in}
use Rattle.hart_monitor.specs.Session.{Session, IsPlain, outcome, line_set}
use Rattle.hart_monitor.specs.declared.command.Command.{Command}
use Rattle.hart_monitor.specs.declared.command.Command.TheVariants.{Step, Run, Break, Regs, Csr, Mem, Clic, Line, Back}
use Rattle.board_outside.specs.Sink.{SinkView}
use Rattle.hart_board.specs.Valid.{IsOfOneShape}
use Rattle.hart_monitor.specs.Faults.{BreaksOff, Obeys}
use Rattle.hart_monitor.specs.declared.monitor_fault.MonitorFault.{MonitorFault}
use Rattle.hart_monitor.specs.declared.monitor_fault.MonitorFault.TheVariants.{SinkFailed, Memory}
use Rattle.hart_monitor.proofs.Quiet.{nothing_comes}

abbrev HasPlain : Moment → Type 0
HasPlain moment = moment.outside.clic.shape ≡ plain_shape

-- ---- lists of states

all_more : (k : Moment) (ks : List Moment) → HasPlain k → All HasPlain ks → All HasPlain (k ∷ ks)
all_more k ks p h zero d l = p
all_more k ks p h (suc i) d l = h i d (omega arith)

all_rest : (k : Moment) (ks : List Moment) → All HasPlain (k ∷ ks) → All HasPlain ks
all_rest k ks h i d l = h (suc i) d (omega arith)

-- a board in the plain shape, of which the kept states have the board's
pub plain_in : (s : State) → s.outside.clic.shape ≡ plain_shape → IsOfOneShape s → IsPlain s
plain_in s e h = record { present = e; kept = λ i d l. h i d l ∙ e }

-- ---- keeping and going back

pub kept_plain : (s : State) → IsPlain s → IsPlain (with_kept s)
kept_plain s h = record { present = h.present; kept = All-take HasPlain MAX_KEPT (moment s ∷ s.kept) (all_more (moment s) s.kept h.present h.kept) }

back_to_plain : (s : State) (ks : List Moment) → IsPlain s → All HasPlain ks → IsPlain (back_to s ks)
back_to_plain s [] h all = h
back_to_plain s (latest ∷ earlier) h all = record { present = all 0 latest (omega arith); kept = all_rest latest earlier all }

pub back_plain : (s : State) → IsPlain s → IsPlain (gone_back s)
back_plain s h = back_to_plain s s.kept h h.kept

-- ---- what leaves both

like_plain : (s t : State) → t.outside.clic.shape ≡ s.outside.clic.shape → t.kept ≡ s.kept → IsPlain s → IsPlain t
like_plain s t same left h = record { present = same ∙ h.present; kept = subst (All HasPlain) (sym left) h.kept }

line_leaves : (m : Meanings) (input : ℕ) (high : Bool) (s : State) → (applied m s (LineOf input high)).kept ≡ s.kept
unfolding applied
line_leaves m input high s = refl

pub line_plain : (m : Meanings) (input : ℕ) (high : Bool) (s : State) → IsPlain s → IsPlain (line_set m input high s)
unfolding line_set
line_plain m input high s h = like_plain (with_kept s) (applied m (with_kept s) (LineOf input high)) (applied_has m (with_kept s) (LineOf input high)) (line_leaves m input high (with_kept s)) (kept_plain s h)

module _ (m : Meanings) (leaves : (s : State) → (step m s).state.kept ≡ s.kept) where
  step_plain : (s : State) → IsPlain s → IsPlain (step m s).state
  step_plain s h = like_plain s (step m s).state (step_has m s) (leaves s) h

  stands_plain : (s : State) (k : ℕ) → IsPlain s → IsPlain (board_at m every_step [] s k)
  unfolding stands_at
  stands_plain s zero h = subst IsPlain (nothing_comes m 0 s) h
  stands_plain s (suc k) h =
      let before = stands_at m every_step [] s k in
      subst IsPlain (nothing_comes m (before.count + 1) (step m before.board).state) (step_plain before.board (stands_plain s k h))

  run_plain : (n : ℕ) (s : State) → IsPlain s → IsPlain (run_of m every_step [] n s).state
  run_plain n s h = subst IsPlain (sym (run_stands m every_step [] n s)) (stands_plain s (steps_of n (run_of m every_step [] n s).end) h)

  break_by : (b : Bool) (next : Stopped) (t : State) → IsPlain t → IsPlain next.state → IsPlain (unless_break b next t).state
  break_by true next t h g = h
  break_by false next t h g = g

  halted_by : (o : Option ℕ) (b : Bool) (next : Stopped) (t : State) → IsPlain t → IsPlain next.state → IsPlain (unless_halted o b next t).state
  halted_by (Some code) b next t h g = h
  halted_by None b next t h g = break_by b next t h g

  vector_by : (told : Stepped) (next : Stopped) (t : State) → IsPlain t → IsPlain next.state → IsPlain (unless_vector told next t).state
  vector_by (Retired pc bits length) next t h g = g
  vector_by (Interrupted pc id) next t h g = g
  vector_by (Raised pc code) next t h g = g
  vector_by (Halted code) next t h g = g
  vector_by (VectorFault id) next t h g = h

  stops_plain : (breaks : List ℕ) (n : ℕ) (s : State) → IsPlain s → IsPlain (stops_in m breaks n s).state
  unfolding stops_in
  stops_plain breaks zero s h = h
  stops_plain breaks (suc n) s h =
      let t = (step m s).state in
      let p = step_plain s h in
      let next = stops_in m breaks n t in
      let q = stops_plain breaks n t p in
      vector_by (step m s).told (unless_halted (m.halted t.outside.device) (is_break t.pc breaks) next t) t p (halted_by (m.halted t.outside.device) (is_break t.pc breaks) next t p q)

  pub outcome_plain : (c : Command) (s : Session) → IsPlain s.board → IsPlain (outcome m c s).session.board
  outcome_plain (Step n) s h = run_plain n (with_kept s.board) (kept_plain s.board h)
  outcome_plain (Run n) s h = stops_plain s.breaks n (with_kept s.board) (kept_plain s.board h)
  outcome_plain (Break at) s h = h
  outcome_plain Regs s h = h
  outcome_plain Csr s h = h
  outcome_plain (Mem at count) s h = h
  outcome_plain (Clic input) s h = h
  outcome_plain (Line input high) s h = line_plain m input high s.board h
  outcome_plain Back s h = back_plain s.board h

  -- ---- where a command isn't done
  broken_plain : (c : Command) (s new : Session) (here then : SinkView) → IsPlain s.board → BreaksOff m c s new here then → IsPlain new.board
  broken_plain (Step n) s new here then h b = subst IsPlain (sym b.1.state) (stands_plain (with_kept s.board) (b.1.k + 1) (kept_plain s.board h))
  broken_plain (Run n) s new here then h b = subst (λ (x : Session). IsPlain x.board) (sym b.0) (outcome_plain (Run n) s h)
  broken_plain (Break at) s new here then h b = subst (λ (x : Session). IsPlain x.board) (sym b.0) (outcome_plain (Break at) s h)
  broken_plain Regs s new here then h b = subst (λ (x : Session). IsPlain x.board) (sym b.0) (outcome_plain Regs s h)
  broken_plain Csr s new here then h b = subst (λ (x : Session). IsPlain x.board) (sym b.0) (outcome_plain Csr s h)
  broken_plain (Mem at count) s new here then h b = subst (λ (x : Session). IsPlain x.board) (sym b.0) (outcome_plain (Mem at count) s h)
  broken_plain (Clic input) s new here then h b = subst (λ (x : Session). IsPlain x.board) (sym b.0) (outcome_plain (Clic input) s h)
  broken_plain (Line input high) s new here then h b = subst (λ (x : Session). IsPlain x.board) (sym b.0) (outcome_plain (Line input high) s h)
  broken_plain Back s new here then h b = subst (λ (x : Session). IsPlain x.board) (sym b.0) (outcome_plain Back s h)

  pub fault_plain : (c : Command) (fault : MonitorFault) (s new : Session) (here then : SinkView) → IsPlain s.board → Obeys m c s (Err fault) new here then → IsPlain new.board
  fault_plain c Memory s new here then h o = subst (λ (x : Session). IsPlain x.board) (sym o.1) h
  fault_plain c SinkFailed s new here then h o = broken_plain c s new here then h o

-- ---- boards that are made

pub reset_plain : (m : Meanings) (device : List ℕ) → IsPlain (reset (reset_outside m plain_shape device))
unfolding with_device reset_clic
reset_plain m device = record { present = lines_shape (m.lines device) FIRST_DEVICE_INPUT (reset_clic plain_shape); kept = λ i d l. absurd (omega arith) }

pub loaded_plain : (i : ImageView) (s : State) → IsPlain s → IsPlain (loaded i s)
loaded_plain i s h = record { present = h.present; kept = h.kept }
