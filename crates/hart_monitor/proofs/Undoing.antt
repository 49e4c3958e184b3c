-- What keeps the board's state first is undone by going back.
use Rattle.std.proofs.Common.{◌≡◌, ℕ, zero, suc, ◌-◌, List, [], take, Bool, true, false, Option, Some, None, refl, ap, ◌∙◌}
use Rattle.hart_memory.specs.declared.address_map.TheConstants.{MAX_KEPT}
use Rattle.device_model.specs.Meanings.{Meanings}
use Rattle.hart_board.specs.State.{State, Moment, with_kept, back_to, gone_back}
use Rattle.hart_board.specs.Step.{step}
use Rattle.hart_board.specs.Event.{applied}
use Rattle.hart_board.specs.Run.{every_step, run_of}
use Rattle.hart_board.specs.declared.event.Event.{Event}
use Rattle.hart_report.specs.declared.stepped.Stepped.{Stepped}
use Rattle.hart_report.specs.declared.stepped.Stepped.TheVariants.{Retired, Interrupted, Raised, Halted, VectorFault}
use Rattle.hart_monitor.specs.Breaks.{is_break}
use Rattle.hart_monitor.specs.Stopping.{Stopped, unless_break, unless_halted, unless_vector, stops_in}
use Rattle.hart_monitor.specs.Texts.{back_line}
use Rattle.hart_monitor.specs.Session.{Session, KeepsFirst, has_kept, outcome, line_set}
use Rattle.hart_monitor.specs.declared.command.Command.{Command}
use Rattle.hart_monitor.specs.declared.command.Command.TheVariants.{Step, Run, Break, Regs, Csr, Mem, Clic, Line, Back}

abbrev before : State → State
before s = record s { kept = take (MAX_KEPT - 1) s.kept }

undone : (s t : State) → t.kept ≡ (with_kept s).kept → gone_back t ≡ before s
undone s t e = ap (back_to t) e

kept_there : (s t : State) → t.kept ≡ (with_kept s).kept → has_kept t.kept ≡ true
kept_there s t e = ap has_kept e

-- a run leaves what is kept
break_leaves : (ks : List Moment) (b : Bool) (next : Stopped) (t : State) → t.kept ≡ ks → next.state.kept ≡ ks → (unless_break b next t).state.kept ≡ ks
break_leaves ks true next t h g = h
break_leaves ks false next t h g = g

halted_leaves : (ks : List Moment) (o : Option ℕ) (b : Bool) (next : Stopped) (t : State) → t.kept ≡ ks → next.state.kept ≡ ks → (unless_halted o b next t).state.kept ≡ ks
halted_leaves ks (Some code) b next t h g = h
halted_leaves ks None b next t h g = break_leaves ks b next t h g

vector_leaves : (ks : List Moment) (told : Stepped) (next : Stopped) (t : State) → t.kept ≡ ks → next.state.kept ≡ ks → (unless_vector told next t).state.kept ≡ ks
vector_leaves ks (Retired pc bits length) next t h g = g
vector_leaves ks (Interrupted pc id) next t h g = g
vector_leaves ks (Raised pc code) next t h g = g
vector_leaves ks (Halted code) next t h g = g
vector_leaves ks (VectorFault id) next t h g = h

module _ (m : Meanings) (leaves : (s : State) → (step m s).state.kept ≡ s.kept) (runs : (rises : Stepped → Bool) (es : List Event) (bound : ℕ) (s : State) → (run_of m rises es bound s).state.kept ≡ s.kept) where
  stops_leave : (breaks : List ℕ) (n : ℕ) (s : State) → (stops_in m breaks n s).state.kept ≡ s.kept
  unfolding stops_in
  stops_leave breaks zero s = refl
  stops_leave breaks (suc n) s =
      let t = (step m s).state in
      let next = stops_in m breaks n t in
      let h = leaves s in
      let g = stops_leave breaks n t ∙ h in
      vector_leaves s.kept (step m s).told (unless_halted (m.halted t.outside.device) (is_break t.pc breaks) next t) t h (halted_leaves s.kept (m.halted t.outside.device) (is_break t.pc breaks) next t h g)

  line_leaves : (input : ℕ) (high : Bool) (s : State) → (line_set m input high s).kept ≡ (with_kept s).kept
  unfolding line_set applied
  line_leaves input high s = refl

  moved_leaves : (c : Command) (s : Session) → KeepsFirst c → ((outcome m c s).session.board.kept ≡ (with_kept s.board).kept) × ((outcome m c s).session.breaks ≡ s.breaks)
  moved_leaves (Step n) s k = (runs every_step [] n (with_kept s.board), refl)
  moved_leaves (Run n) s k = (stops_leave s.breaks n (with_kept s.board), refl)
  moved_leaves (Line input high) s k = (line_leaves input high s.board, refl)
  moved_leaves (Break at) s k = absurd k
  moved_leaves Regs s k = absurd k
  moved_leaves Csr s k = absurd k
  moved_leaves (Mem at count) s k = absurd k
  moved_leaves (Clic input) s k = absurd k
  moved_leaves Back s k = absurd k

  pub session_back : (c : Command) (s : Session) → KeepsFirst c → (outcome m Back (outcome m c s).session).session ≡ record { board = before s.board; breaks = s.breaks }
  session_back c s k =
      let l = moved_leaves c s k in
      let t = (outcome m c s).session in
      ap (λ b. record { board = b; breaks = t.breaks }) (undone s.board t.board l.0) ∙ ap (λ b. record { board = before s.board; breaks = b }) l.1

  pub text_back : (c : Command) (s : Session) → KeepsFirst c → (outcome m Back (outcome m c s).session).text ≡ back_line true s.board.pc
  text_back c s k =
      let l = moved_leaves c s k in
      let t = (outcome m c s).session.board in
      ap (λ b. back_line b (gone_back t).pc) (kept_there s.board t l.0) ∙ ap (λ (b : State). back_line true b.pc) (undone s.board t l.0)
