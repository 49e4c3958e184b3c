-- Steps, events and runs leave the states that are kept.
use Rattle.std.proofs.Common.{◌≡◌, ℕ, zero, suc, Bool, true, false, List, refl, ap, ◌∙◌}
use Rattle.device_model.specs.Meanings.{Meanings}
use Rattle.hart_board.specs.State.{Moment, State}
use Rattle.hart_board.specs.Step.{Turn, step, kept_if_raised, tried}
use Rattle.hart_board.specs.Event.{applied, arrived, with_events}
use Rattle.hart_board.specs.Run.{standing, run_of, steps_of}
use Rattle.hart_board.specs.Steps.{stands_at, board_at}
use Rattle.hart_board.specs.declared.event.Event.{Event}
use Rattle.hart_board.specs.declared.what.What.{What}
use Rattle.hart_report.specs.declared.stepped.Stepped.{Stepped}
use Rattle.hart_report.specs.declared.stepped.Stepped.TheVariants.{Retired, Interrupted, Raised, Halted, VectorFault}
use Rattle.hart_board.proofs.Keeping.{step_holds}
use Rattle.hart_board.proofs.Ending.{run_stands}

abbrev HasKept : List Moment → State → Type 0
HasKept kept t = t.kept ≡ kept

pub step_leaves : (m : Meanings) (s : State) → (step m s).state.kept ≡ s.kept
step_leaves m s = step_holds (HasKept s.kept) m s (record {
  now = refl;
  does = λ ins bits length f d. record {
    goes = λ rd value target e. refl;
    loads = λ rd at width signed value e l. refl;
    loads_outside = λ rd at width signed found e l. refl;
    stores = λ at width value k e p. refl;
    stores_outside = λ at width value outside e l. refl;
    goes_on = λ e a. refl;
    jumps = λ target e a. refl;
  };
  raises = λ trap e. refl;
  enters = λ choice target t d e. refl;
})

if_raised_leaves : (s : State) (turn : Turn) (told : Stepped) → turn.state.kept ≡ s.kept → (kept_if_raised s turn told).state.kept ≡ s.kept
if_raised_leaves s turn (Raised pc code) e = refl
if_raised_leaves s turn (Retired pc bits length) e = e
if_raised_leaves s turn (Interrupted pc id) e = e
if_raised_leaves s turn (Halted code) e = e
if_raised_leaves s turn (VectorFault id) e = e

pub tried_leaves : (m : Meanings) (s : State) → (tried m s).state.kept ≡ s.kept
unfolding tried
tried_leaves m s = if_raised_leaves s (step m s) (step m s).told (step_leaves m s)

pub applied_leaves : (m : Meanings) (s : State) (what : What) → (applied m s what).kept ≡ s.kept
unfolding applied
applied_leaves m s what = refl

pub arrived_leaves : (m : Meanings) (s : State) (what : What) → (arrived m s what).kept ≡ s.kept
unfolding arrived
arrived_leaves m s what = refl

pub events_leave : (m : Meanings) (count : ℕ) (es : List Event) (s : State) → (with_events m count es s).kept ≡ s.kept
unfolding with_events
events_leave m count es s = refl

standing_leaves : (m : Meanings) (es : List Event) (count : ℕ) (new : State) (rises : Bool) → (standing m es count new rises).board.kept ≡ new.kept
unfolding with_events
standing_leaves m es count new true = refl
standing_leaves m es count new false = refl

pub stands_leave : (m : Meanings) (rises : Stepped → Bool) (es : List Event) (s : State) (k : ℕ) → (board_at m rises es s k).kept ≡ s.kept
unfolding stands_at with_events
stands_leave m rises es s zero = refl
stands_leave m rises es s (suc k) =
    let before = stands_at m rises es s k in
    standing_leaves m es before.count (step m before.board).state (rises (step m before.board).told)
    ∙ step_leaves m before.board
    ∙ stands_leave m rises es s k

pub run_leaves : (m : Meanings) (rises : Stepped → Bool) (es : List Event) (bound : ℕ) (s : State) → (run_of m rises es bound s).state.kept ≡ s.kept
run_leaves m rises es bound s =
    ap (λ (t : State). t.kept) (run_stands m rises es bound s) ∙ stands_leave m rises es s (steps_of bound (run_of m rises es bound s).end)
