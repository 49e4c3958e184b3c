use Rattle.std.proofs.Common.{◌≡◌, ◌+◌, ◌-◌, ◌<◌, ℕ, drop}
use Rattle.hart_board.specs.State.{State}
use Rattle.hart_board.specs.Event.{IsAhead, with_events}
use Rattle.hart_board.specs.Run.{every_step, run_from, run_of, with_steps}
use Rattle.hart_board.specs.Steps.{stands_at, told_to}
use Rattle.hart_board.proofs.running.advance_quietly.Given as goal

-- the board stands after so many steps, and the rest of the run is to come;
-- the events before the next one are past
abbrev pub invariant-loop-steps : goal.invariant-loop-steps
invariant-loop-steps g l =
    let m = g.D.Device.means in
    let es = l.events.list in
    record {
      shape : l.events.shape ≡ l.board.outside.clic.shape;
      ahead : IsAhead l.events (l.steps + 1) l.ahead;
      passed : (c : ℕ) (s : State) → l.steps < c → with_events m c es s ≡ with_events m c (drop l.ahead.first es) s;
      stand : record { count = l.steps; board = l.board } ≡ stands_at m every_step es l.fn.board l.steps;
      run : run_of m every_step es l.bound l.fn.board ≡ with_steps (told_to m every_step es l.fn.board l.steps) (run_from m every_step es (l.bound - l.steps) l.steps (record { count = l.steps; board = l.board }));
    }
