use Rattle.std.proofs.Common.{◌≡◌, ◌-◌, ◌<◌, ◌≤◌, ℕ, length, drop}
use Rattle.hart_board.specs.State.{State}
use Rattle.hart_board.specs.Event.{with_events, AreEventsFrom}
use Rattle.hart_board.proofs.arrivals.take_due.Given as goal

-- the events that are left, on the board as it is, do what all do
abbrev pub invariant-loop-board : goal.invariant-loop-board
invariant-loop-board g l =
    let m = g.D.Device.means in
    let es = l.events.list in
    record {
      shape : l.events.shape ≡ l.board.outside.clic.shape;
      kept : l.board.kept ≡ l.fn.board.kept;
      within : l.next ≤ length es;
      ahead : AreEventsFrom l.events.shape.inputs l.count (drop l.next es);
      passed : (c : ℕ) (s : State) → l.count < c → with_events m c (drop l.first es) s ≡ with_events m c (drop l.next es) s;
      board : with_events m l.count (drop l.next es) l.board ≡ with_events m l.count (drop l.first es) l.fn.board;
    }

abbrev pub decreases-loop-board : goal.decreases-loop-board
decreases-loop-board g l = length l.events.list - l.next
