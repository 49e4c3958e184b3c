use Rattle.std.proofs.Common.{◌≡◌, ◌-◌, [], true}
use Rattle.board_outside.specs.Sink.{Writes}
use Rattle.hart_board.specs.Run.{every_step, run_from, run_of, with_steps}
use Rattle.hart_board.specs.Steps.{stands_at, told_to}
use Rattle.hart_report.specs.Trace.{trace_text}
use Rattle.hart_monitor.proofs.going.make_steps.Given as goal

-- the board stands after so many steps, their lines are written, and the rest of them is to come
abbrev pub invariant-loop : goal.invariant-loop
invariant-loop g l =
    let m = g.D.Device.means in
    let told = g.W.Sink.told in
    record {
      stand : record { count = l.counter; board = l.board } ≡ stands_at m every_step [] l.fn.board l.counter;
      run : run_of m every_step [] l.count l.fn.board ≡ with_steps (told_to m every_step [] l.fn.board l.counter) (run_from m every_step [] (l.count - l.counter) l.counter (record { count = l.counter; board = l.board }));
      text : Writes true (told l.fn.out) (told l.out) (trace_text true (told_to m every_step [] l.fn.board l.counter));
    }
