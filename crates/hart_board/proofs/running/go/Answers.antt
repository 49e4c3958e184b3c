use Rattle.hart_board.specs.Run.{every_step, run_of}
use Rattle.hart_board.proofs.Traced.{quiet_text}
use Rattle.hart_board.proofs.running.go.Goals as goal

pub returns-else-trace-clause-whole : goal.returns-else-trace-clause-whole
returns-else-trace-clause-whole g c = λ w.
    let due = run_of g.D.Device.means every_step c.args.events.now.list c.args.bound c.args.board.now in
    (c.advance_quietly.ensures.whole.0, c.advance_quietly.ensures.whole.1, quiet_text c.args.trace due.steps (g.W.Sink.told c.args.out.now) c.if-trace.false)
