use Rattle.hart_monitor.proofs.Commands.{StandsAfter}
use Rattle.hart_monitor.proofs.monitoring.monitor.Given as goal

-- the commands so far were done
abbrev pub invariant-loop-i : goal.invariant-loop-i
invariant-loop-i g l = StandsAfter g.D.Device.means l.script l.fn.board l.i (record { board = l.board; breaks = l.breaks }) (g.W.Sink.told l.fn.out) (g.W.Sink.told l.out)
