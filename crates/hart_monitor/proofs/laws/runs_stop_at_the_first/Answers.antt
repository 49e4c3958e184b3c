use Rattle.hart_monitor.proofs.StopsFirst.{stops_first}
use Rattle.hart_monitor.proofs.laws.runs_stop_at_the_first.Goals as goal

pub returns : goal.returns
returns g c = stops_first g.D.Device.means
