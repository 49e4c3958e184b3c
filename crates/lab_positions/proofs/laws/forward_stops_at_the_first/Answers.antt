use Rattle.lab_positions.proofs.First.{stops_first}
use Rattle.lab_positions.proofs.laws.forward_stops_at_the_first.Goals as goal

pub returns : goal.returns
returns g c = stops_first g.D.Device.means
