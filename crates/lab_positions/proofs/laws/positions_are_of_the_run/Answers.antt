use Rattle.lab_positions.proofs.RunOf.{stand_is, steps_are}
use Rattle.lab_positions.proofs.laws.positions_are_of_the_run.Goals as goal

pub returns : goal.returns
returns g c = record { stand = stand_is g.D.Device.means; steps = steps_are g.D.Device.means }
