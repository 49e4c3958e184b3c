use Rattle.device_model.proofs.BothLaw.{side_by_side_law}
use Rattle.device_model.proofs.laws.both_are_side_by_side.Goals as goal

pub returns : goal.returns
returns g c = λ x y. side_by_side_law g.A.Device.means g.B.Device.means x y
