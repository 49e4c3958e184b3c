use Rattle.lab_positions.proofs.Latest.{is_latest}
use Rattle.lab_positions.proofs.laws.back_finds_the_latest.Goals as goal

pub returns : goal.returns
returns g c = λ timing es search p n. is_latest g.D.Device.means timing es search n p
