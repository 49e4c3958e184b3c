use Rattle.hart_board.proofs.Validity.{step_valid, tried_valid, apply_valid, come_valid}
use Rattle.hart_board.proofs.laws.states_stay_valid.Goals as goal

pub returns : goal.returns
returns g c = let m = g.D.Device.means in record { step = step_valid m g.met.D.Device.sound; tried = tried_valid m g.met.D.Device.sound; apply = apply_valid m g.met.D.Device.sound; events = come_valid m g.met.D.Device.sound }
