use Rattle.hart_board.proofs.Sampled.{device_lines, device_other_lines}
use Rattle.hart_board.proofs.laws.sampled_inputs_follow_the_device.Goals as goal

pub returns : goal.returns
returns g c = let m = g.D.Device.means in record { own = device_lines m; others = device_other_lines m }
