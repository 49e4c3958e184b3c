use Rattle.std.proofs.Common.{arith}
use Rattle.device_model.proofs.Shown.{both_output_count}
use Rattle.device_model.proofs.both.BothDevice.output_len.Goals as goal

pub returns : goal.returns
returns g c = let e = both_output_count g.A.Device.means g.B.Device.means (g.A.Device.state c.args.self.now.first) (g.B.Device.state c.args.self.now.second) in omega (arith, e)
