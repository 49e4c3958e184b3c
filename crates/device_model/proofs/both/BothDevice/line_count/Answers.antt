use Rattle.std.proofs.Common.{arith}
use Rattle.device_model.proofs.Shown.{both_line_count}
use Rattle.device_model.proofs.both.BothDevice.line_count.Goals as goal

pub returns : goal.returns
returns g c = omega (arith, both_line_count g.A.Device.means g.B.Device.means (g.A.Device.state c.args.self.now.first) (g.B.Device.state c.args.self.now.second))
