use Rattle.std.proofs.Common.{arith, ◌∙◌}
use Rattle.device_model.proofs.Shown.{both_output_count, both_output_first, both_output_second}
use Rattle.device_model.proofs.both.BothDevice.output.Goals as goal

pub output-requires-else-i-firsts : goal.output-requires-else-i-firsts
output-requires-else-i-firsts g c = omega (arith, both_output_count g.A.Device.means g.B.Device.means (g.A.Device.state c.args.self.now.first) (g.B.Device.state c.args.self.now.second))

pub returns-then-i-firsts : goal.returns-then-i-firsts
returns-then-i-firsts g c = both_output_first g.A.Device.means g.B.Device.means (g.A.Device.state c.args.self.now.first) (g.B.Device.state c.args.self.now.second) c.args.i (omega (arith, both_output_count g.A.Device.means g.B.Device.means (g.A.Device.state c.args.self.now.first) (g.B.Device.state c.args.self.now.second))) (omega arith) ∙ c.output.ensures

pub returns-else-i-firsts : goal.returns-else-i-firsts
returns-else-i-firsts g c = both_output_second g.A.Device.means g.B.Device.means (g.A.Device.state c.args.self.now.first) (g.B.Device.state c.args.self.now.second) c.args.i (omega (arith, both_output_count g.A.Device.means g.B.Device.means (g.A.Device.state c.args.self.now.first) (g.B.Device.state c.args.self.now.second))) (omega arith) ∙ (rw (← c.output_len-firsts.ensures) c.output-else-i-firsts.ensures)
