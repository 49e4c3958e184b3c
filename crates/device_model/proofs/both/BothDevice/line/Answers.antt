use Rattle.std.proofs.Common.{arith, ◌∙◌}
use Rattle.device_model.proofs.Shown.{both_line_count, both_line_first, both_line_second}
use Rattle.device_model.proofs.both.BothDevice.line.Goals as goal

pub line-requires-else-k-firsts : goal.line-requires-else-k-firsts
line-requires-else-k-firsts g c = omega (arith, both_line_count g.A.Device.means g.B.Device.means (g.A.Device.state c.args.self.now.first) (g.B.Device.state c.args.self.now.second))

pub returns-then-k-firsts : goal.returns-then-k-firsts
returns-then-k-firsts g c = both_line_first g.A.Device.means g.B.Device.means (g.A.Device.state c.args.self.now.first) (g.B.Device.state c.args.self.now.second) c.args.k (omega arith) ∙ c.line.ensures

pub returns-else-k-firsts : goal.returns-else-k-firsts
returns-else-k-firsts g c = both_line_second g.A.Device.means g.B.Device.means (g.A.Device.state c.args.self.now.first) (g.B.Device.state c.args.self.now.second) c.args.k (omega arith) ∙ (rw (← c.line_count-firsts.ensures) c.line-else-k-firsts.ensures)
