use Rattle.clic_regs.proofs.Lines.{sees_line}
use Rattle.clic_regs.proofs.laws.lines_make_inputs_pending.Goals as goal

pub returns : goal.returns
returns c = sees_line
