use Rattle.clic_regs.proofs.Offsets.{there, pending_at, enable_at, attribute_at, control_at}
use Rattle.clic_regs.proofs.laws.each_input_has_four_bytes.Goals as goal

pub returns : goal.returns
returns c = record { there = there; pending = pending_at; enable = enable_at; attribute = attribute_at; control = control_at }
