use Rattle.hart_report.proofs.Texts.{same_text}
use Rattle.hart_monitor.specs.Texts.{break_line}
use Rattle.hart_monitor.proofs.texts.put_break.Goals as goal

pub returns-else-stands : goal.returns-else-stands
unfolding break_line
returns-else-stands g c = rw c.if-stands.false (same_text c.as_bytes.ensures.value c.put.ensures)
