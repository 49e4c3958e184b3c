use Rattle.hart_report.proofs.Texts.{same_text}
use Rattle.hart_monitor.specs.Texts.{back_line}
use Rattle.hart_monitor.proofs.texts.put_back.Goals as goal

pub returns-else-went : goal.returns-else-went
unfolding back_line
returns-else-went g c = rw c.if-went.false (same_text c.as_bytes.ensures.value c.put.ensures)
