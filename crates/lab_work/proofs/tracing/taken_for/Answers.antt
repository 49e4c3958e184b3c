use Rattle.std.proofs.Common.{sym}
use Rattle.tool_work.proofs.ChainEnds.{least_is}
use Rattle.lab_work.proofs.tracing.taken_for.Goals as goal

pub returns-in-Some : goal.returns-in-Some
returns-in-Some c = rw c.in-Some.is (sym (least_is c.args.image.now c.slot_taken.result c.slot_taken.ensures))
