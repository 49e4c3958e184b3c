use Rattle.std.proofs.Common.{inl, refl}
use Rattle.board_outside.proofs.Writing.{writes_nothing}
use Rattle.tool_frame.specs.Lines.{absent_line, failed_line}
use Rattle.tool_frame.specs.declared.status.Status.TheVariants.{Absent, ShelfFailed}
use Rattle.tool_frame.proofs.Ends.{ends_by}
use Rattle.tool_frame.proofs.ending.end_fault.Goals as goal

pub returns-in-Absent : goal.returns-in-Absent
returns-in-Absent g c = rw c.in-Absent.is (ends_by _ Absent (absent_line c.args.name.now) c.ended.ensures c.put_named.ensures)

pub returns-in-Failed : goal.returns-in-Failed
returns-in-Failed g c = rw c.in-Failed.is (ends_by _ ShelfFailed (failed_line c.args.name.now) c.ended-in-Failed.ensures c.put_named-in-Failed.ensures)

pub returns-in-Memory : goal.returns-in-Memory
returns-in-Memory g c = rw c.in-Memory.is (inl (refl, writes_nothing _))
