use Rattle.board_outside.proofs.Writing.{then_writes, stops_writing}
use Rattle.tool_frame.proofs.writing.put_both.Goals as goal

pub returns-in-Ok : goal.returns-in-Ok
returns-in-Ok g c = then_writes c.in-Ok.ensures c.put-in-Ok.ensures

pub returns-in-Err : goal.returns-in-Err
returns-in-Err g c = stops_writing _ c.in-Err.ensures
