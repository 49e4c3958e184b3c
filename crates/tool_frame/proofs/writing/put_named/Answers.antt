use Rattle.std.proofs.Common.{◌≡◌, rules}
use Rattle.board_outside.proofs.Writing.{then_writes, stops_writing}
use Rattle.tool_frame.specs.Lines.{named_line}
use Rattle.tool_frame.proofs.writing.put_named.Goals as goal

pub returns-in-Ok : goal.returns-in-Ok
unfolding named_line
returns-in-Ok g c = let same : c.as_bytes.result.now ≡ c.args.name.now = search rules in rw (← same) (then_writes c.in-Ok.ensures c.put.ensures)

pub returns-in-Err : goal.returns-in-Err
unfolding named_line
returns-in-Err g c = let same : c.as_bytes.result.now ≡ c.args.name.now = search rules in rw (← same) (stops_writing _ c.in-Err.ensures)
