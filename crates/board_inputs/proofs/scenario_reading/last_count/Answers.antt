use Rattle.std.proofs.Common.{◌-◌, sym, arith}
use Rattle.board_inputs.proofs.LineLoop.{last_is}
use Rattle.board_inputs.proofs.scenario_reading.last_count.Goals as goal

pub returns : goal.returns
returns c = sym (last_is 0 c.args.events.now.list (c.len-count.result - 1) c.get.result (omega (arith, c.len-count.ensures, c.if-count-eq0.false)) c.get.ensures.event)
