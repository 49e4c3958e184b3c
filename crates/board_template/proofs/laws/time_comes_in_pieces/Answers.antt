use Rattle.board_template.proofs.Timing.{alarm_wakes_in_time, watchdog_halts_in_time}
use Rattle.board_template.proofs.laws.time_comes_in_pieces.Goals as goal

pub returns-clause-wakes : goal.returns-clause-wakes
returns-clause-wakes c = alarm_wakes_in_time

pub returns-clause-halts : goal.returns-clause-halts
returns-clause-halts c = watchdog_halts_in_time
