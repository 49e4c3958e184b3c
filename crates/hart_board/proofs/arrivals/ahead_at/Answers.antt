use Rattle.hart_board.proofs.Taking.{is_next}
use Rattle.hart_board.proofs.arrivals.ahead_at.Goals as goal

pub returns-then-first-len-clause-ahead : goal.returns-then-first-len-clause-ahead
returns-then-first-len-clause-ahead c n later = record { within = c.requires; later = later; next = is_next c.args.events.now.list c.args.first c.get.result c.get.ensures.event }
