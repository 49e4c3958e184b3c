use Rattle.std.proofs.lemmas.Bool.{eqb-false}
use Rattle.hart_board.proofs.Taking.{ahead_later}
use Rattle.hart_board.proofs.arrivals.is_due.Goals as goal

pub returns-then-i-len-clause-later : goal.returns-then-i-len-clause-later
returns-then-i-len-clause-later c other ahead = ahead_later c.args.events.now.shape.inputs c.args.count c.args.events.now.list c.args.i c.get.result c.get.ensures.event ahead (eqb-false c.get.result.at c.args.count other)
