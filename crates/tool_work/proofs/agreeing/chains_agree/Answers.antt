use Rattle.std.proofs.Common.{subst}
use Rattle.hart_board.specs.State.{State}
use Rattle.chain_core.specs.Both.{Starts}
use Rattle.tool_work.specs.Shipped.{shipped_meanings}
use Rattle.tool_work.proofs.Agreed.{chained_agree, direct_agree, by_directs}
use Rattle.tool_work.proofs.agreeing.chains_agree.Goals as goal

pub returns : goal.returns
unfolding shipped_meanings
returns c = λ image directs is.
    let start = subst (λ (b : State). Starts shipped_meanings c.args.events.now.list c.args.dispatcher b) is c.can_start.ensures in
    by_directs image c.args.events.now
    (chained_agree shipped_meanings c.args.dispatcher image c.args.events.now start c.both_dispatchers_agree.ensures)
    (direct_agree shipped_meanings c.args.dispatcher image c.args.events.now start c.both_dispatchers_agree-2.ensures)
    directs
