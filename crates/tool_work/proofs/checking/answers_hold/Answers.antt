use Rattle.std.proofs.Common.{subst}
use Rattle.hart_board.specs.State.{State}
use Rattle.chain_core.specs.Both.{Starts}
use Rattle.tool_work.specs.Shipped.{shipped_meanings}
use Rattle.tool_work.proofs.Answered.{checked, checked_by}
use Rattle.tool_work.proofs.checking.answers_hold.Goals as goal

pub returns : goal.returns
unfolding shipped_meanings
returns c = λ image directs is.
    let start = subst (λ (b : State). Starts shipped_meanings c.args.events.now.list c.args.dispatcher b) is c.can_start.ensures in
    checked_by c.args.dispatcher image c.args.events.now
    (checked c.args.dispatcher image c.args.events.now start c.a_yes_is_sound.ensures c.the_bound_is_sound.ensures c.what_is_listed_is_safe.ensures)
    directs
