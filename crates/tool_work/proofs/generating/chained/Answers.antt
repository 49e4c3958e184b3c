use Rattle.std.proofs.Common.{refl}
use Rattle.tool_work.specs.Shipped.{shipped_meanings}
use Rattle.tool_work.proofs.GenEnds.{all_taken}
use Rattle.tool_work.proofs.generating.chained.Goals as goal

pub returns-clause-end : goal.returns-clause-end
unfolding shipped_meanings
returns-clause-end c = (c.chain.ensures.end (all_taken _ refl refl c.chain.ensures.text)).0

pub returns-clause-board : goal.returns-clause-board
unfolding shipped_meanings
returns-clause-board c = (c.chain.ensures.end (all_taken _ refl refl c.chain.ensures.text)).1

pub returns-clause-served : goal.returns-clause-served
unfolding shipped_meanings
returns-clause-served c = record { services = c.chain.ensures.services; state = c.chain.ensures.state }
