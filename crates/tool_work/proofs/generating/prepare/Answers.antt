use Rattle.std.proofs.Common.{ap, ◌∙◌}
use Rattle.hart_board.specs.State.{State}
use Rattle.tool_work.proofs.InShape.{shipped_level}
use Rattle.tool_work.proofs.generating.prepare.Goals as goal

pub returns-clause-ready : goal.returns-clause-ready
returns-clause-ready c = record {
  has = c.in_ok-board.ensures.has;
  level = ap (λ (s : State). s.csrs.mil) c.in_ok-board.ensures.board ∙ shipped_level c.args.events.now.shape;
  new = c.in_ok-watch.ensures;
  shape = c.in_ok-board.ensures.shape;
}
