use Rattle.std.proofs.Common.{sym, ap, ◌∙◌}
use Rattle.hart_board.specs.State.{State}
use Rattle.tool_work.proofs.InShape.{shipped_shape}
use Rattle.tool_work.proofs.chaining.board_with.Goals as goal

-- loading an image leaves the shape, and so does installing a dispatcher
pub returns-clause-shape : goal.returns-clause-shape
returns-clause-shape c =
    sym (ap (λ (s : State). s.outside.clic.shape) c.install.ensures.board ∙ ap (λ (s : State). s.outside.clic.shape) c.load_image.ensures.loads.rest ∙ ap (λ (s : State). s.outside.clic.shape) c.in_ok-board.ensures ∙ shipped_shape c.shape.result ∙ c.shape.ensures)
