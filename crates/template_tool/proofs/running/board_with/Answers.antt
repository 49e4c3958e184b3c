use Rattle.std.proofs.Common.{sym, ap, ◌∙◌}
use Rattle.hart_board.specs.State.{State}
use Rattle.template_tool.proofs.InShape.{reset_shape}
use Rattle.template_tool.proofs.running.board_with.Goals as goal

-- loading an image leaves the shape
pub returns-clause-shape : goal.returns-clause-shape
returns-clause-shape g c =
    sym (ap (λ (s : State). s.outside.clic.shape) c.load_image.ensures.loads.rest ∙ ap (λ (s : State). s.outside.clic.shape) c.in_ok-board.ensures ∙ reset_shape g.D.Device.means c.shape.result (g.D.Device.state c.args.devices) ∙ c.shape.ensures)
