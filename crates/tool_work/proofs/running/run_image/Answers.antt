use Rattle.std.proofs.Common.{inl, sym, ap, ◌∙◌}
use Rattle.hart_board.specs.State.{State}
use Rattle.tool_words.specs.Run.{view_run}
use Rattle.tool_work.proofs.InShape.{shipped_shape}
use Rattle.tool_work.proofs.RunEnds.{image_runs}
use Rattle.tool_work.proofs.running.run_image.Goals as goal

-- loading an image leaves the shape, which is that of the events
pub run_shipped-end-requires : goal.run_shipped-end-requires
run_shipped-end-requires g c =
    sym (ap (λ (s : State). s.outside.clic.shape) c.load_image.ensures.loads.rest ∙ ap (λ (s : State). s.outside.clic.shape) c.in-Ok.ensures ∙ shipped_shape c.shape.result ∙ c.shape.ensures)

pub returns : goal.returns
returns g c =
    inl (image_runs (view_run c.args.order.now) c.args.image.now c.args.events.now c.shape.result c.in-Ok.board c.load_image.new.board c.run_shipped-end.result
    c.shape.ensures c.in-Ok.ensures c.load_image.ensures.exact c.status_of_end.ensures c.run_shipped-end.ensures.end c.run_shipped-end.ensures.text)
