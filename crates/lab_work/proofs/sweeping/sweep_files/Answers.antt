use Rattle.std.proofs.lemmas.Result.{err_from_is_err_and}
use Rattle.tool_frame.proofs.Ends.{read_on, read_ended}
use Rattle.tool_work.specs.Files.{image_limit, image_stage, scenario_limit, scenario_stage, scenario_plan}
use Rattle.lab_words.specs.Sweep.{view_sweep}
use Rattle.lab_work.specs.Sweep.{event_plan}
use Rattle.lab_work.proofs.sweeping.sweep_files.Goals as goal

pub returns-in_err-image : goal.returns-in_err-image
returns-in_err-image g c =
    let p = err_from_is_err_and c.from_residual.result c.from_residual.ensures.1 in
    rw (p.1, p.2) (read_ended tt _ c.args.order.now.image.now image_limit image_stage (λ image. scenario_plan c.args.order.now.scenario.now (event_plan (view_sweep c.args.order.now) image)) _ _ _ _ c.in_err-image.ensures)

pub returns-in_err-events : goal.returns-in_err-events
returns-in_err-events g c =
    let p = err_from_is_err_and c.from_residual-in_err-events.result c.from_residual-in_err-events.ensures.1 in
    rw (p.1, p.2) (read_on tt _ c.args.order.now.image.now image_limit image_stage (λ image. scenario_plan c.args.order.now.scenario.now (event_plan (view_sweep c.args.order.now) image)) _ _ _ _ _ _ _ tt c.in_ok-image.ensures
    (read_ended tt _ c.args.order.now.scenario.now scenario_limit scenario_stage (event_plan (view_sweep c.args.order.now) c.in_ok-image.image) _ _ _ _ c.in_err-events.ensures))

pub returns : goal.returns
returns g c =
    read_on tt _ c.args.order.now.image.now image_limit image_stage (λ image. scenario_plan c.args.order.now.scenario.now (event_plan (view_sweep c.args.order.now) image)) _ _ _ _ _ _ _ tt c.in_ok-image.ensures
    (read_on tt _ c.args.order.now.scenario.now scenario_limit scenario_stage (event_plan (view_sweep c.args.order.now) c.in_ok-image.image) _ _ _ _ _ _ _ tt c.in_ok-events.ensures (c.sweep_event.ensures _))
