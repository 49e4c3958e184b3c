use Rattle.std.proofs.Common.{sym}
use Rattle.std.proofs.lemmas.Result.{err_from_is_err_and}
use Rattle.tool_frame.proofs.Ends.{read_on, read_ended}
use Rattle.tool_work.specs.Files.{image_limit, image_stage, scenario_limit, scenario_stage, scenario_plan}
use Rattle.lab_words.specs.Trace.{view_trace}
use Rattle.lab_work.specs.Trace.{taken_for, named_plan, slot_plan}
use Rattle.lab_work.proofs.TraceEnds.{slot_taken, slot_free}
use Rattle.lab_work.proofs.tracing.trace_files.Goals as goal

pub returns-in_err-image : goal.returns-in_err-image
returns-in_err-image g c =
    let p = err_from_is_err_and c.from_residual.result c.from_residual.ensures.1 in
    rw (p.1, p.2) (read_ended tt _ c.args.order.now.image.now image_limit image_stage (λ image. scenario_plan c.args.order.now.scenario.now (slot_plan (view_trace c.args.order.now) image)) _ _ _ _ c.in_err-image.ensures)

pub returns-in_err-events : goal.returns-in_err-events
returns-in_err-events g c =
    let p = err_from_is_err_and c.from_residual-in_err-events.result c.from_residual-in_err-events.ensures.1 in
    rw (p.1, p.2) (read_on tt _ c.args.order.now.image.now image_limit image_stage (λ image. scenario_plan c.args.order.now.scenario.now (slot_plan (view_trace c.args.order.now) image)) _ _ _ _ _ _ _ tt c.in_ok-image.ensures
    (read_ended tt _ c.args.order.now.scenario.now scenario_limit scenario_stage (slot_plan (view_trace c.args.order.now) c.in_ok-image.image) _ _ _ _ c.in_err-events.ensures))

pub returns-in-Some : goal.returns-in-Some
returns-in-Some g c =
    read_on tt _ c.args.order.now.image.now image_limit image_stage (λ image. scenario_plan c.args.order.now.scenario.now (slot_plan (view_trace c.args.order.now) image)) _ _ _ _ _ _ _ tt c.in_ok-image.ensures
    (read_on tt _ c.args.order.now.scenario.now scenario_limit scenario_stage (slot_plan (view_trace c.args.order.now) c.in_ok-image.image) _ _ _ _ _ _ _ tt c.in_ok-events.ensures
    (slot_taken tt (taken_for c.args.order.now.chaining c.in_ok-image.image) c.in-Some.at (named_plan (view_trace c.args.order.now) c.in_ok-image.image c.in_ok-events.events) _ (sym c.in-Some.ensures) c.line_of_slot.ensures c.end_refused.ensures))

pub returns : goal.returns
returns g c =
    read_on tt _ c.args.order.now.image.now image_limit image_stage (λ image. scenario_plan c.args.order.now.scenario.now (slot_plan (view_trace c.args.order.now) image)) _ _ _ _ _ _ _ tt c.in_ok-image.ensures
    (read_on tt _ c.args.order.now.scenario.now scenario_limit scenario_stage (slot_plan (view_trace c.args.order.now) c.in_ok-image.image) _ _ _ _ _ _ _ tt c.in_ok-events.ensures
    (slot_free tt (taken_for c.args.order.now.chaining c.in_ok-image.image) (named_plan (view_trace c.args.order.now) c.in_ok-image.image c.in_ok-events.events) (sym c.in-None.ensures) c.trace_with_names.ensures))
