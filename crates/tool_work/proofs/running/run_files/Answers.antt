use Rattle.std.proofs.lemmas.Result.{err_from_is_err_and}
use Rattle.tool_frame.specs.Plan.{Makes}
use Rattle.tool_frame.proofs.Ends.{read_on, read_ended, makes}
use Rattle.tool_work.specs.Bench.{empty_bench}
use Rattle.tool_work.specs.Files.{image_limit, image_stage, scenario_limit, scenario_stage, scenario_plan}
use Rattle.tool_words.specs.Run.{view_run}
use Rattle.tool_work.specs.Run.{run_due}
use Rattle.tool_work.proofs.running.run_files.Goals as goal

pub returns-in_err-image : goal.returns-in_err-image
returns-in_err-image g c =
    let p = err_from_is_err_and c.from_residual.result c.from_residual.ensures.1 in
    rw (p.1, p.2) (read_ended empty_bench _ c.args.order.now.image.now image_limit image_stage (λ image. scenario_plan c.args.order.now.scenario.now (λ events. Makes (run_due (view_run c.args.order.now) image events) empty_bench)) _ _ _ _ c.in_err-image.ensures)

pub returns-in_err-events : goal.returns-in_err-events
returns-in_err-events g c =
    let p = err_from_is_err_and c.from_residual-in_err-events.result c.from_residual-in_err-events.ensures.1 in
    rw (p.1, p.2) (read_on empty_bench _ c.args.order.now.image.now image_limit image_stage (λ image. scenario_plan c.args.order.now.scenario.now (λ events. Makes (run_due (view_run c.args.order.now) image events) empty_bench)) _ _ _ _ _ _ _ empty_bench c.in_ok-image.ensures
    (read_ended empty_bench _ c.args.order.now.scenario.now scenario_limit scenario_stage (λ events. Makes (run_due (view_run c.args.order.now) c.in_ok-image.image events) empty_bench) _ _ _ _ c.in_err-events.ensures))

pub returns : goal.returns
returns g c =
    read_on empty_bench _ c.args.order.now.image.now image_limit image_stage (λ image. scenario_plan c.args.order.now.scenario.now (λ events. Makes (run_due (view_run c.args.order.now) image events) empty_bench)) _ _ _ _ _ _ _ empty_bench c.in_ok-image.ensures
    (read_on empty_bench _ c.args.order.now.scenario.now scenario_limit scenario_stage (λ events. Makes (run_due (view_run c.args.order.now) c.in_ok-image.image events) empty_bench) _ _ _ _ _ _ _ empty_bench c.in_ok-events.ensures (makes empty_bench _ c.run_image.ensures))
