use Rattle.std.proofs.lemmas.Result.{err_from_is_err_and}
use Rattle.tool_frame.specs.Plan.{Makes}
use Rattle.tool_frame.proofs.Ends.{read_on, read_ended, makes}
use Rattle.tool_work.specs.Bench.{empty_bench}
use Rattle.tool_work.specs.Files.{image_limit, image_stage, script_limit, script_stage}
use Rattle.tool_work.specs.Monitor.{monitor_due, script_plan}
use Rattle.tool_work.proofs.monitoring.monitor_files.Goals as goal

pub returns-in_err-image : goal.returns-in_err-image
returns-in_err-image g c =
    let p = err_from_is_err_and c.from_residual.result c.from_residual.ensures.1 in
    rw (p.1, p.2) (read_ended empty_bench _ c.args.order.now.image.now image_limit image_stage (script_plan c.args.order.now.script.now) _ _ _ _ c.in_err-image.ensures)

pub returns-in_err-script : goal.returns-in_err-script
returns-in_err-script g c =
    let p = err_from_is_err_and c.from_residual-in_err-script.result c.from_residual-in_err-script.ensures.1 in
    rw (p.1, p.2) (read_on empty_bench _ c.args.order.now.image.now image_limit image_stage (script_plan c.args.order.now.script.now) _ _ _ _ _ _ _ empty_bench c.in_ok-image.ensures
    (read_ended empty_bench _ c.args.order.now.script.now script_limit script_stage (λ commands. Makes (monitor_due c.in_ok-image.image commands) empty_bench) _ _ _ _ c.in_err-script.ensures))

pub returns : goal.returns
returns g c =
    read_on empty_bench _ c.args.order.now.image.now image_limit image_stage (script_plan c.args.order.now.script.now) _ _ _ _ _ _ _ empty_bench c.in_ok-image.ensures
    (read_on empty_bench _ c.args.order.now.script.now script_limit script_stage (λ commands. Makes (monitor_due c.in_ok-image.image commands) empty_bench) _ _ _ _ _ _ _ empty_bench c.in_ok-script.ensures (makes empty_bench _ c.monitor_image.ensures))
