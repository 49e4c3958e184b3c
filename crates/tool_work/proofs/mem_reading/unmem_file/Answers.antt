use Rattle.std.proofs.lemmas.Result.{err_from_is_err_and}
use Rattle.tool_frame.specs.Plan.{Makes}
use Rattle.tool_frame.proofs.Ends.{read_on, read_ended, makes}
use Rattle.tool_work.specs.Bench.{empty_bench}
use Rattle.tool_work.specs.Files.{image_due, memory_limit, memory_stage}
use Rattle.tool_work.proofs.mem_reading.unmem_file.Goals as goal

pub returns-in_err-image : goal.returns-in_err-image
returns-in_err-image g c =
    let p = err_from_is_err_and c.from_residual.result c.from_residual.ensures.1 in
    rw (p.1, p.2) (read_ended empty_bench _ c.args.order.now.memory.now memory_limit (memory_stage c.args.order.now.entry) (λ image. Makes (image_due image) empty_bench) _ _ _ _ c.in_err-image.ensures)

pub returns : goal.returns
returns g c =
    read_on empty_bench _ c.args.order.now.memory.now memory_limit (memory_stage c.args.order.now.entry) (λ image. Makes (image_due image) empty_bench) _ _ _ _ _ _ _ empty_bench c.in_ok-image.ensures (makes empty_bench _ c.put_image.ensures)
