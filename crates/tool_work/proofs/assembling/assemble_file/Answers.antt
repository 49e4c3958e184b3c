use Rattle.std.proofs.lemmas.Result.{err_from_is_err_and}
use Rattle.rv_assembler.specs.declared.assembling.TheConstants.{MAX_SOURCE}
use Rattle.tool_frame.specs.Plan.{Makes}
use Rattle.tool_frame.proofs.Ends.{read_on, read_ended, makes}
use Rattle.tool_work.specs.Bench.{empty_bench}
use Rattle.tool_work.specs.Files.{source_stage}
use Rattle.tool_words.specs.Assemble.{view_assemble}
use Rattle.tool_work.specs.Assemble.{program_due}
use Rattle.tool_work.proofs.assembling.assemble_file.Goals as goal

pub returns-in_err-assembled : goal.returns-in_err-assembled
returns-in_err-assembled g c =
    let p = err_from_is_err_and c.from_residual.result c.from_residual.ensures.1 in
    rw (p.1, p.2) (read_ended empty_bench _ c.args.order.now.source.now MAX_SOURCE source_stage (λ a. Makes (program_due (view_assemble c.args.order.now) a) empty_bench) _ _ _ _ c.in_err-assembled.ensures)

pub returns : goal.returns
returns g c =
    read_on empty_bench _ c.args.order.now.source.now MAX_SOURCE source_stage (λ a. Makes (program_due (view_assemble c.args.order.now) a) empty_bench) _ _ _ _ _ _ _ empty_bench c.in_ok-assembled.ensures (makes empty_bench _ c.write_program.ensures)
