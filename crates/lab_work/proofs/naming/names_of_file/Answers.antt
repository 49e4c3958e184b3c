use Rattle.std.proofs.lemmas.Result.{err_from_is_err_and}
use Rattle.tool_frame.specs.Plan.{Makes}
use Rattle.tool_frame.proofs.Ends.{read_on, read_ended, makes}
use Rattle.lab_work.specs.Files.{elf_limit, symbols_stage}
use Rattle.lab_work.specs.Names.{names_due}
use Rattle.lab_work.proofs.naming.names_of_file.Goals as goal

pub returns-in_err-listed : goal.returns-in_err-listed
returns-in_err-listed g c =
    let p = err_from_is_err_and c.from_residual.result c.from_residual.ensures.1 in
    rw (p.1, p.2) (read_ended tt _ c.args.order.now.file.now elf_limit (symbols_stage c.args.order.now.code) (λ names. Makes (names_due names) tt) _ _ _ _ c.in_err-listed.ensures)

pub returns : goal.returns
returns g c =
    read_on tt _ c.args.order.now.file.now elf_limit (symbols_stage c.args.order.now.code) (λ names. Makes (names_due names) tt) _ _ _ _ _ _ _ tt c.in_ok-listed.ensures (makes tt _ c.write_names.ensures)
