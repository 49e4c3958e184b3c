use Rattle.std.proofs.lemmas.Result.{err_from_is_err_and}
use Rattle.tool_frame.specs.Plan.{Makes}
use Rattle.tool_frame.proofs.Ends.{read_on, read_ended, makes}
use Rattle.tool_work.specs.Files.{image_due}
use Rattle.lab_work.specs.Files.{elf_limit, elf_stage}
use Rattle.lab_work.proofs.imaging.image_of_file.Goals as goal

pub returns-in_err-image : goal.returns-in_err-image
returns-in_err-image g c =
    let p = err_from_is_err_and c.from_residual.result c.from_residual.ensures.1 in
    rw (p.1, p.2) (read_ended tt _ c.args.order.now.file.now elf_limit elf_stage (λ image. Makes (image_due image) tt) _ _ _ _ c.in_err-image.ensures)

pub returns : goal.returns
returns g c =
    read_on tt _ c.args.order.now.file.now elf_limit elf_stage (λ image. Makes (image_due image) tt) _ _ _ _ _ _ _ tt c.in_ok-image.ensures (makes tt _ c.put_image.ensures)
