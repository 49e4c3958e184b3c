use Rattle.std.proofs.Common.{◌≡◌, ◌∙◌, is_ok, subst, inl}
use Rattle.board_outside.specs.Sink.{Writes}
use Rattle.board_inputs.specs.ImageFile.{image_text}
use Rattle.tool_frame.specs.declared.status.Status.TheVariants.{Done}
use Rattle.tool_frame.proofs.Ends.{ends_by}
use Rattle.tool_work.proofs.image_file.put_image.Goals as goal

pub returns-in-Ok : goal.returns-in-Ok
returns-in-Ok g c =
    let text : c.bytes.result.now ≡ image_text c.args.image.now = c.bytes.ensures ∙ c.in-Ok.ensures in
    inl (ends_by _ Done (image_text c.args.image.now) c.ended.ensures (subst (λ t. Writes (is_ok c.put.result) (g.W.Sink.told c.args.out.now) (g.W.Sink.told c.put.new.self) t) text c.put.ensures))
