use Rattle.std.proofs.Common.{refl, ◌∙◌}
use Rattle.hart_report.specs.Ends.{vector_end}
use Rattle.hart_report.proofs.Texts.{same_text}
use Rattle.hart_report.proofs.ends.put_vector_end.Goals as goal

pub returns : goal.returns
unfolding vector_end
returns g c = same_text (c.bytes.ensures.bytes ∙ rw (c.put_text-2.ensures.bytes, c.put_dec.ensures.bytes, c.put_text.ensures.bytes, c.new-line.ensures, c.from.ensures) refl) c.put.ensures
