use Rattle.std.proofs.Common.{refl, ◌∙◌}
use Rattle.chain_core.specs.Text.{broken_end}
use Rattle.hart_report.proofs.Texts.{same_text}
use Rattle.chain_core.proofs.telling.put_broken_end.Goals as goal

pub returns : goal.returns
unfolding broken_end
returns g c = same_text (c.bytes.ensures.bytes ∙ rw (c.put_text-3.ensures.bytes, c.put_dec.ensures.bytes, c.put_text-2.ensures.bytes, c.fill_kind.ensures.bytes, c.put_text.ensures.bytes, c.new-line.ensures) refl) c.put.ensures
