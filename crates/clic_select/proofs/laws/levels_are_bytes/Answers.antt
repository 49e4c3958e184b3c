use Rattle.clic_select.proofs.Tops.{top_level-lt}
use Rattle.clic_select.proofs.laws.levels_are_bytes.Goals as goal

pub returns : goal.returns
returns c s t h e = top_level-lt s t h.nlbits h.controls e
