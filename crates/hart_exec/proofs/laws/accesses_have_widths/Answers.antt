use Rattle.hart_exec.proofs.Effects.{effect_has_width}
use Rattle.hart_exec.proofs.laws.accesses_have_widths.Goals as goal

pub returns : goal.returns
returns c = effect_has_width
