use Rattle.hart_exec.proofs.Effects.{effect_in_bounds}
use Rattle.hart_exec.proofs.laws.effects_are_in_bounds.Goals as goal

pub returns : goal.returns
returns c = effect_in_bounds
