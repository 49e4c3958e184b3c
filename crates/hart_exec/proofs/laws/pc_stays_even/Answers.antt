use Rattle.hart_exec.proofs.Effects.{effect_stays_even}
use Rattle.hart_exec.proofs.laws.pc_stays_even.Goals as goal

pub returns : goal.returns
returns c = effect_stays_even
