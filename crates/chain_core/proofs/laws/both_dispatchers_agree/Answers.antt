use Rattle.chain_core.proofs.BothRuns.{both_agree}
use Rattle.chain_core.proofs.laws.both_dispatchers_agree.Goals as goal

pub returns : goal.returns
returns g c = λ es. both_agree g.D.Device.means es g.met.D.Device.sound
