use Rattle.chain_direct.proofs.DirectBothRuns.{both_agree}
use Rattle.chain_direct.proofs.laws.both_dispatchers_agree.Goals as goal

pub returns : goal.returns
returns g c = λ es. both_agree g.D.Device.means es g.met.D.Device.sound
