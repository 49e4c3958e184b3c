use Rattle.chain_core.proofs.BothRuns.{broken_alike}
use Rattle.chain_core.proofs.laws.a_chain_is_broken_alike.Goals as goal

pub returns : goal.returns
returns g c = λ es. broken_alike g.D.Device.means es
