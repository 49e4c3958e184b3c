use Rattle.chain_direct.proofs.DirectReturn.{return_step}
use Rattle.chain_direct.proofs.laws.a_direct_service_returns_in_one_step.Goals as goal

pub returns : goal.returns
returns g c = λ s v x w. return_step g.D.Device.means s v x w
