use Rattle.chain_direct.proofs.DirectBodies.{direct_body_turns}
use Rattle.chain_direct.proofs.laws.a_direct_body_is_one_step.Goals as goal

pub returns : goal.returns
returns g c = λ es d s v x from events r goes. direct_body_turns g.D.Device.means es d s v x g.met.D.Device.sound from events r goes
