use Rattle.chain_certify.proofs.Closed as lemmas
use Rattle.chain_certify.proofs.laws.the_bound_is_sound.Goals as goal

pub returns : goal.returns
returns g c = lemmas.bound_is_sound g.D.Device.means g.met.D.Device.sound
