use Rattle.chain_certify.proofs.Closed as lemmas
use Rattle.chain_certify.proofs.laws.a_certificate_is_sound.Goals as goal

pub returns : goal.returns
returns g c = lemmas.yes_is_sound g.D.Device.means g.met.D.Device.sound
