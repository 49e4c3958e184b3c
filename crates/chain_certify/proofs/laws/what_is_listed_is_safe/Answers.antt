use Rattle.chain_certify.proofs.Closed as lemmas
use Rattle.chain_certify.proofs.laws.what_is_listed_is_safe.Goals as goal

pub returns : goal.returns
returns g c = lemmas.listed_is_safe g.D.Device.means g.met.D.Device.sound
