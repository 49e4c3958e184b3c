use Rattle.chain_time.proofs.Fusing as lemmas
use Rattle.chain_time.proofs.laws.looping_saves_time.Goals as goal

pub returns : goal.returns
returns g c = lemmas.looping_burst_is_bounded g.D.Device.means g.met.D.Device.sound
