use Rattle.chain_moves.proofs.Depth.{depth_small}
use Rattle.chain_core.proofs.laws.the_depth_is_at_most_255.Goals as goal

pub returns : goal.returns
returns g c = λ es from s t n made events h none e. depth_small g.D.Device.means es g.met.D.Device.sound s t from n made events h none e
