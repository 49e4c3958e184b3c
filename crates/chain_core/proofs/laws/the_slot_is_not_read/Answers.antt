use Rattle.chain_moves.proofs.Starts.{starts_same}
use Rattle.chain_core.proofs.laws.the_slot_is_not_read.Goals as goal

pub returns : goal.returns
returns g c = starts_same g.D.Device.means
