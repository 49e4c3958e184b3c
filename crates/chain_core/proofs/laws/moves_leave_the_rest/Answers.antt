use Rattle.chain_moves.proofs.Alone.{leaves_alone}
use Rattle.chain_core.proofs.laws.moves_leave_the_rest.Goals as goal

pub returns : goal.returns
returns g c = λ es s kind t h. leaves_alone g.D.Device.means es s kind t h.1
