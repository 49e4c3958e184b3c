use Rattle.chain_core.proofs.Listing.{listed_so}
use Rattle.chain_moves.specs.Moves.{servicing_machine}
use Rattle.chain_core.proofs.laws.services_are_listed.Goals as goal

pub returns : goal.returns
returns g c = λ es d bound s. listed_so (servicing_machine g.D.Device.means es) d bound s
