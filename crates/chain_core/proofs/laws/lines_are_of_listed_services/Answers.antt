use Rattle.chain_core.proofs.Added.{added_services}
use Rattle.chain_core.proofs.laws.lines_are_of_listed_services.Goals as goal

pub returns : goal.returns
returns g c = added_services g.D.Device.means
