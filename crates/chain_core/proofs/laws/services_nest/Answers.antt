use Rattle.chain_moves.proofs.Nested.{depth_below, run_nests}
use Rattle.chain_core.proofs.laws.services_nest.Goals as goal

pub returns-clause-rising : goal.returns-clause-rising
returns-clause-rising g c = λ es s t n made none e. (run_nests g.D.Device.means es s t n made none e).0

pub returns-clause-depth : goal.returns-clause-depth
returns-clause-depth g c = λ es s t n made none e. depth_below t.live (run_nests g.D.Device.means es s t n made none e).0

pub returns-clause-apart : goal.returns-clause-apart
returns-clause-apart g c = λ es s t n made none e. (run_nests g.D.Device.means es s t n made none e).1
