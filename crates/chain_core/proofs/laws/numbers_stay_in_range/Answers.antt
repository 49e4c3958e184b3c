use Rattle.std.proofs.Common.{refl}
use Rattle.chain_moves.proofs.Depth.{start_range, run_range}
use Rattle.chain_core.proofs.laws.numbers_stay_in_range.Goals as goal

pub returns-clause-start : goal.returns-clause-start
returns-clause-start g c = λ es from b events h. start_range g.D.Device.means es g.met.D.Device.sound b from events h

pub returns-clause-run : goal.returns-clause-run
returns-clause-run g c = λ es from s t n made events h e. run_range g.D.Device.means es g.met.D.Device.sound s.outside.clic.shape.inputs from events s t n made refl h e
