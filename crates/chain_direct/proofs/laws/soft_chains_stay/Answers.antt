use Rattle.chain_moves.specs.Start.{begun}
use Rattle.chain_direct.proofs.NothingDirect.{same_end}
use Rattle.chain_direct.proofs.SoftChains.{same_text}
use Rattle.chain_direct.proofs.laws.soft_chains_stay.Goals as goal

pub returns-clause-end : goal.returns-clause-end
returns-clause-end g c = λ es d bound b soft. same_end g.D.Device.means es d bound (begun g.D.Device.means es b) soft

pub returns-clause-text : goal.returns-clause-text
returns-clause-text g c = λ es d trace bound b starts soft. same_text g.D.Device.means es g.met.D.Device.sound d bound b trace starts soft
