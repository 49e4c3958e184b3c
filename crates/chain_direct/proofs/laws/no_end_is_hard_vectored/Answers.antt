use Rattle.chain_direct.specs.DirectMoves.{direct_start}
use Rattle.chain_direct.proofs.NoneHard.{never_breaks, never_ends}
use Rattle.chain_direct.proofs.laws.no_end_is_hard_vectored.Goals as goal

pub returns-clause-breaks : goal.returns-clause-breaks
returns-clause-breaks g c = never_breaks g.D.Device.means

pub returns-clause-end : goal.returns-clause-end
returns-clause-end g c = λ es d bound b. never_ends g.D.Device.means es d bound (direct_start g.D.Device.means es b)
