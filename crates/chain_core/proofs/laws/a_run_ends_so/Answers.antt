use Rattle.chain_core.proofs.Ends.{ends_so, only_so}
use Rattle.chain_moves.specs.Moves.{servicing_machine}
use Rattle.chain_core.proofs.laws.a_run_ends_so.Goals as goal

pub returns-clause-is : goal.returns-clause-is
returns-clause-is g c = λ es d bound s. ends_so (servicing_machine g.D.Device.means es) d bound s

pub returns-clause-only : goal.returns-clause-only
returns-clause-only g c = λ es d bound s end h. only_so (servicing_machine g.D.Device.means es) d bound s end h
