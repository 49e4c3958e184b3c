use Rattle.chain_moves.proofs.Leading.{is_run, list_is_run}
use Rattle.chain_direct.specs.DirectMoves.{direct_machine}
use Rattle.chain_direct.proofs.laws.a_run_is_a_list_of_moves.Goals as goal

pub returns-clause-is : goal.returns-clause-is
returns-clause-is g c = λ es s n. is_run (direct_machine g.D.Device.means es) s n

pub returns-clause-only : goal.returns-clause-only
returns-clause-only g c = λ es s made t h. list_is_run (direct_machine g.D.Device.means es) s made t h
