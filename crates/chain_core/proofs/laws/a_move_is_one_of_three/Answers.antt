use Rattle.chain_moves.proofs.OneOfThree.{alone, is_one, one_is}
use Rattle.chain_core.proofs.laws.a_move_is_one_of_three.Goals as goal

pub returns-clause-is : goal.returns-clause-is
returns-clause-is g c = is_one g.D.Device.means

pub returns-clause-only : goal.returns-clause-only
returns-clause-only g c = one_is g.D.Device.means

pub returns-clause-alone : goal.returns-clause-alone
returns-clause-alone g c = alone g.D.Device.means
