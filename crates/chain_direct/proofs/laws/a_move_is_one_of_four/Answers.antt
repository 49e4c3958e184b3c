use Rattle.chain_direct.proofs.FourMoves.{alone_of_four, is_one_of_four, one_of_four_is}
use Rattle.chain_direct.proofs.laws.a_move_is_one_of_four.Goals as goal

pub returns-clause-is : goal.returns-clause-is
returns-clause-is g c = is_one_of_four g.D.Device.means

pub returns-clause-only : goal.returns-clause-only
returns-clause-only g c = one_of_four_is g.D.Device.means

pub returns-clause-alone : goal.returns-clause-alone
returns-clause-alone g c = alone_of_four g.D.Device.means
