use Rattle.hart_board.proofs.Still.{told_halted, halted_stays, told_missing, missing_stays}
use Rattle.hart_board.proofs.laws.halts_and_missing_vectors_change_nothing.Goals as goal

pub returns : goal.returns
returns g c = let m = g.D.Device.means in record { halted = told_halted m; halts = halted_stays m; missing = told_missing m; misses = missing_stays m }
