use Rattle.hart_board.proofs.Still.{tried_raised, tried_other}
use Rattle.hart_board.proofs.laws.tried_step_is_the_step.Goals as goal

pub returns : goal.returns
returns g c = let m = g.D.Device.means in record { raised = tried_raised m; other = tried_other m }
