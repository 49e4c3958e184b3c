use Rattle.hart_board.proofs.Still.{step_carries_out, tried_retires, tried_raises}
use Rattle.hart_board.proofs.laws.step_is_the_instruction.Goals as goal

pub returns : goal.returns
returns g c = let m = g.D.Device.means in record { step = step_carries_out m; retires = tried_retires m; raises = tried_raises m }
