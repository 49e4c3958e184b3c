use Rattle.hart_board.proofs.Shapes.{step_has, applied_has, events_have}
use Rattle.hart_board.proofs.laws.shape_stays.Goals as goal

pub returns : goal.returns
returns g c = let m = g.D.Device.means in record { step = step_has m; apply = applied_has m; events = λ s es count. events_have m count es s }
