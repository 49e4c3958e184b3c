use Rattle.lab_positions.proofs.Times.{reached_copy}
use Rattle.lab_positions.proofs.rungs.keep_rung.Goals as goal

pub returns-in-Ok : goal.returns-in-Ok
returns-in-Ok g c = λ timing events base here all. c.put_rung.ensures timing events base (reached_copy g.D.Device.means timing events base c.args.place.now c.in-Ok.copy c.in-Ok.ensures here) all
