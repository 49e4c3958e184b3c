use Rattle.hart_monitor.proofs.Plain.{reset_plain, loaded_plain}
use Rattle.hart_monitor.proofs.laws.new_boards_are_plain.Goals as goal

pub returns : goal.returns
returns g c = record { made = reset_plain g.D.Device.means; loaded = loaded_plain }
