use Rattle.hart_monitor.proofs.Undoing.{session_back, text_back}
use Rattle.hart_monitor.proofs.laws.back_undoes.Goals as goal

pub returns : goal.returns
returns g c =
    let m = g.D.Device.means in
    let kept = c.kept_states_stay.ensures in
    record { session = session_back m kept.step kept.run; text = text_back m kept.step kept.run }
