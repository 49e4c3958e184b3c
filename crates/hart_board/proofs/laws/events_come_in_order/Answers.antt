use Rattle.hart_board.proofs.Taking.{no_events, is_due, not_due, halted_events}
use Rattle.hart_board.proofs.laws.events_come_in_order.Goals as goal

pub returns : goal.returns
returns g c =
    let m = g.D.Device.means in
    record {
      none = λ s count. no_events m count s;
      due = λ s count e es same. is_due m count e es s same;
      other = λ s count e es other. not_due m count e es s other;
      halted = λ s count code es h. halted_events m count es s code h;
    }
