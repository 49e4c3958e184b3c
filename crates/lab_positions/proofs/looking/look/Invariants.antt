use Rattle.std.proofs.Common.{◌≡◌, ◌+◌, ◌-◌, ◌^◌, ◌<◌, None}
use Rattle.lab_positions.specs.Watching.{first_changed}
use Rattle.lab_positions.specs.Backward.{latest}
use Rattle.lab_positions.specs.Looking.{shown, else_found}
use Rattle.lab_positions.specs.Places.{IsOnTime}
use Rattle.lab_positions.proofs.looking.look.Given as goal

-- what is found on the rest of the way, else what was found so far, is what is found on all of it
abbrev pub invariant-loop : goal.invariant-loop
invariant-loop g l =
    let m = g.D.Device.means in
    record {
      seen : else_found (shown (latest m l.timing l.events.list l.sought (l.count - l.counter) l.place.position)) l.found ≡ shown (latest m l.timing l.events.list l.sought l.count l.fn.place.position);
      room : l.place.position.steps + (l.count - l.counter) < 2 ^ 64;
      time : IsOnTime m l.events l.place;
      same : first_changed l.before.present l.place.position.stand.board.memory l.sought.watches ≡ None;
    }
