use Rattle.std.proofs.Common.{◌≡◌, ◌+◌, ◌-◌, ◌^◌, ◌<◌}
use Rattle.lab_positions.specs.Position.{Position, after}
use Rattle.lab_positions.specs.Places.{IsOnTime, IsReached}
use Rattle.lab_positions.proofs.going.go.Given as goal

-- so many steps were made
abbrev pub invariant-loop : goal.invariant-loop
invariant-loop g l =
    let m = g.D.Device.means in
    record {
      position : l.place.position ≡ after m l.timing l.events.list l.fn.place.position l.counter;
      room : l.place.position.steps + (l.count - l.counter) < 2 ^ 64;
      time : IsOnTime m l.events l.place;
      reached : (base : Position) → IsReached m l.timing l.events base l.fn.place → IsReached m l.timing l.events base l.place;
    }
