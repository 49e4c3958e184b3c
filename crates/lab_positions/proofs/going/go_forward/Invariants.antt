use Rattle.std.proofs.Common.{◌≡◌, ◌+◌, ◌-◌, ◌^◌, ◌<◌, None}
use Rattle.std.specs.List.{All}
use Rattle.lab_positions.specs.Position.{Position}
use Rattle.lab_positions.specs.Watching.{first_changed}
use Rattle.lab_positions.specs.Forward.{forward_in}
use Rattle.lab_positions.specs.Places.{IsOnTime, IsReached}
use Rattle.lab_positions.proofs.going.go_forward.Given as goal

-- the steps that are left lead where all lead, and what is watched is as it was
abbrev pub invariant-loop : goal.invariant-loop
invariant-loop g l =
    let m = g.D.Device.means in
    record {
      stop : forward_in m l.timing l.events.list l.sought (l.most - l.counter) l.place.position ≡ forward_in m l.timing l.events.list l.sought l.most l.fn.place.position;
      room : l.place.position.steps + (l.most - l.counter) < 2 ^ 64;
      time : IsOnTime m l.events l.place;
      same : first_changed l.before.present l.place.position.stand.board.memory l.sought.watches ≡ None;
      reached : (base : Position) → IsReached m l.timing l.events base l.fn.place → IsReached m l.timing l.events base l.place;
      rungs : (base : Position) → IsReached m l.timing l.events base l.fn.place → All (IsReached m l.timing l.events base) l.fn.rungs.items → All (IsReached m l.timing l.events base) l.rungs.items;
    }
